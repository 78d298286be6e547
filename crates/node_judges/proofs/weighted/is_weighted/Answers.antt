use Rattle.std.proofs.Common.{List, ℕ, ◌≤◌, length, sym, ap, subst, ◌∙◌, inr, arith}
use Rattle.std.specs.Prelude.{Bool, true, false}
use Rattle.lit_lists.specs.Lists.{LitLists}
use Rattle.proof_rules.specs.declared.groups.Group.{Group}
use Rattle.weight_judge.specs.declared.claims.Claim.{Claim}
use Rattle.weight_judge.specs.Claims.{claims_of, AreClaims}
use Rattle.weight_judge.proofs.ClaimLemmas.{are_claims, claim_cells}
use Rattle.node_judges.specs.Loads.{DecidesKept}
use Rattle.node_judges.specs.Settings.{left_in}
use Rattle.node_judges.specs.Weighed.{cells_claimed, AreFreeOnce, DecidesFreeOnce, DecidesWeighted, HaveCapacities}
use Rattle.node_judges.proofs.weighted.is_weighted.Goals as goal

pub keep_open-requires-clause-claims : goal.keep_open-requires-clause-claims
keep_open-requires-clause-claims c =
    subst AreClaims (sym (c.deref-2.ensures.value ∙ c.in_ok-claims.ensures)) (are_claims c.args.groups.now)

-- groups with capacities and free cells, each once, are decided by what the places hold
decides_kept : (lists : LitLists) (cells chosen barred : List ℕ) (most : ℕ) (groups : List Group) (result : Bool)
    → HaveCapacities groups → AreFreeOnce lists cells chosen (cells_claimed (claims_of groups))
    → length (cells_claimed (claims_of groups)) ≤ most → DecidesKept lists barred (claims_of groups) result
    → DecidesWeighted lists cells chosen barred most groups result
decides_kept lists cells chosen barred most groups true some free few kept = record {
  decides = record { some = some; free = free; places = kept.0; left = kept.1; kept = kept.2 };
  few = λ t. omega (arith, few, ap length (claim_cells 0 groups));
}
decides_kept lists cells chosen barred most groups false some free few kept =
    record { decides = inr (inr kept); few = λ t. absurd cc }

pub returns-clause-weighted : goal.returns-clause-weighted
returns-clause-weighted c =
    let lists = c.args.setting.now.lists.now in
    let cells = left_in c.args.setting.now in
    let chosen = c.args.setting.now.chosen.now.items in
    let barred = c.args.setting.now.barred.now.items in
    let most = length c.args.seen.now.counts in
    let once = subst (λ (l : List Claim). DecidesFreeOnce lists cells chosen (cells_claimed l) most c.in_ok-free.free)
    (c.deref.ensures.value ∙ c.in_ok-claims.ensures) c.in_ok-free.ensures.once in
    decides_kept lists cells chosen barred most c.args.groups.now c.keep_open.result
    (c.have_capacities.ensures.0 c.if-not-have_capacities.false) (once.decides.0 c.if-not-free.false)
    (once.few c.if-not-free.false)
    (subst (λ (l : List Claim). DecidesKept lists barred l c.keep_open.result)
    (c.deref-2.ensures.value ∙ c.in_ok-claims.ensures) c.keep_open.ensures.kept)
