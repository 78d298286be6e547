use Rattle.std.proofs.Common.{◌≡◌, ℕ, length, subst, arith}
use Rattle.std.proofs.lemmas.List.{get_or_default}
use Rattle.pack_bound.specs.Judged.{AreKidPlaces}
use Rattle.weight_judge.specs.declared.claims.Claim.{Claim}
use Rattle.tree_judges.proofs.OpenLemmas.{AreListsTo, lists_go_on, lists_end}
use Rattle.tree_judges.proofs.open_lists.open_lists.Goals as goal

abbrev none : Claim
none = record { group = 0; capacity = 0; cell = 0; weight = 0 }

pub loop-claim-preserved : goal.loop-claim-preserved
loop-claim-preserved c = rw c.in_ok-push.ensures
    (lists_go_on c.args.region.now c.args.node.now c.args.claims.now c.loop-claim.claim-index c.loop-claim.lists
    c.in_ok-open_places.field-0.items c.loop-claim.invariant
    (λ d. subst (λ (claim : Claim). AreKidPlaces c.args.region.now c.args.node.now claim.cell
    c.in_ok-open_places.field-0.items)
    (get_or_default c.args.claims.now c.loop-claim.claim-index none d c.loop-claim-test.true)
    c.in_ok-open_places.ensures))

pub returns : goal.returns
returns c =
    let all : c.loop-claim.claim-index ≡ length c.args.claims.now = omega arith in
    lists_end c.args.region.now c.args.node.now c.args.claims.now c.loop-claim.lists
    (subst (λ (n : ℕ). AreListsTo c.args.region.now c.args.node.now c.args.claims.now n c.loop-claim.lists) all
    c.loop-claim.invariant)
