use Rattle.std.proofs.Common.{◌<◌, ◌++◌, ◌∷◌, [], ℕ, List, length, take, All, Contains, get_or, sym, ap, subst}
use Rattle.std.proofs.Common.{◌∙◌, append_assoc, arith}
use Rattle.std.specs.Prelude.{true}
use Rattle.std.proofs.lemmas.List.{take_all}
use Rattle.std.proofs.lemmas.List.Elements.{All-push, Contains-append_left, Contains-append_right}
use Rattle.node_judges.specs.Settings.{left_in}
use Rattle.weight_judge.specs.declared.claims.Claim.{Claim}
use Rattle.node_judges.specs.Weighed.{cells_claimed, DecidesFreeOnce}
use Rattle.node_judges.proofs.TestLemmas.{off_true}
use Rattle.node_judges.proofs.ClaimedLemmas.{cells_more, free_more, cell_there, repeated_or_lit, decides_once}
use Rattle.node_judges.proofs.ClaimedLemmas.{decides_not}
use Rattle.node_judges.proofs.weighted.are_free_once.Goals as goal

pub returns-then-has-clause-once : goal.returns-then-has-clause-once
returns-then-has-clause-once c =
    let none : Claim = record { group = 0; capacity = 0; cell = 0; weight = 0 } in
    let cells = left_in c.args.setting.now in
    decides_not c.args.setting.now.lists.now cells c.args.setting.now.chosen.now.items
    (cells_claimed c.args.claims.now) (length c.args.seen.now.counts)
    (repeated_or_lit c.args.setting.now.lists.now cells c.args.setting.now.chosen.now.items c.args.claims.now
    c.loop-claim.claim-index none c.loop-claim-test.true c.mark_lit.new.tally.items c.in_ok-mark_lit.ensures.lit
    (subst (λ (l : List ℕ). Contains l (get_or c.args.claims.now c.loop-claim.claim-index none).cell)
    c.loop-claim.invariant.seen (c.has.ensures.has.0 c.if-has.true)))

pub returns-then-not-is_left-clause-once : goal.returns-then-not-is_left-clause-once
returns-then-not-is_left-clause-once c =
    let none : Claim = record { group = 0; capacity = 0; cell = 0; weight = 0 } in
    let cells = left_in c.args.setting.now in
    decides_not c.args.setting.now.lists.now cells c.args.setting.now.chosen.now.items
    (cells_claimed c.args.claims.now) (length c.args.seen.now.counts)
    (λ s. off_true c.is_left.result c.if-not-is_left.true (c.is_left.ensures.left.1
    (s.free (get_or c.args.claims.now c.loop-claim.claim-index none).cell
    (cell_there c.args.setting.now.lists.now cells c.args.setting.now.chosen.now.items c.args.claims.now
    c.loop-claim.claim-index none c.loop-claim-test.true)).of_it))

pub loop-claim-preserved : goal.loop-claim-preserved
loop-claim-preserved c =
    let none : Claim = record { group = 0; capacity = 0; cell = 0; weight = 0 } in
    let cells = left_in c.args.setting.now in
    let i = c.loop-claim.claim-index in
    let claim = get_or c.args.claims.now i none in
    let old = c.loop-claim.invariant in
    let lit = c.mark_lit.new.tally.items in
    let before = cells_claimed (take i c.args.claims.now) in
    let more = cells_more c.args.claims.now i none c.loop-claim-test.true in
    let low : claim.cell < length c.args.seen.now.counts =
    omega (arith, c.is_left.ensures.inside c.if-not-is_left.false, c.requires.wide) in
    let unseen = λ (h : Contains (lit ++ before) claim.cell). off_true c.has.result c.if-has.false (c.has.ensures.has.1
    (subst (λ (l : List ℕ). Contains l claim.cell) (sym old.seen) h)) in
    record {
      whole = c.in_ok-push.ensures.whole ∙ old.whole;
      seen = c.in_ok-push.ensures.items (omega (arith, low, old.whole))
          ∙ ap (λ (l : List ℕ). l ++ claim.cell ∷ []) old.seen ∙ append_assoc lit before (claim.cell ∷ [])
          ∙ ap (λ (l : List ℕ). lit ++ l) (sym more);
      once = free_more c.args.setting.now.lists.now cells c.args.setting.now.chosen.now.items c.args.claims.now i none
          c.loop-claim-test.true old.once
          (λ h. unseen (Contains-append_right lit before claim.cell h))
          (record {
            of_it = c.is_left.ensures.left.0 c.if-not-is_left.false;
            unlit = λ m. unseen (Contains-append_left lit before claim.cell
                ((c.in_ok-mark_lit.ensures.lit.each claim.cell).1 m));
          });
      below = subst (All (λ (cell : ℕ). cell < length c.args.seen.now.counts)) (sym more)
          (All-push (λ (cell : ℕ). cell < length c.args.seen.now.counts) _ claim.cell old.below low);
    }

pub returns-clause-once : goal.returns-clause-once
returns-clause-once c =
    let all = take_all c.loop-claim.claim-index c.args.claims.now c.loop-claim-test.false in
    let cells = left_in c.args.setting.now in
    subst (λ (l : List Claim). DecidesFreeOnce c.args.setting.now.lists.now cells c.args.setting.now.chosen.now.items
    (cells_claimed l) (length c.args.seen.now.counts) true) all
    (decides_once c.args.setting.now.lists.now cells c.args.setting.now.chosen.now.items _
    (length c.args.seen.now.counts) c.loop-claim.invariant.once c.loop-claim.invariant.below)
