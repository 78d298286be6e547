use Rattle.std.proofs.Common.{ℕ, List, sym, subst, ◌∙◌}
use Rattle.std.proofs.lemmas.Bool.{true≢false, false≢true}
use Rattle.pack_bound.specs.Judged.{AreMarked, AreUnlitOnce}
use Rattle.weight_judge.specs.Claims.{AreClaims}
use Rattle.weight_judge.proofs.ClaimLemmas.{are_claims}
use Rattle.tree_judges.proofs.WeightedLemmas.{may_stand, stands}
use Rattle.tree_judges.proofs.weighted_leaf.may_be_weighted.Goals as goal

pub open_lists-requires-clause-marked : goal.open_lists-requires-clause-marked
open_lists-requires-clause-marked c = subst (λ (l : List ℕ). AreMarked c.args.node.now.unlit l c.mark_unlit.new.marks)
    (c.deref.ensures.value ∙ c.in_ok-cells.ensures) (c.mark_unlit.ensures.marked c.if-not-mark_unlit.false)

pub keep_capacities-requires-clause-claims : goal.keep_capacities-requires-clause-claims
keep_capacities-requires-clause-claims c = subst AreClaims (sym c.requires.claims) (are_claims c.args._groups.now)

pub returns-then-not-mark_unlit : goal.returns-then-not-mark_unlit
returns-then-not-mark_unlit c = (
  λ t. absurd (false≢true t),
  λ m. absurd (true≢false (sym (c.mark_unlit.ensures.once.1
      (subst (AreUnlitOnce c.args.node.now.unlit) (sym (c.deref.ensures.value ∙ c.in_ok-cells.ensures))
      (stands c.args.region.now c.args.node.now c.args._groups.now c.args.claims.now c.requires.state
      c.requires.claims m).0)) ∙ c.if-not-mark_unlit.true)),
)

pub returns : goal.returns
returns c =
    let marked = subst (λ (l : List ℕ). AreMarked c.args.node.now.unlit l c.mark_unlit.new.marks)
    (c.deref.ensures.value ∙ c.in_ok-cells.ensures) (c.mark_unlit.ensures.marked c.if-not-mark_unlit.false) in (
      λ kept. may_stand c.args.region.now c.args.node.now c.args._groups.now c.args.claims.now c.mark_unlit.new.marks
          c.in_ok-lists.lists c.requires.state c.requires.groups c.requires.claims marked c.in_ok-lists.ensures
          (c.in_ok-kept.ensures.0 kept),
      λ m. c.in_ok-kept.ensures.1 ((stands c.args.region.now c.args.node.now c.args._groups.now c.args.claims.now
          c.requires.state c.requires.claims m).1 c.in_ok-lists.lists c.in_ok-lists.ensures),
    )
