use Rattle.std.proofs.Common.{◌<◌, ◌∙◌, length, subst, sym, ap, arith, List, ℕ}
use Rattle.std.proofs.Common.{take, false}
use Rattle.std.proofs.lemmas.Bool.{true≢false}
use Rattle.proof_rules.specs.Omitted.{MayBeOmitted}
use Rattle.proof_rules.specs.Tree.{Tree, Forest}
use Rattle.proof_tree.specs.declared.proof.Proof.{Proof}
use Rattle.proof_tree.specs.Shape.{tree_of, forest_of, tree_size}
use Rattle.set_cover.specs.Bits.{Has, IsRowOf, IsWithout}
use Rattle.pack_bound.specs.Indices.{cell_indices}
use Rattle.pack_bound.specs.Nodes.{IsKidAt}
use Rattle.pack_bound.proofs.JudgeLemmas.{unlit_inside, not_has}
use Rattle.tree_judges.specs.Decided.{Decides, DecidesWithout, DecidesKids}
use Rattle.pack_bound.proofs.NodeLemmas.{same_state}
use Rattle.tree_judges.proofs.BarLemmas.{barred_state}
use Rattle.tree_judges.proofs.KidLemmas.{kid_place, kid_state, tree_below, judged_next}
use Rattle.tree_judges.proofs.ClosingLemmas.{leaf_few, branch_lit, branch_decides, bar_refused, bar_decides}
use Rattle.tree_judges.proofs.ClosingLemmas.{omit_refused, omit_decides, over_refused, over_decides, not_avoiding}
use Rattle.tree_judges.proofs.ClosingLemmas.{avoiding_decides, kids_refused, kid_refused, top_bare}
use Rattle.tree_judges.proofs.PickLemmas.{picked_state, rest_state, pick_refused, pick_decides}
use Rattle.tree_judges.proofs.tree_judge.+judging.Goals.{is_good-then-cell-cells-via-then-cell-cells}
use Rattle.tree_judges.proofs.tree_judge.+judging.Goals.{is_good-then-cell-cells-via-else-cell-cells+then-not-has}
use Rattle.tree_judges.proofs.tree_judge.+judging.Goals as goal

pub are_good-become_kid-requires-clause-place : goal.are_good-become_kid-requires-clause-place
are_good-become_kid-requires-clause-place t c = kid_place c.args.region.now c.args.node.now c.args.cell
    c.args.places.now c.loop-index.index c.requires.places (omega arith)

pub are_good-is_good-requires : goal.are_good-is_good-requires
are_good-is_good-requires t c =
    let i = c.loop-index.index in let trees = c.args.trees.now in
    let inside : i < length trees = omega (arith, c.if-places-trees.false) in
    let below = tree_below trees i c.index-trees-index.result inside in
    let same = ap (λ (p : Proof). tree_size (tree_of p)) c.index-trees-index.is in (
      omega (arith, below, same, c.decreases),
      kid_state c.args.region.now c.args.node.now c.args.cell c.args.places.now i c.loop-index.barred
          c.become_kid.new.self c.requires.state c.requires.cell c.requires.places (omega arith)
          c.loop-index.invariant.whole c.in_ok-become_kid.ensures,
    )

pub are_good-add-requires : goal.are_good-add-requires
are_good-add-requires t c =
    let inside = kid_place c.args.region.now c.args.node.now c.args.cell c.args.places.now c.loop-index.index
    c.requires.places (omega arith) in
    omega (arith, inside, c.requires.state.places_whole, c.loop-index.invariant.whole)

pub are_good-loop-index-preserved : goal.are_good-loop-index-preserved
are_good-loop-index-preserved t c =
    let i = c.loop-index.index in
    judged_next c.args.region.now c.args.node.now c.become_kid.new.self c.args.floor c.args.places.now i
    c.loop-index.barred c.add.new.words c.args.trees.now c.index-trees-index.result
    (omega arith) (omega (arith, c.if-places-trees.false)) c.index-trees-index.is c.loop-index.invariant
    c.in_ok-become_kid.ensures (c.in_ok-is_good.ensures.right c.if-not-branch.false) c.add.ensures

pub is_good-is_good-requires : goal.is_good-is_good-requires
is_good-is_good-requires t c =
    let made = c.bar.ensures in
    let whole = ap (λ (p : Proof). tree_size (tree_of p)) c.in-Bar.is in
    let part = ap tree_size c.tree.ensures in (
      omega (arith, whole, part, c.decreases),
      barred_state c.args.region.now c.args.node.now c.bar.new.self c.in-Bar.place c.in-Bar.by c.requires
          (c.is_bar.ensures.0 c.if-not-is_bar.false) made.chosen made.unlit made.barred,
    )

pub is_good_without-is_good_without-requires : goal.is_good_without-is_good_without-requires
is_good_without-is_good_without-requires t c =
    let made = c.bar.ensures in
    let whole = ap (λ (p : Proof). tree_size (tree_of p)) c.in-Bar.is in
    let part = ap tree_size c.tree.ensures in (
      omega (arith, whole, part, c.decreases),
      (
        same_state c.args.region.now c.args.node.now c.bar.new.self c.requires.state made.chosen made.unlit
            made.barred.whole,
        subst (λ (l : List ℕ). IsWithout l c.args.omitted.now c.args.left.now) (sym made.unlit) c.requires.left,
      ),
    )

-- ---- kids

pub are_good-returns-then-places-trees : goal.are_good-returns-then-places-trees
are_good-returns-then-places-trees t c = kids_refused c.args.region.now c.args.node.now c.args.floor c.args.places.now
    c.args.trees.now (λ e. omega (arith, c.if-places-trees.true))

pub are_good-returns-then-not-branch : goal.are_good-returns-then-not-branch
are_good-returns-then-not-branch t c =
    let i = c.loop-index.index in
    kid_refused c.args.region.now c.args.node.now c.args.floor c.args.places.now c.args.trees.now c.become_kid.new.self
    c.loop-index.barred i c.index-trees-index.result (forest_of (take i c.args.trees.now)) c.in_ok-is_good.field-0
    (omega arith) (omega (arith, c.if-places-trees.false)) c.index-trees-index.is c.loop-index.invariant
    c.in_ok-become_kid.ensures c.in_ok-is_good.ensures c.if-not-branch.true

-- ---- a tree

pub is_good-returns-then-size-floor : goal.is_good-returns-then-size-floor
is_good-returns-then-size-floor t c =
    let region = c.args.region.now in let node = c.args.node.now in let floor = c.args.floor in
    subst (λ (k : Tree). Decides region node floor k false) (sym (ap tree_of c.in-Leaf.is))
    (leaf_few region node floor c.in-Leaf.cells (omega (
      arith,
      ap length c.chosen.ensures,
      ap length c.as_slice.ensures,
      c.saturating_add-size.ensures,
      c.if-size-floor.true,
      c.ranges.floor.fits,
    )))

pub is_good-returns-then-cell-cells : goal.is_good-returns-then-cell-cells
is_good-returns-then-cell-cells t c =
    let region = c.args.region.now in let node = c.args.node.now in let floor = c.args.floor in
    let cell = c.in-Branch.cell in
    let lit : ¬ Has node.unlit cell = elim c.then-cell-cells.branch [
      | is_good-then-cell-cells-via-then-cell-cells w ↦ (λ h.
          (let inside = unlit_inside region node cell c.requires h in
          absurd (omega (arith, inside, ap length c.cells.ensures.cells, w.if-cell-cells.true))))
      | is_good-then-cell-cells-via-else-cell-cells+then-not-has w ↦
          not_has node.unlit w.unlit.result.now cell w.has.result w.unlit.ensures w.has.ensures w.if-not-has.true
    ] in
    subst (λ (k : Tree). Decides region node floor k false) (sym (ap tree_of c.in-Branch.is))
    (branch_lit region node floor cell c.in-Branch.kids c.requires lit)

pub is_good-returns-then-not-is_bar : goal.is_good-returns-then-not-is_bar
is_good-returns-then-not-is_bar t c =
    let region = c.args.region.now in let node = c.args.node.now in let floor = c.args.floor in
    subst (λ (k : Tree). Decides region node floor k false) (sym (ap tree_of c.in-Bar.is))
    (bar_refused region node floor c.in-Bar.place c.in-Bar.by c.in-Bar.kid
    (λ m. true≢false (sym (c.is_bar.ensures.1 m) ∙ c.if-not-is_bar.true)))

pub is_good-returns-then-not-may_be_omitted : goal.is_good-returns-then-not-may_be_omitted
is_good-returns-then-not-may_be_omitted t c =
    let region = c.args.region.now in let node = c.args.node.now in let floor = c.args.floor in
    subst (λ (k : Tree). Decides region node floor k false) (sym (ap tree_of c.in-Omit.is))
    (omit_refused region node floor c.in-Omit.cells c.in-Omit.kid
    (λ m. true≢false (sym (c.may_be_omitted.ensures.1
    (subst (MayBeOmitted (cell_indices region)) (sym c.as_slice-in-Omit.ensures) m)) ∙ c.if-not-may_be_omitted.true)))

pub is_good-returns-in_ok-good-in-Branch : goal.is_good-returns-in_ok-good-in-Branch
is_good-returns-in_ok-good-in-Branch t c =
    let region = c.args.region.now in let node = c.args.node.now in let floor = c.args.floor in
    let good = c.in_ok-good-in-Branch.good in let places = c.in_ok-places-in-Branch.places.items in
    let unlit = subst (λ (row : List ℕ). Has row c.in-Branch.cell) c.unlit.ensures
    (c.has.ensures.0 c.if-not-has.false) in
    let kids = subst (λ (l : List ℕ). DecidesKids region node floor l (forest_of c.trees.result.now) good)
    c.deref.ensures.value c.in_ok-good-in-Branch.ensures in
    subst (λ (k : Tree). Decides region node floor k good) (sym (ap tree_of c.in-Branch.is))
    (branch_decides region node floor c.in-Branch.cell c.in-Branch.kids places good c.requires unlit
    c.in_ok-places-in-Branch.ensures
    (subst (λ (f : Forest). DecidesKids region node floor places f good) (sym c.trees.ensures) kids))

pub is_good-returns-in_ok-good-in-Bar : goal.is_good-returns-in_ok-good-in-Bar
is_good-returns-in_ok-good-in-Bar t c =
    let region = c.args.region.now in let node = c.args.node.now in let floor = c.args.floor in
    let made = c.bar.ensures in let good = c.in_ok-good-in-Bar.good in
    subst (λ (k : Tree). Decides region node floor k good) (sym (ap tree_of c.in-Bar.is))
    (bar_decides region node floor c.in-Bar.place c.in-Bar.by c.in-Bar.kid c.bar.new.self good
    (c.is_bar.ensures.0 c.if-not-is_bar.false) made.chosen made.unlit made.barred
    (subst (λ (k : Tree). Decides region c.bar.new.self floor k good) c.tree.ensures c.in_ok-good-in-Bar.ensures))

pub is_good-returns-in_ok-good-in-Omit : goal.is_good-returns-in_ok-good-in-Omit
is_good-returns-in_ok-good-in-Omit t c =
    let region = c.args.region.now in let node = c.args.node.now in let floor = c.args.floor in
    let good = c.in_ok-good-in-Omit.good in let omitted = c.in_ok-omitted-in-Omit.omitted.items in
    let may = subst (MayBeOmitted (cell_indices region)) c.as_slice-in-Omit.ensures
    (c.may_be_omitted.ensures.0 c.if-not-may_be_omitted.false) in
    let row = subst (λ (l : List ℕ). IsRowOf l omitted) c.as_slice-in-Omit-2.ensures
    c.in_ok-omitted-in-Omit.ensures.row in
    let below = subst (λ (l : List ℕ). DecidesWithout region node l floor (tree_of c.tree-in-Omit.result.now) good)
    c.deref-in-Omit-2.ensures.value c.in_ok-good-in-Omit.ensures in
    subst (λ (k : Tree). Decides region node floor k good) (sym (ap tree_of c.in-Omit.is))
    (omit_decides region node floor c.in-Omit.cells omitted c.in-Omit.kid good may row
    (subst (λ (k : Tree). DecidesWithout region node omitted floor k good) c.tree-in-Omit.ensures below))

-- ---- the trees of a pick

pub is_good_pick-is_good-requires : goal.is_good_pick-is_good-requires
is_good_pick-is_good-requires t c = (
  omega (arith, c.decreases),
  picked_state c.args.region.now c.args.node.now c.become_kid.new.self c.args.place c.requires
      (c.may_be_picked.ensures.0 c.if-not-may_be_picked.false)
      (subst (λ (l : List ℕ). IsKidAt c.args.region.now c.args.node.now l c.args.place c.become_kid.new.self)
      c.barred.ensures c.in_ok-become_kid.ensures),
)

pub is_good_pick-is_good-requires-2 : goal.is_good_pick-is_good-requires-2
is_good_pick-is_good-requires-2 t c =
    let made = c.bar.ensures in (
      omega (arith, c.decreases),
      rest_state c.args.region.now c.args.node.now c.bar.new.self c.args.place c.requires made.chosen made.unlit
          made.barred,
    )

pub is_good_pick-returns-then-not-may_be_picked : goal.is_good_pick-returns-then-not-may_be_picked
is_good_pick-returns-then-not-may_be_picked t c = pick_refused c.args.region.now c.args.node.now c.args.floor
    c.args.place (tree_of c.args.with.now) (tree_of c.args.without.now)
    (λ m. true≢false (sym (c.may_be_picked.ensures.1 m) ∙ c.if-not-may_be_picked.true))

pub is_good_pick-returns : goal.is_good_pick-returns
is_good_pick-returns t c =
    let region = c.args.region.now in let node = c.args.node.now in let kid = c.become_kid.new.self in
    let made = c.bar.ensures in
    pick_decides region node c.args.floor c.args.place (tree_of c.args.with.now) (tree_of c.args.without.now) kid
    c.bar.new.self c.in_ok-is_good.field-0 c.in_ok-good.good (c.may_be_picked.ensures.0 c.if-not-may_be_picked.false)
    (subst (λ (l : List ℕ). IsKidAt region node l c.args.place kid) c.barred.ensures c.in_ok-become_kid.ensures)
    made.chosen made.barred c.in_ok-is_good.ensures c.if-not-branch.false c.in_ok-good.ensures

-- ---- a tree below an omission

pub is_good_without-returns-then-not-is_bar_over : goal.is_good_without-returns-then-not-is_bar_over
is_good_without-returns-then-not-is_bar_over t c =
    let region = c.args.region.now in let node = c.args.node.now in let floor = c.args.floor in
    let omitted = c.args.omitted.now in
    subst (λ (k : Tree). DecidesWithout region node omitted floor k false) (sym (ap tree_of c.in-Bar.is))
    (over_refused region node omitted c.args.left.now floor c.in-Bar.place c.in-Bar.by c.in-Bar.kid c.requires.state
    c.requires.left (λ m. true≢false (sym (c.is_bar_over.ensures.1 m) ∙ c.if-not-is_bar_over.true)))

pub is_good_without-returns-in_ok-good-in-Bar : goal.is_good_without-returns-in_ok-good-in-Bar
is_good_without-returns-in_ok-good-in-Bar t c =
    let region = c.args.region.now in let node = c.args.node.now in let floor = c.args.floor in
    let omitted = c.args.omitted.now in let made = c.bar.ensures in let good = c.in_ok-good-in-Bar.good in
    subst (λ (k : Tree). DecidesWithout region node omitted floor k good) (sym (ap tree_of c.in-Bar.is))
    (over_decides region node omitted c.args.left.now floor c.in-Bar.place c.in-Bar.by c.in-Bar.kid c.bar.new.self good
    c.requires.state c.requires.left (c.is_bar_over.ensures.0 c.if-not-is_bar_over.false) made.chosen made.barred
    (subst (λ (k : Tree). DecidesWithout region c.bar.new.self omitted floor k good) c.tree.ensures
    c.in_ok-good-in-Bar.ensures))

pub is_good_without-returns-then-not-avoids : goal.is_good_without-returns-then-not-avoids
is_good_without-returns-then-not-avoids t c = not_avoiding c.args.region.now c.args.node.now c.args.omitted.now
    c.args.left.now c.args.floor (tree_of c.args.tree.now)
    (λ a. true≢false (sym (c.avoids.ensures.1 a) ∙ c.if-not-avoids.true))

pub is_good_without-returns-in_ok-good-in_default : goal.is_good_without-returns-in_ok-good-in_default
is_good_without-returns-in_ok-good-in_default t c = avoiding_decides c.args.region.now c.args.node.now
    c.args.omitted.now c.args.left.now c.args.floor (tree_of c.args.tree.now) c.in_ok-good-in_default.good
    (c.avoids.ensures.0 c.if-not-avoids.false) (top_bare c.args.tree.now c.in_default.not-Bar)
    c.in_ok-good-in_default.ensures
