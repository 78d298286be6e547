use Rattle.std.proofs.Common.{ℕ, length, ap, sym, subst, ◌∙◌, arith}
use Rattle.cave_model.specs.Listing.{ListsAll}
use Rattle.instance_regions.specs.Joining.{AreAlone}
use Rattle.instance_regions.specs.Restricting.{IsSelfContained, IsLighting}
use Rattle.instance_regions.proofs.WholeLemmas.{closed_whole, chosen_all}
use Rattle.instance_regions.proofs.PartLemmas.{part_of}
use Rattle.instance_regions.proofs.entire.all_of.Goals.{After-deref-2}
use Rattle.instance_regions.proofs.entire.all_of.Goals as goal

pub lighting-requires-clause-few : goal.lighting-requires-clause-few
lighting-requires-clause-few c =
    omega (arith, c.count_of-count.ensures.few, c.count_of-count.ensures.count, ap length c.cells.ensures.cells)

alone : (c : After-deref-2) → AreAlone (length c.args.sparse.now.cells) c.deref.result.now
alone c = subst (λ (n : ℕ). AreAlone n c.deref.result.now)
    (c.count_of-count.ensures.count ∙ ap length c.cells.ensures.cells)
    (subst (AreAlone c.count_of-count.result) (sym c.deref.ensures.value) c.in_ok-own.ensures)

closed : (c : After-deref-2) → IsSelfContained c.args.sparse.now c.deref.result.now c.deref-2.result.now
closed c = closed_whole c.args.sparse.now c.deref.result.now c.deref-2.result.now c.requires.kept
    c.requires.filled (alone c)
    (subst (ListsAll (IsLighting c.args.sparse.now)) (sym c.deref-2.ensures.value) c.in_ok-placed.ensures)

pub restrict-requires-clause-closed : goal.restrict-requires-clause-closed
restrict-requires-clause-closed c = closed (goal.at.restrict-requires-clause-closed c).After-deref-2

pub returns-clause-cells : goal.returns-clause-cells
returns-clause-cells c =
    let before = (goal.at.returns-clause-cells c).After-deref-2 in
    c.in_ok-region.ensures.cells ∙ chosen_all c.args.sparse.now.cells c.deref.result.now (alone before)

pub returns-clause-part : goal.returns-clause-part
returns-clause-part c =
    let before = (goal.at.returns-clause-part c).After-deref-2 in
    part_of c.args.sparse.now c.in_ok-region.region c.deref.result.now c.deref-2.result.now c.requires.kept
    (closed before) c.in_ok-region.ensures
