use Rattle.std.proofs.Common.{◌≡◌, ◌<◌, sym, ◌∙◌, arith, refl}
use Rattle.cave_base.specs.Box as grid
use Rattle.lit_lists.specs.Lists.{is_marked}
use Rattle.proof_check.specs.Ends.{is_unparted, home_of}
use Rattle.proof_check.proofs.PartLemmas.{first_own, none_more}
use Rattle.proof_check.proofs.parts.first_bad_cell.Goals as goal

pub returns-then-is_unparted : goal.returns-then-is_unparted
returns-then-is_unparted c =
    let inside : c.loop-cell.cell < grid.cell_count c.args.world.now.size =
    omega (arith, c.cell_count-cell-end.ensures.count) in
    let is : c.is_unparted.result ≡ is_unparted (home_of c.args.regions.now c.loop-cell.cell)
    (is_marked c.args.lists.now.dark c.loop-cell.cell) = c.is_unparted.ensures
    ∙ rw (c.of.ensures, c.is_dark.ensures) refl in
    first_own c.args.world.now c.args.lists.now c.args.regions.now c.loop-cell.cell inside c.loop-cell.invariant.none
    (sym is ∙ c.if-is_unparted.true)

pub loop-cell-preserved : goal.loop-cell-preserved
loop-cell-preserved c =
    let inside : c.loop-cell.cell < grid.cell_count c.args.world.now.size =
    omega (arith, c.cell_count-cell-end.ensures.count) in
    let is : c.is_unparted.result ≡ is_unparted (home_of c.args.regions.now c.loop-cell.cell)
    (is_marked c.args.lists.now.dark c.loop-cell.cell) = c.is_unparted.ensures
    ∙ rw (c.of.ensures, c.is_dark.ensures) refl in
    record {
      cells = c.lights_two.auto.levels ∙ c.loop-cell.invariant.cells;
      unlit = c.in_ok-lights_two.ensures.unlit;
      none = none_more c.args.world.now c.args.lists.now c.args.regions.now c.loop-cell.cell inside
          c.loop-cell.invariant.none c.in_ok-lights_two.field-0 (sym is ∙ c.if-is_unparted.false)
          c.in_ok-lights_two.ensures.lights c.if-branch.false;
    }
