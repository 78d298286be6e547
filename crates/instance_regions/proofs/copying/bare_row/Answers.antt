use Rattle.std.proofs.Common.{◌<◌, ◌-◌, length, slice_index, refl, arith}
use Rattle.std.proofs.lemmas.Bool.Decides.{nat_tests}
use Rattle.set_cover.proofs.OrderLemmas.{element_of}
use Rattle.instance_regions.proofs.copying.bare_row.Goals as goal

pub bounds-ranks-cells : goal.bounds-ranks-cells
bounds-ranks-cells c =
    let some : 0 < length c.args.cells.now = grind (arith, nat_tests, c.if-is_empty.ensures, c.if-is_empty.false) in
    (c.requires.each _ (element_of c.args.cells.now (slice_index c.args.cells.now 0) 0 some refl)).0

pub bounds-ranks-cells-2 : goal.bounds-ranks-cells-2
bounds-ranks-cells-2 c =
    let some : 0 < length c.args.cells.now = grind (arith, nat_tests, c.if-is_empty.ensures, c.if-is_empty.false) in
    (c.requires.each _ (element_of c.args.cells.now
    (slice_index c.args.cells.now (length c.args.cells.now - 1)) (length c.args.cells.now - 1)
    (omega (arith, some)) refl)).0
