use Rattle.std.proofs.Common.{ℕ, List, slice_index, take, refl, sym, subst, arith}
use Rattle.std.proofs.lemmas.List.{take_more, take_all}
use Rattle.set_cover.proofs.OrderLemmas.{element_of}
use Rattle.instance_regions.specs.Restricting.{IsOfRanks}
use Rattle.instance_regions.proofs.CopyLemmas.{ranks_none, ranks_push}
use Rattle.instance_regions.proofs.copying.row_with.Goals as goal

pub loop-cell-init : goal.loop-cell-init
loop-cell-init c = ranks_none c.args.ranks.now c.in_ok-row.row c.args.width c.in_ok-row.ensures.whole
    c.in_ok-row.ensures.none

pub bounds-ranks-cell : goal.bounds-ranks-cell
bounds-ranks-cell c =
    (c.requires.each _ (element_of c.args.cells.now (slice_index c.args.cells.now c.loop-cell.cell-index)
    c.loop-cell.cell-index c.loop-cell-test.true refl)).0

pub add-requires : goal.add-requires
add-requires c =
    let room = (c.requires.each _ (element_of c.args.cells.now (slice_index c.args.cells.now c.loop-cell.cell-index)
    c.loop-cell.cell-index c.loop-cell-test.true refl)).1 in
    omega (arith, room, c.loop-cell.invariant.whole)

pub loop-cell-preserved : goal.loop-cell-preserved
loop-cell-preserved c =
    let cells = c.args.cells.now in let i = c.loop-cell.cell-index in
    subst (λ (l : List ℕ). IsOfRanks l c.args.ranks.now c.args.width c.add.new.self)
    (sym (take_more cells i 0 c.loop-cell-test.true))
    (ranks_push (take i cells) c.args.ranks.now c.loop-cell.row c.add.new.self c.args.width (slice_index cells i)
    c.loop-cell.invariant c.in_ok-add.ensures)

pub returns : goal.returns
returns c = subst (λ (l : List ℕ). IsOfRanks l c.args.ranks.now c.args.width c.loop-cell.row)
    (take_all c.loop-cell.cell-index c.args.cells.now (omega arith)) c.loop-cell.invariant
