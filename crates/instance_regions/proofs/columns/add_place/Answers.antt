use Rattle.std.proofs.Common.{ℕ, List, [], subst, arith}
use Rattle.std.proofs.lemmas.List.{get_or_default}
use Rattle.set_cover.specs.Bits.{IsNext, IsWith, HasNoneFrom}
use Rattle.instance_regions.proofs.ColumnLemmas.{grown_none, grown_more, grown_all}
use Rattle.instance_regions.proofs.columns.add_place.Goals as goal

pub loop-cell-init : goal.loop-cell-init
loop-cell-init c = grown_none c.args.instance.now c.args.place c.args.columns.now c.requires.columns

pub next-requires : goal.next-requires
next-requires c = omega (arith, c.row_at-row.ensures.whole, c.requires.narrow)

pub loop-cell-preserved : goal.loop-cell-preserved
loop-cell-preserved c =
    let next = subst (λ (row : List ℕ). IsNext row c.loop-cell.from c.in-Some.cell) c.row_at-row.ensures.row
    c.in-Some.ensures in
    let inside = c.requires.kept.of_cells c.args.place c.in-Some.cell c.requires.place next.there in
    let same = get_or_default c.loop-cell.columns c.in-Some.cell c.index-columns-cell.result []
    (omega (arith, inside, c.loop-cell.invariant.whole)) in
    grown_more c.args.instance.now c.args.place c.loop-cell.from c.in-Some.cell c.loop-cell.columns c.add.new.self
    inside next (subst (λ (l : List ℕ). IsWith l c.args.place c.add.new.self) same c.in_ok-add.ensures)
    c.loop-cell.invariant

pub returns : goal.returns
returns c =
    grown_all c.args.instance.now c.args.place c.loop-cell.from c.loop-cell.columns
    (subst (λ (row : List ℕ). HasNoneFrom row c.loop-cell.from) c.row_at-row.ensures.row c.in_default.ensures)
    c.loop-cell.invariant
