use Rattle.std.proofs.Common.{◌/◌, ◌+◌, ℕ, refl, subst, sym}
use Rattle.instance_regions.specs.Region.{IsRegion}
use Rattle.search_cases.specs.Made.{CountsUp, AreLit}
use Rattle.search_cases.proofs.RowLemmas.{rows_make}
use Rattle.search_cases.proofs.making.made.Goals as goal

pub new-requires-clause-kept : goal.new-requires-clause-kept
new-requires-clause-kept c =
    let rows = c.in_ok-rows.rows.items in let places = c.in_ok-places.places.items in
    let lit = subst (AreLit c.args.count) c.deref.ensures.value (c.are_lit.ensures c.if-not-are_lit.false) in
    let all = subst (λ (n : ℕ). CountsUp n places) (sym c.in_ok-rows.ensures.whole) c.in_ok-places.ensures in
    (rows_make c.args.count ((c.args.count + 63) / 64) c.in_ok-cells.cells.items places rows c.in_ok-cells.ensures all
    refl c.in_ok-rows.ensures.wide lit).kept

pub new-requires-2 : goal.new-requires-2
new-requires-2 c =
    let rows = c.in_ok-rows.rows.items in let places = c.in_ok-places.places.items in
    let lit = subst (AreLit c.args.count) c.deref.ensures.value (c.are_lit.ensures c.if-not-are_lit.false) in
    let all = subst (λ (n : ℕ). CountsUp n places) (sym c.in_ok-rows.ensures.whole) c.in_ok-places.ensures in
    subst IsRegion (sym c.new.ensures)
    (rows_make c.args.count ((c.args.count + 63) / 64) c.in_ok-cells.cells.items places rows c.in_ok-cells.ensures all
    refl c.in_ok-rows.ensures.wide lit)
