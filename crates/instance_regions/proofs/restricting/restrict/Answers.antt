use Rattle.std.proofs.Common.{◌≡◌, ℕ, List, length, map, slice_index, refl, ap, sym, subst, ◌∙◌, arith}
use Rattle.set_cover.specs.Instance.{Instance, words_for}
use Rattle.set_cover.specs.Rows.{words_of}
use Rattle.instance_regions.specs.Restricting.{AreCopied, IsRestriction}
use Rattle.instance_regions.specs.Region.{IsRegion}
use Rattle.instance_regions.proofs.RestrictLemmas.{kept_rows, kept_instance, kept_region, restriction, few_fit}
use Rattle.instance_regions.proofs.restricting.restrict.Goals.{After-div_ceil-width}
use Rattle.instance_regions.proofs.restricting.restrict.Goals as goal

pub number-requires-clause-few : goal.number-requires-clause-few
number-requires-clause-few c = few_fit c.args.own.now c.requires.closed.cells.ascending (λ k. (c.type_inv.own k).fits)

pub copy_rows-requires-clause-ranks : goal.copy_rows-requires-clause-ranks
copy_rows-requires-clause-ranks c = record {
  whole = c.number.ensures.whole ∙ c.requires.ranks;
  listed = c.number.ensures.listed;
}

abbrev made : After-div_ceil-width → Instance
made c = record {
  cells = c.in_ok-own_cells.own_cells.items;
  places = c.in_ok-own_places.own_places.items;
  width = c.div_ceil-width.result;
  words = words_of c.in_ok-rows.rows.items;
}

cells : (c : After-div_ceil-width)
    → c.in_ok-own_cells.own_cells.items ≡ map (slice_index c.args.sparse.now.cells) c.args.own.now
cells c = c.in_ok-own_cells.ensures
    ∙ ap (λ (l : List ℕ). map (slice_index l) c.args.own.now) c.cells-cells.ensures.cells

places : (c : After-div_ceil-width)
    → c.in_ok-own_places.own_places.items ≡ map (slice_index c.args.sparse.now.places) c.args.placed.now
places c = c.in_ok-own_places.ensures ∙ ap (λ (l : List ℕ). map (slice_index l) c.args.placed.now)
    c.places.ensures.places

width : (c : After-div_ceil-width) → c.div_ceil-width.result ≡ words_for (length c.args.own.now)
width c = omega (arith, c.div_ceil-width.ensures)

copied : (c : After-div_ceil-width)
    → AreCopied c.args.sparse.now c.args.own.now c.args.placed.now c.div_ceil-width.result (length c.args.placed.now)
    c.in_ok-rows.rows.items
copied c = subst (λ (w : ℕ). AreCopied c.args.sparse.now c.args.own.now c.args.placed.now w
    (length c.args.placed.now) c.in_ok-rows.rows.items) (sym (width c)) c.in_ok-rows.ensures

pub new-requires-clause-rows : goal.new-requires-clause-rows
new-requires-clause-rows c =
    let before = (goal.at.new-requires-clause-rows c).After-div_ceil-width in
    kept_rows c.args.sparse.now (made before) c.args.own.now c.args.placed.now c.in_ok-rows.rows.items
    c.cells-cells.ensures.kept c.requires.closed (cells before) (places before) (width before) refl (copied before)

pub new-requires-clause-kept : goal.new-requires-clause-kept
new-requires-clause-kept c =
    let before = (goal.at.new-requires-clause-kept c).After-div_ceil-width in
    kept_instance c.args.sparse.now (made before) c.args.own.now c.args.placed.now c.in_ok-rows.rows.items
    c.cells-cells.ensures.kept c.requires.closed (cells before) (places before) (width before) refl (copied before)

pub new-requires-2 : goal.new-requires-2
new-requires-2 c =
    let before = (goal.at.new-requires-2 c).After-div_ceil-width in
    subst IsRegion (sym c.new.ensures)
    (kept_region c.args.sparse.now (made before) c.args.own.now c.args.placed.now c.in_ok-rows.rows.items
    c.cells-cells.ensures.kept c.requires.closed (cells before) (places before) (width before) refl (copied before))

pub returns : goal.returns
returns c =
    let before = (goal.at.returns c).After-div_ceil-width in
    subst (IsRestriction c.args.sparse.now c.args.own.now c.args.placed.now)
    (sym (c.in_ok-region.ensures ∙ c.new.ensures))
    (restriction c.args.sparse.now (made before) c.args.own.now c.args.placed.now c.in_ok-rows.rows.items
    c.cells-cells.ensures.kept c.requires.closed (cells before) (places before) (width before) refl (copied before))
