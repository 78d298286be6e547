-- A restriction is a part of its instance.
use Rattle.std.proofs.Common.{◌≡◌, ℕ, ◌<◌, List, length, slice_index, Contains, refl, sym, ap, subst, ◌∙◌, arith}
use Rattle.set_cover.specs.Instance.{Instance, LightsIn}
use Rattle.set_cover.specs.Sparse.{Sparse, IsSparse, ListsIn, ListsAt}
use Rattle.set_cover.proofs.OrderLemmas.{element_at, element_of, stands_once}
use Rattle.instance_regions.specs.Restricting.{IsSelfContained, IsRestriction}
use Rattle.instance_regions.specs.Splitting.{IsPartOf}
use Rattle.instance_regions.proofs.RestrictLemmas.{chosen_at, chosen_count}

module _ (sparse : Sparse) (region : Instance) (own placed : List ℕ) (is : IsSparse sparse)
    (closed : IsSelfContained sparse own placed) (made : IsRestriction sparse own placed region) where
  -- a restriction has as many cells as were chosen
  pub cell_count : length region.cells ≡ length own
  cell_count = ap length made.cells ∙ chosen_count sparse.cells own

  place_count : length region.places ≡ length placed
  place_count = ap length made.places ∙ chosen_count sparse.places placed

  -- each is the chosen one
  pub cell_at : (i : ℕ) → i < length own → slice_index region.cells i ≡ slice_index sparse.cells (slice_index own i)
  cell_at i h = ap (λ (l : List ℕ). slice_index l i) made.cells ∙ chosen_at sparse.cells own i h

  place_at : (j : ℕ) → j < length placed
      → slice_index region.places j ≡ slice_index sparse.places (slice_index placed j)
  place_at j h = ap (λ (l : List ℕ). slice_index l j) made.places ∙ chosen_at sparse.places placed j h

  -- the cells of the region, by their indices in the instance
  pub from_own : (cell : ℕ) → Contains region.cells cell
      → (c : ℕ) × Contains own c × (slice_index sparse.cells c ≡ cell)
  from_own cell has =
      let inside : has.0 < length own = omega (arith, has.1, cell_count) in (
        slice_index own has.0,
        element_of own (slice_index own has.0) has.0 inside refl,
        sym (cell_at has.0 inside)
            ∙ element_at region.cells cell has,
      )

  -- each chosen cell is in it
  pub to_region : (c : ℕ) → Contains own c → Contains region.cells (slice_index sparse.cells c)
  to_region c has = element_of region.cells (slice_index sparse.cells c) has.0 (omega (arith, has.1, cell_count))
      (cell_at has.0 has.1 ∙ ap (slice_index sparse.cells) (element_at own c has))

  inside_own : (c : ℕ) → Contains own c → c < length sparse.cells
  inside_own c has = subst (λ (x : ℕ). x < length sparse.cells) (element_at own c has)
      (closed.cells.inside has.0 0 has.1)

  inside_placed : (p : ℕ) → Contains placed p → p < length sparse.places
  inside_placed p has = subst (λ (x : ℕ). x < length sparse.places) (element_at placed p has)
      (closed.places.inside has.0 0 has.1)

  there : (place cell : ℕ) → LightsIn region place cell → Contains region.cells cell × ListsIn sparse place cell
  there place cell by =
      let in_placed : by.place_index < length placed = omega (arith, by.place_there.inside, place_count) in
      let in_own : by.cell_index < length own = omega (arith, by.cell_there.inside, cell_count) in
      let p = slice_index placed by.place_index in
      let c = slice_index own by.cell_index in (
        element_of region.cells cell by.cell_index by.cell_there.inside by.cell_there.there,
        record {
          place_index = p;
          cell_index = c;
          place_there = record {
            inside = inside_placed p (element_of placed p by.place_index in_placed refl);
            there = sym (place_at by.place_index in_placed) ∙ by.place_there.there;
          };
          cell_there = record {
            inside = inside_own c (element_of own c by.cell_index in_own refl);
            there = sym (cell_at by.cell_index in_own) ∙ by.cell_there.there;
          };
          lit = (made.lit by.place_index by.cell_index in_placed in_own).0 by.lit;
        },
      )

  back : (place cell : ℕ) → Contains region.cells cell → ListsIn sparse place cell → LightsIn region place cell
  back place cell has by =
      let c = from_own cell has in
      let same : c.0 ≡ by.cell_index = stands_once sparse.cells is.cells_ascend c.0 by.cell_index (inside_own c.0 c.1)
      by.cell_there.inside (c.2 ∙ sym by.cell_there.there) in
      let own_has : Contains own by.cell_index = subst (Contains own) same c.1 in
      let placed_has = closed.by_placed by.place_index by.cell_index by.place_there.inside own_has by.lit in
      record {
        place_index = placed_has.0;
        cell_index = own_has.0;
        place_there = record {
          inside = omega (arith, placed_has.1, place_count);
          there = place_at placed_has.0 placed_has.1 ∙ ap (slice_index sparse.places)
              (element_at placed by.place_index placed_has) ∙ by.place_there.there;
        };
        cell_there = record {
          inside = omega (arith, own_has.1, cell_count);
          there = cell_at own_has.0 own_has.1 ∙ ap (slice_index sparse.cells) (element_at own by.cell_index own_has)
              ∙ by.cell_there.there;
        };
        lit = (made.lit placed_has.0 own_has.0 placed_has.1 own_has.1).1
            (subst (λ (p : ℕ). ListsAt sparse p (slice_index own own_has.0))
            (sym (element_at placed by.place_index placed_has))
            (subst (λ (d : ℕ). ListsAt sparse by.place_index d)
            (sym (element_at own by.cell_index own_has)) by.lit));
      }

  -- a restriction to what is closed is a part
  pub part_of : IsPartOf sparse region
  part_of = record {
    kept = made.kept;
    of_it = λ cell has. (let c = from_own cell has in element_of sparse.cells cell c.0 (inside_own c.0 c.1) c.2);
    exact = λ place cell. (λ by. there place cell by, λ b. back place cell b.0 b.1);
  }
