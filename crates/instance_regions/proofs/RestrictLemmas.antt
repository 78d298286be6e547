-- Copied rows make a region.
use Rattle.std.proofs.Common.{◌≡◌, ℕ, ◌+◌, ◌*◌, ◌^◌, ◌<◌, ◌≤◌, List, [], length, map, slice_index, refl, sym, ap, subst}
use Rattle.std.proofs.Common.{◌∙◌, arith, slice_index_or}
use Rattle.std.specs.Prelude.{◌↔◌, slice_range}
use Rattle.std.specs.List.Sorted.{IsStrictlyIncreasing}
use Rattle.std.proofs.lemmas.Grind.{get_or_default_zero}
use Rattle.std.proofs.lemmas.List.{length-map, get_or-map}
use Rattle.set_cover.specs.Instance.{Instance, IsInstance, LightsAt, words_for}
use Rattle.set_cover.specs.Instance.{row_of}
use Rattle.set_cover.specs.Bits.{Has}
use Rattle.set_cover.specs.Rows.{AreRows, words_of}
use Rattle.set_cover.specs.Sparse.{Sparse, IsSparse, ListsAt}
use Rattle.set_cover.proofs.OrderLemmas.{element_at, element_of, rises, few_below}
use Rattle.set_cover.proofs.PieceLemmas.{piece_at, pieces_long}
use Rattle.instance_regions.specs.Region.{IsRegion}
use Rattle.instance_regions.specs.Restricting.{AreIndices, IsSelfContained, AreCopied, IsRestriction}
use Rattle.instance_regions.proofs.CopyLemmas.{copied_wide}

-- what stands at an index of the chosen items
pub chosen_at : (items indices : List ℕ) (k : ℕ) → k < length indices
    → slice_index (map (slice_index items) indices) k ≡ slice_index items (slice_index indices k)
chosen_at items indices k h = get_or-map (slice_index items) indices k 0 0 h

-- as many items are chosen as indices
pub chosen_count : (items indices : List ℕ) → length (map (slice_index items) indices) ≡ length indices
chosen_count items indices = length-map indices (slice_index items)

-- ascending items at ascending indices ascend
pub chosen_ascend : (items indices : List ℕ) → IsStrictlyIncreasing items → AreIndices indices items
    → IsStrictlyIncreasing (map (slice_index items) indices)
chosen_ascend items indices up are k h =
    let lt : k + 1 < length indices = omega (arith, chosen_count items indices) in
    let step = are.ascending k lt in
    let inside = are.inside (k + 1) 0 lt in
    let more = rises items up (slice_index indices k) (slice_index indices (k + 1)) step inside in
    omega (arith, chosen_at items indices k (omega arith), chosen_at items indices (k + 1) lt)

module _ (sparse : Sparse) (region : Instance) (own placed : List ℕ) (rows : List (List ℕ)) (is : IsSparse sparse)
    (closed : IsSelfContained sparse own placed)
    (cells : region.cells ≡ map (slice_index sparse.cells) own)
    (places : region.places ≡ map (slice_index sparse.places) placed)
    (wide : region.width ≡ words_for (length own))
    (words : region.words ≡ words_of rows)
    (copied : AreCopied sparse own placed region.width (length placed) rows) where
  cell_count : length region.cells ≡ length own
  cell_count = ap length cells ∙ chosen_count sparse.cells own

  place_count : length region.places ≡ length placed
  place_count = ap length places ∙ chosen_count sparse.places placed

  -- a row for each place
  pub kept_rows : AreRows (length region.places) region.width rows
  kept_rows = record {
    whole = copied.whole ∙ sym place_count;
    wide = copied_wide sparse own placed region.width (length placed) rows copied;
  }

  row_is : (place : ℕ) → place < length placed → row_of region place ≡ slice_index_or rows place []
  row_is place h = ap (λ (l : List ℕ). slice_range l (place * region.width) (place * region.width + region.width)) words
      ∙ piece_at region.width rows place kept_rows.wide (omega (arith, h, copied.whole))

  lit_at : (place cell : ℕ) → place < length placed
      → LightsAt region place cell
      ↔ ((cell < length own) × ListsAt sparse (slice_index placed place) (slice_index own cell))
  lit_at place cell h = (
    λ lit. ((copied.each place h).exact cell).0 (subst (λ (row : List ℕ). Has row cell) (row_is place h) lit),
    λ b. subst (λ (row : List ℕ). Has row cell) (sym (row_is place h)) (((copied.each place h).exact cell).1 b),
  )

  lights_some : (place : ℕ) → place < length placed → (cell : ℕ) × LightsAt region place cell
  lights_some place h =
      let listed = element_of placed (slice_index placed place) place h refl in
      let lit = closed.lighting (slice_index placed place) listed in
      let has = closed.to_own (slice_index placed place) lit.0 listed lit.1 in (
        has.0,
        (lit_at place has.0 h).1 (
          has.1,
          subst (ListsAt sparse (slice_index placed place))
              (sym (element_at own lit.0 has)) lit.1,
        ),
      )

  lit_by_some : (cell : ℕ) → cell < length own → (place : ℕ) × (place < length placed) × LightsAt region place cell
  lit_by_some cell h =
      let inside = closed.cells.inside cell 0 h in
      let by = is.lightable (slice_index own cell) inside in
      let has = closed.by_placed by.0 (slice_index own cell)
      by.1 (element_of own (slice_index own cell) cell h refl) by.2 in (
        has.0,
        has.1,
        (lit_at has.0 cell has.1).1 (
          h,
          subst (λ (p : ℕ). ListsAt sparse p (slice_index own cell))
              (sym (element_at placed by.0 has)) by.2,
        ),
      )

  -- a restriction is an instance
  pub kept_instance : IsInstance region
  kept_instance = record {
    cells_ascend = subst IsStrictlyIncreasing (sym cells)
        (chosen_ascend sparse.cells own is.cells_ascend closed.cells);
    places_ascend = subst IsStrictlyIncreasing (sym places)
        (chosen_ascend sparse.places placed is.places_ascend closed.places);
    wide = wide ∙ ap words_for (sym cell_count);
    whole = ap (λ (l : List ℕ). length l) words ∙ pieces_long region.width rows kept_rows.wide
        ∙ ap (λ (n : ℕ). n * region.width) kept_rows.whole;
    of_cells = λ place cell h lit.
        (let b = (lit_at place cell (omega (arith, place_count))).0 lit in omega (arith, b.0, cell_count));
    lightable = λ cell h. (let by = lit_by_some cell (omega (arith, cell_count)) in
        (by.0, omega (arith, by.1, place_count), by.2));
  }

  -- and a region
  pub kept_region : IsRegion region
  kept_region = record {
    kept = kept_instance;
    filled = omega (arith, closed.filled, cell_count);
    lighting = λ place h. lights_some place (omega (arith, place_count));
  }

  -- with the chosen cells and places, and their rows
  pub restriction : IsRestriction sparse own placed region
  restriction = record {
    kept = kept_region;
    cells = cells;
    places = places;
    lit = λ place cell h inside. (λ lit. ((lit_at place cell h).0 lit).1, λ lit. (lit_at place cell h).1 (inside, lit));
  }

-- ascending numbers of 32 bits are few
pub few_fit : (xs : List ℕ) → IsStrictlyIncreasing xs → ((k : ℕ) → slice_index xs k < 2 ^ 32) → length xs ≤ 2 ^ 32
few_fit xs up fits = few_below xs 4294967296 up
    (λ k d h. subst (λ (x : ℕ). x < 4294967296) (sym (get_or_default_zero xs k d h)) (fits k))
