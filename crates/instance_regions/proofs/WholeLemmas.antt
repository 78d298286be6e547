-- All cells of an instance.
use Rattle.std.proofs.Common.{◌≡◌, ℕ, ◌+◌, ◌<◌, List, length, map, slice_index, ap, ◌∙◌, arith}
use Rattle.std.proofs.lemmas.List.{ext_get_or}
use Rattle.std.proofs.lemmas.List.Elements.{Contains-get_or}
use Rattle.std.proofs.lemmas.Grind.{get_or_default_zero}
use Rattle.cave_model.specs.Listing.{ListsAll}
use Rattle.set_cover.specs.Sparse.{Sparse, IsSparse}
use Rattle.set_cover.proofs.OrderLemmas.{element_of}
use Rattle.instance_regions.specs.Joining.{AreAlone}
use Rattle.instance_regions.specs.Restricting.{IsSelfContained, IsLighting}
use Rattle.instance_regions.proofs.RestrictLemmas.{chosen_at, chosen_count}

-- all cells, with the places that light any, are closed
pub closed_whole : (sparse : Sparse) (own placed : List ℕ) → IsSparse sparse → 0 < length sparse.cells
    → AreAlone (length sparse.cells) own → ListsAll (IsLighting sparse) placed → IsSelfContained sparse own placed
closed_whole sparse own placed is filled alone places = record {
  filled = omega (arith, alone.whole);
  cells = record {
    ascending = λ k h. omega (
      arith,
      alone.each k (omega (arith, alone.whole)),
      alone.each (k + 1)
          (omega (arith, alone.whole)),
    );
    inside = λ k d h. (let same = get_or_default_zero own k d h in
        omega (arith, same, alone.each k (omega (arith, alone.whole)), alone.whole));
  };
  places = record {
    ascending = places.ascending;
    inside = λ k d h.
        ((places.exact _).0 (Contains-get_or placed k d h)).inside;
  };
  lighting = λ place has. (let kind = (places.exact place).0 has in (kind.cell, kind.lit));
  to_own = λ place cell has lit. (let kind = (places.exact place).0 has in
      let inside = is.of_cells place cell kind.inside lit in element_of own cell cell (omega (arith, alone.whole))
      (alone.each cell inside));
  by_placed = λ place cell h has lit. (places.exact place).1 (record { inside = h; cell = cell; lit = lit });
}

-- all items chosen are the items
pub chosen_all : (items own : List ℕ) → AreAlone (length items) own → map (slice_index items) own ≡ items
chosen_all items own alone = ext_get_or 0 (map (slice_index items) own) items (chosen_count items own ∙ alone.whole)
    (λ i h. (let inside : i < length own = omega (arith, chosen_count items own) in chosen_at items own i inside
    ∙ ap (slice_index items) (alone.each i (omega (arith, alone.whole)))))
