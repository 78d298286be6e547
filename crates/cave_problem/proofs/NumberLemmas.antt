-- The index of each cell.
use Rattle.std.proofs.Common.{◌≡◌, ℕ, ◌≤◌, List, length, replicate, slice_index, sym, ap, ◌∙◌, arith, inl, inr}
use Rattle.std.specs.List.Sorted.{IsStrictlyIncreasing}
use Rattle.std.proofs.lemmas.List.{get_or-replicate}
use Rattle.set_cover.proofs.OrderLemmas.{element_at}
use Rattle.set_cover.specs.Numbering.{Numbers}
use Rattle.cave_problem.specs.Filling.{AreIndices}

-- from words that are no index
pub indices_of : (count none : ℕ) (cells old new : List ℕ) → old ≡ replicate count none → length old ≡ count
    → length cells ≤ none → IsStrictlyIncreasing cells → Numbers old cells new → AreIndices count cells new
indices_of count none cells old new e long few up s = record {
  whole = s.whole ∙ long;
  exact = λ cell index inside h. (
    λ is. (elim (s.others cell) [
      | inl same ↦ (let old_one : slice_index old cell ≡ none = ap (λ (l : List ℕ). slice_index l cell) e
          ∙ get_or-replicate count cell none 0 inside in absurd (omega arith))
      | inr has ↦ (let at = element_at cells cell has in
          let there : slice_index new cell ≡ has.0 = sym (ap (slice_index new) at) ∙ s.listed has.0 has.1 in
          let found : index ≡ has.0 = sym is ∙ there in ap (slice_index cells) found ∙ at)
    ]),
    λ at. sym (ap (slice_index new) at) ∙ s.listed index h,
  );
}
