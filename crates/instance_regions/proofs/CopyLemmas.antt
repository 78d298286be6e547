-- Rows are copied, cell by cell and place by place.
use Rattle.std.proofs.Common.{◌≡◌, ℕ, ◌+◌, ◌<◌, List, [], ◌∷◌, ◌++◌, length, slice_index, All}
use Rattle.std.proofs.Common.{refl, sym, ap, subst, ◌∙◌, arith, inl, inr}
use Rattle.std.proofs.lemmas.Bool.{cases_lt}
use Rattle.std.proofs.lemmas.List.{get_or_append_left, get_or_push, length_push, get_or_default}
use Rattle.std.proofs.lemmas.List.Elements.{Contains-push, Contains-push_cases, Contains-append_left}
use Rattle.set_cover.specs.Bits.{IsRowOf, IsWith}
use Rattle.set_cover.specs.Buckets.{bucket}
use Rattle.set_cover.specs.Instance.{words_for}
use Rattle.set_cover.specs.Sparse.{Sparse, ListsAt}
use Rattle.set_cover.proofs.ListLemmas.{none_in}
use Rattle.set_cover.proofs.OrderLemmas.{element_at, element_of}
use Rattle.instance_regions.specs.Restricting.{IsSelfContained, IsOfRanks, HaveRanks, IsCopied, AreCopied, AreRanks}

-- ---- one row

-- a row without bits has the ranks of no cell
pub ranks_none : (ranks row : List ℕ) (width : ℕ) → length row ≡ width → IsRowOf [] row → IsOfRanks [] ranks width row
ranks_none ranks row width long none = record {
  whole = long;
  exact = λ bit. (λ h. none_in bit ((none.exact bit).0 h), λ of. none_in of.0 of.1);
}

-- one cell more
pub ranks_push : (cells ranks row new : List ℕ) (width cell : ℕ) → IsOfRanks cells ranks width row
    → IsWith row (slice_index ranks cell) new → IsOfRanks (cells ++ cell ∷ []) ranks width new
ranks_push cells ranks row new width cell s more = record {
  whole = more.whole ∙ s.whole;
  exact = λ bit. (
    λ h. elim ((more.exact bit).0 h) [
      | inl was ↦ (let of = (s.exact bit).0 was in (of.0, Contains-append_left cells (cell ∷ []) of.0 of.1, of.2))
      | inr e ↦ (cell, Contains-push cells cell, e)
    ],
    λ of. (more.exact bit).1 (elim (Contains-push_cases cells cell of.0 of.1) [
      | inl was ↦ inl ((s.exact bit).1 (of.0, was, of.2))
      | inr same ↦ inr (of.2 ∙ ap (slice_index ranks) (sym same))
    ]),
  );
}

module _ (sparse : Sparse) (own placed ranks : List ℕ) (closed : IsSelfContained sparse own placed)
    (ranked : AreRanks sparse own ranks) where
  -- a lit cell is one of these, by its rank
  rank_of : (row cell : ℕ) → row < length placed → ListsAt sparse (slice_index placed row) cell
      → (slice_index ranks cell < length own) × (slice_index own (slice_index ranks cell) ≡ cell)
  rank_of row cell h lit =
      let has = closed.to_own (slice_index placed row) cell
      (element_of placed (slice_index placed row) row h refl) lit in
      let at = element_at own cell has in
      let rank : slice_index ranks cell ≡ has.0 = sym (ap (slice_index ranks) at) ∙ ranked.listed has.0 has.1 in
      (omega (arith, rank, has.1), ap (slice_index own) rank ∙ at)

  -- what the next place lights has ranks
  pub have_ranks : (row : ℕ) → row < length placed
      → HaveRanks (bucket sparse.lit (slice_index placed row)) ranks (words_for (length own))
  have_ranks row h = record {
    each = λ cell lit. (let r = rank_of row cell h lit in
        let inside = closed.cells.inside (slice_index ranks cell) 0 r.0 in
        (omega (arith, inside, r.1, ranked.whole), omega (arith, r.0)));
  }

  -- the row of these ranks is that of the place
  pub row_copied : (row width : ℕ) (words : List ℕ) → row < length placed
      → IsOfRanks (bucket sparse.lit (slice_index placed row)) ranks width words
      → IsCopied sparse own width (slice_index placed row) words
  row_copied row width words h is = record {
    whole = is.whole;
    exact = λ cell. (
      λ has. (let of = (is.exact cell).0 has in let r = rank_of row of.0 h of.1 in (
        omega (arith, r.0, of.2),
        subst (ListsAt sparse (slice_index placed row)) (sym r.1 ∙ ap (slice_index own) (sym of.2)) of.1,
      )),
      λ b. (is.exact cell).1 (slice_index own cell, b.1, sym (ranked.listed cell b.0)),
    );
  }

-- ---- all rows

-- before the first place there is no row
pub copied_none : (sparse : Sparse) (own placed : List ℕ) (width : ℕ) → AreCopied sparse own placed width 0 []
copied_none sparse own placed width = record { whole = refl; each = λ place lt. absurd (omega arith) }

-- one row more
pub copied_more : (sparse : Sparse) (own placed : List ℕ) (width count : ℕ) (rows : List (List ℕ)) (row : List ℕ)
    → AreCopied sparse own placed width count rows → IsCopied sparse own width (slice_index placed count) row
    → AreCopied sparse own placed width (count + 1) (rows ++ row ∷ [])
copied_more sparse own placed width count rows row s is = record {
  whole = omega (arith, length_push rows row, s.whole);
  each = λ place lt. elim (cases_lt place count) [
    | inl early ↦ subst (IsCopied sparse own width (slice_index placed place))
        (sym (get_or_append_left rows (row ∷ []) [] place (omega (arith, s.whole, early)))) (s.each place early)
    | inr late ↦ (let same : count ≡ place = omega arith in
        subst (IsCopied sparse own width (slice_index placed place))
        (sym (get_or_push rows row [] place (s.whole ∙ same)))
        (subst (λ (p : ℕ). IsCopied sparse own width (slice_index placed p) row) same is))
  ];
}

-- each of them has as many words as the width
pub copied_wide : (sparse : Sparse) (own placed : List ℕ) (width count : ℕ) (rows : List (List ℕ))
    → AreCopied sparse own placed width count rows → All (λ row. length row ≡ width) rows
copied_wide sparse own placed width count rows s k d lt =
    ap (λ (row : List ℕ). length row) (get_or_default rows k d [] lt) ∙ (s.each k (omega (arith, lt, s.whole))).whole
