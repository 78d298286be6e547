-- What looked-at rows make.
use Rattle.std.proofs.Common.{◌≡◌, ℕ, ◌+◌, ◌*◌, ◌<◌, List, [], ◌∷◌, ◌++◌, length, sym, ap, subst, ◌∙◌, arith, inl}
use Rattle.std.proofs.Common.{inr, length-append}
use Rattle.std.specs.List.Sorted.{IsStrictlyIncreasing}
use Rattle.std.proofs.lemmas.Bool.{cases_lt}
use Rattle.std.proofs.lemmas.List.{get_or_push, get_or_append_left, length_push}
use Rattle.set_cover.specs.Bits.{Has}
use Rattle.set_cover.specs.Instance.{words_for}
use Rattle.set_cover.specs.Rows.{AreRows, words_of}
use Rattle.set_cover.proofs.PieceLemmas.{piece_at, pieces_long}
use Rattle.instance_regions.specs.Region.{IsRegion}
use Rattle.search_cases.specs.Made.{CountsUp, AreWide, AreLit}

-- numbers that count up, and the next one
pub counts_more : (count : ℕ) (numbers more : List ℕ) → CountsUp count numbers → more ≡ numbers ++ count ∷ []
    → CountsUp (count + 1) more
counts_more count numbers more c e = subst (CountsUp (count + 1)) (sym e) record {
  long = omega (arith, c.long, length-append numbers (count ∷ []));
  each = λ k h. elim (cases_lt k count) [
    | inl lt ↦ (let inside : k < length numbers =
        omega (arith, c.long) in get_or_append_left numbers (count ∷ []) 0 k inside ∙ c.each k lt)
    | inr le ↦ (let last : k ≡ count = omega arith in get_or_push numbers count 0 k (c.long ∙ sym last) ∙ sym last)
  ];
}

-- numbers that count up ascend
counts_ascend : (count : ℕ) (numbers : List ℕ) → CountsUp count numbers → IsStrictlyIncreasing numbers
counts_ascend count numbers c k h = (let here = c.each k (omega (arith, c.long)) in let next = c.each (k + 1)
    (omega (arith, c.long)) in omega arith)

-- a row more
pub rows_push : (count width : ℕ) (rows : List (List ℕ)) (row : List ℕ) → AreRows count width rows
    → length row ≡ width → AreRows (count + 1) width (rows ++ row ∷ [])
rows_push count width rows row s long = record {
  whole = omega (arith, length_push rows row, s.whole);
  wide = λ k d h. elim (cases_lt k (length rows)) [
    | inl lt ↦ ap (λ (l : List ℕ). length l) (get_or_append_left rows (row ∷ []) d k lt) ∙ s.wide k d lt
    | inr le ↦ (let last : length rows ≡ k = omega (arith, le, h, length_push rows row) in
        ap (λ (l : List ℕ). length l) (get_or_push rows row d k last) ∙ long)
  ];
}

-- cells and places that count up make a region with rows of that width
pub rows_make : (count width : ℕ) (cells all : List ℕ) (rows : List (List ℕ)) → CountsUp count cells
    → CountsUp (length rows) all → width ≡ words_for count → AreWide width rows → AreLit count rows
    → IsRegion (record { cells = cells; places = all; width = width; words = words_of rows })
rows_make count width cells all rows c p wide each lit = record {
  kept = record {
    cells_ascend = counts_ascend count cells c;
    places_ascend = counts_ascend (length rows) all p;
    wide = wide ∙ ap words_for (sym c.long);
    whole = pieces_long width rows each ∙ ap (λ (n : ℕ). n * width) (sym p.long);
    of_cells = λ place cell inside lights. elim (cases_lt cell (length cells)) [
      | inl lt ↦ lt
      | inr le ↦ (let there : place < length rows = omega (arith, inside, p.long) in
          absurd ((lit.each place there).none_past cell (omega (arith, le, c.long))
          (subst (λ (row : List ℕ). Has row cell) (piece_at width rows place each there) lights)))
    ];
    lightable = λ cell inside. (let by = lit.lit cell (omega (arith, inside, c.long)) in
        let there : by.0 < length all = omega (arith, by.1, p.long) in (
          by.0,
          there,
          subst (λ (row : List ℕ). Has row cell) (sym (piece_at width rows by.0 each by.1)) by.2,
        ));
  };
  filled = omega (arith, lit.filled, c.long);
  lighting = λ place inside. (let there : place < length rows = omega (arith, inside, p.long) in
      let some = (lit.each place there).some in
      (some.0, subst (λ (row : List ℕ). Has row some.0) (sym (piece_at width rows place each there)) some.1));
}

-- what isn't 0 is above it
pub above_none : (n : ℕ) → (n ≡ 0 → ⊥) → 0 < n
above_none n other = elim (cases_lt 0 n) [
  | inl lt ↦ lt
  | inr le ↦ absurd (other (omega arith))
]
