-- Columns grow, place by place.
use Rattle.std.proofs.Common.{◌≡◌, ◌≢◌, ℕ, ◌+◌, ◌<◌, List, [], ◌∷◌, ◌++◌, length, slice_index_or, set, refl, sym, ap}
use Rattle.std.proofs.Common.{subst, ◌∙◌, arith, inl, inr, length-set, get_or-set_same, get_or-set_other}
use Rattle.std.specs.Prelude.{◌↔◌, ◌⊎◌}
use Rattle.std.proofs.lemmas.Bool.{cases_lt, cases_eq}
use Rattle.std.proofs.lemmas.List.{get_or_append_left, get_or_push, length_push}
use Rattle.set_cover.specs.Bits.{Has, IsNext, IsRowOf, IsWith, HasNoneFrom}
use Rattle.set_cover.specs.Instance.{Instance, LightsAt, row_of}
use Rattle.set_cover.proofs.ListLemmas.{none_in}
use Rattle.instance_regions.specs.Columns.{height_of, AreColumns}

-- ---- columns without bits

-- `count` columns without bits
pub record AreBare (height count : ℕ) (columns : List (List ℕ)) : Type 0 where
  pub whole : length columns ≡ count
  pub long : (cell : ℕ) → cell < count → length (slice_index_or columns cell []) ≡ height
  pub none : (cell : ℕ) → cell < count → IsRowOf [] (slice_index_or columns cell [])

-- no column at first
pub bare_none : (height : ℕ) → AreBare height 0 []
bare_none height =
    record { whole = refl; long = λ cell lt. absurd (omega arith); none = λ cell lt. absurd (omega arith) }

-- one column more
pub bare_more : (height count : ℕ) (columns : List (List ℕ)) (column : List ℕ) → AreBare height count columns
    → length column ≡ height → IsRowOf [] column → AreBare height (count + 1) (columns ++ column ∷ [])
bare_more height count columns column s long none = record {
  whole = omega (arith, length_push columns column, s.whole);
  long = λ cell lt. elim (cases_lt cell count) [
    | inl early ↦ ap (λ (l : List ℕ). length l) (was cell early) ∙ s.long cell early
    | inr late ↦ ap (λ (l : List ℕ). length l) (last cell (omega arith)) ∙ long
  ];
  none = λ cell lt. elim (cases_lt cell count) [
    | inl early ↦ subst (IsRowOf []) (sym (was cell early)) (s.none cell early)
    | inr late ↦ subst (IsRowOf []) (sym (last cell (omega arith))) none
  ];
}
  where
    was : (cell : ℕ) → cell < count
        → slice_index_or (columns ++ column ∷ []) cell [] ≡ slice_index_or columns cell []
    was cell early = get_or_append_left columns (column ∷ []) [] cell (omega (arith, early, s.whole))

    last : (cell : ℕ) → count ≡ cell → slice_index_or (columns ++ column ∷ []) cell [] ≡ column
    last cell same = get_or_push columns column [] cell (s.whole ∙ same)

-- columns without bits are those of no place
pub bare_columns : (instance : Instance) (columns : List (List ℕ))
    → AreBare (height_of instance) (length instance.cells) columns → AreColumns instance 0 columns
bare_columns instance columns s = record {
  whole = s.whole;
  each = λ cell of_it. record {
    whole = s.long cell of_it;
    exact = λ place. (
      λ h. none_in place (((s.none cell of_it).exact place).0 h),
      λ b. absurd (omega (arith, b.0)),
    );
  };
}

-- ---- one place more

-- the place is in the columns of those of its cells that are below a limit, and all places before it are
pub record AreGrown (instance : Instance) (place limit : ℕ) (columns : List (List ℕ)) : Type 0 where
  pub whole : length columns ≡ length instance.cells
  pub long : (cell : ℕ) → cell < length instance.cells → length (slice_index_or columns cell []) ≡ height_of instance
  pub exact : (cell other : ℕ) → cell < length instance.cells → Has (slice_index_or columns cell []) other
      ↔ (((other < place) × LightsAt instance other cell)
      ⊎ ((other ≡ place) × (cell < limit) × LightsAt instance place cell))

-- it begins in none
pub grown_none : (instance : Instance) (place : ℕ) (columns : List (List ℕ)) → AreColumns instance place columns
    → AreGrown instance place 0 columns
grown_none instance place columns s = record {
  whole = s.whole;
  long = λ cell of_it. (s.each cell of_it).whole;
  exact = λ cell other of_it. (
    λ h. inl (((s.each cell of_it).exact other).0 h),
    λ h. elim h [
      | inl early ↦ ((s.each cell of_it).exact other).1 early
      | inr here ↦ absurd (omega (arith, here.1))
    ],
  );
}

-- the next cell's column gets it
pub grown_more : (instance : Instance) (place limit cell : ℕ) (columns : List (List ℕ)) (column : List ℕ)
    → cell < length instance.cells → IsNext (row_of instance place) limit cell
    → IsWith (slice_index_or columns cell []) place column → AreGrown instance place limit columns
    → AreGrown instance place (cell + 1) (set columns cell column)
grown_more instance place limit cell columns column inside is more s = record {
  whole = length-set columns cell column ∙ s.whole;
  long = λ other of_it. elim (cases_eq other cell) [
    | inl e ↦ ap (λ (k : ℕ). length (slice_index_or next k [])) e ∙ ap (λ (l : List ℕ). length l) here ∙ more.whole
        ∙ s.long cell inside
    | inr ne ↦ ap (λ (l : List ℕ). length l) (others other ne) ∙ s.long other of_it
  ];
  exact = λ at other of_it. elim (cases_eq at cell) [
    | inl e ↦ subst (λ (k : ℕ). Has (slice_index_or next k []) other ↔ Grown k other) (sym e)
        (subst (λ (l : List ℕ). Has l other ↔ Grown cell other) (sym here) (this other))
    | inr ne ↦ subst (λ (l : List ℕ). Has l other ↔ Grown at other) (sym (others at ne)) (that at other ne of_it)
  ];
}
  where
    next : List (List ℕ)
    next = set columns cell column

    Grown : ℕ → ℕ → Type 0
    Grown at other = ((other < place) × LightsAt instance other at)
        ⊎ ((other ≡ place) × (at < cell + 1) × LightsAt instance place at)

    here : slice_index_or next cell [] ≡ column
    here = get_or-set_same columns cell column [] (omega (arith, inside, s.whole))

    others : (at : ℕ) → at ≢ cell → slice_index_or next at [] ≡ slice_index_or columns at []
    others at ne = get_or-set_other columns cell at column [] ne

    this : (other : ℕ) → Has column other ↔ Grown cell other
    this other = (
      λ h. elim ((more.exact other).0 h) [
        | inl was ↦ elim ((s.exact cell other inside).0 was) [
          | inl early ↦ inl early
          | inr late ↦ inr (late.0, omega arith, late.2)
        ]
        | inr e ↦ inr (e, omega arith, is.there)
      ],
      λ h. (more.exact other).1 (elim h [
        | inl early ↦ inl ((s.exact cell other inside).1 (inl early))
        | inr late ↦ inr late.0
      ]),
    )

    that : (at other : ℕ) → at ≢ cell → at < length instance.cells
        → Has (slice_index_or columns at []) other ↔ Grown at other
    that at other ne of_it = (
      λ h. elim ((s.exact at other of_it).0 h) [
        | inl early ↦ inl early
        | inr late ↦ inr (late.0, omega (arith, late.1, is.later), late.2)
      ],
      λ h. (s.exact at other of_it).1 (elim h [
        | inl early ↦ inl early
        | inr late ↦ elim (cases_lt at limit) [
          | inl lt ↦ inr (late.0, lt, late.2)
          | inr le ↦ (let least = is.least at le late.2 in absurd (ne (omega (arith, least, late.1))))
        ]
      ]),
    )

-- where none follows it is in all of them
pub grown_all : (instance : Instance) (place limit : ℕ) (columns : List (List ℕ))
    → HasNoneFrom (row_of instance place) limit → AreGrown instance place limit columns
    → AreColumns instance (place + 1) columns
grown_all instance place limit columns none s = record {
  whole = s.whole;
  each = λ cell of_it. record {
    whole = s.long cell of_it;
    exact = λ other. (
      λ h. elim ((s.exact cell other of_it).0 h) [
        | inl early ↦ (omega (arith, early.0), early.1)
        | inr late ↦ (omega (arith, late.0), subst (λ (p : ℕ). LightsAt instance p cell) (sym late.0) late.2)
      ],
      λ b. (s.exact cell other of_it).1 (elim (cases_lt other place) [
        | inl lt ↦ inl (lt, b.1)
        | inr le ↦ (let same : other ≡ place = omega (arith, b.0) in
            let lit = subst (λ (p : ℕ). LightsAt instance p cell) same b.1 in elim (cases_lt cell limit) [
              | inl lt ↦ inr (same, lt, lit)
              | inr past ↦ absurd (none cell past lit)
            ])
      ]),
    );
  };
}
