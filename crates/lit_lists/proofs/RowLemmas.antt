-- Lists by number, in the order in which they grow.
use Rattle.std.proofs.Common.{◌≡◌, ℕ, ◌+◌, ◌<◌, ◌⊎◌, List, [], ◌∷◌, ◌++◌, length}
use Rattle.std.proofs.Common.{Contains, refl, sym, ap, subst, ◌∙◌, arith, inl, inr}
use Rattle.std.specs.Prelude.{◌↔◌}
use Rattle.std.specs.List.Sorted.{IsStrictlyIncreasing}
use Rattle.std.proofs.lemmas.Bool.{cases_eq, cases_lt}
use Rattle.std.proofs.lemmas.List.Elements.{Contains-append_left, Contains-push, Contains-push_cases}
use Rattle.std.proofs.lemmas.List.{get_or_past}
use Rattle.lit_lists.specs.Lists.{row_at}
use Rattle.lit_lists.specs.Rows.{AreEmptyRows, ArePushed, AreTurned, IsPushed}
use Rattle.lit_lists.proofs.PairLemmas.{rising_push}

-- ---- one number at the end of many lists

-- no cell is in the empty list
pub none_in : {A : Type 0} (cell : ℕ) → Contains [] cell → A
none_in cell h = absurd (omega (arith, h.1))

-- with no cells nothing is pushed
pub pushed_none : (Here : ℕ → Type 0) (rows : List (List ℕ)) (number : ℕ) → ((cell : ℕ) → ¬ Here cell)
    → ArePushed Here rows number rows
pushed_none Here rows number none =
    record { whole = refl; here = λ cell h. absurd (none cell h); others = λ cell never. refl }

-- a cell more
pub pushed_more : (Here There : ℕ → Type 0) (old now next : List (List ℕ)) (cell number : ℕ)
    → ArePushed Here old number now → (¬ Here cell) → ((other : ℕ) → There other ↔ (Here other ⊎ (cell ≡ other)))
    → IsPushed now cell number next → ArePushed There old number next
pushed_more Here There old now next cell number s new both a = record {
  whole = a.whole ∙ s.whole;
  here = λ other h. (elim (cases_eq other cell) [
    | inl e ↦ ap (row_at next) e ∙ a.here ∙ ap (λ (l : List ℕ). l ++ number ∷ [])
        (s.others cell new ∙ ap (row_at old) (sym e))
    | inr ne ↦ a.others other ne ∙ elim ((both other).0 h) [
      | inl was ↦ s.here other was
      | inr e ↦ absurd (ne (sym e))
    ]
  ]);
  others = λ other never. (elim (cases_eq other cell) [
    | inl e ↦ absurd (never ((both other).1 (inr (sym e))))
    | inr ne ↦ a.others other ne ∙ s.others other (λ h. never ((both other).1 (inl h)))
  ]);
}

-- the cells so far and the next
pub with_next : (done : List ℕ) (cell other : ℕ) → Contains (done ++ cell ∷ []) other
    ↔ (Contains done other ⊎ (cell ≡ other))
with_next done cell other = (
  λ h. Contains-push_cases done cell other h,
  λ h. (elim h [
    | inl was ↦ Contains-append_left done (cell ∷ []) other was
    | inr e ↦ subst (Contains (done ++ cell ∷ [])) e (Contains-push done cell)
  ]),
)

-- ---- one number after another

-- the list of each cell has, ascending, the numbers below this one that go with it
pub record AreRowsBelow (GoesWith : ℕ → ℕ → Type 0) (count : ℕ) (rows : List (List ℕ)) : Type 0 where
  pub exact : (cell number : ℕ) → Contains (row_at rows cell) number ↔ ((number < count) × GoesWith cell number)
  pub ascending : (cell : ℕ) → IsStrictlyIncreasing (row_at rows cell)

-- before the first number the lists are empty
pub below_none : (GoesWith : ℕ → ℕ → Type 0) (count : ℕ) (rows : List (List ℕ)) → AreEmptyRows count rows
    → AreRowsBelow GoesWith 0 rows
below_none GoesWith count rows none = record {
  exact = λ cell number. (
    λ h. none_in number (subst (λ (l : List ℕ). Contains l number) (none.empty cell) h),
    λ b. absurd (omega (arith, b.0)),
  );
  ascending = λ cell. subst IsStrictlyIncreasing (sym (none.empty cell)) (λ k h. absurd (omega arith));
}

module _ (GoesWith : ℕ → ℕ → Type 0) (count : ℕ) (rows : List (List ℕ)) (s : AreRowsBelow GoesWith count rows) where
  wider : (cell number : ℕ) → (number < count) × GoesWith cell number → (number < count + 1) × GoesWith cell number
  wider cell number b = (omega (arith, b.0), b.1)

  split : (number : ℕ) → number < count + 1 → (number < count) ⊎ (number ≡ count)
  split number h = elim (cases_lt number count) [ inl lt ↦ inl lt | inr le ↦ inr (omega arith) ]

  -- a number pushed to the cells that it goes with
  pub below_more : (Here : ℕ → Type 0) (next : List (List ℕ)) → ArePushed Here rows count next
      → ((cell : ℕ) → Here cell ↔ GoesWith cell count) → ((cell : ℕ) → Here cell ⊎ (¬ Here cell))
      → AreRowsBelow GoesWith (count + 1) next
  below_more Here next a is or_not = record {
    exact = λ cell number. (elim (or_not cell) [
      | inl here ↦ (let e = a.here cell here in (
        λ h. (elim (Contains-push_cases (row_at rows cell) count number
            (subst (λ (l : List ℕ). Contains l number) e h)) [
              | inl old ↦ wider cell number ((s.exact cell number).0 old)
              | inr same ↦ (omega arith, subst (GoesWith cell) same ((is cell).0 here))
            ]),
        λ b. subst (λ (l : List ℕ). Contains l number) (sym e) (elim (split number b.0) [
          | inl lt ↦ Contains-append_left (row_at rows cell) (count ∷ []) number ((s.exact cell number).1 (lt, b.1))
          | inr same ↦ subst (Contains (row_at rows cell ++ count ∷ [])) (sym same)
              (Contains-push (row_at rows cell) count)
        ]),
      ))
      | inr never ↦ (let e = a.others cell never in (
        λ h. wider cell number ((s.exact cell number).0 (subst (λ (l : List ℕ). Contains l number) e h)),
        λ b. subst (λ (l : List ℕ). Contains l number) (sym e) (elim (split number b.0) [
          | inl lt ↦ (s.exact cell number).1 (lt, b.1)
          | inr same ↦ absurd (never ((is cell).1 (subst (GoesWith cell) same b.1)))
        ]),
      ))
    ]);
    ascending = λ cell. (elim (or_not cell) [
      | inl here ↦ subst IsStrictlyIncreasing (sym (a.here cell here))
          (rising_push (row_at rows cell) count (s.ascending cell) (λ number h. ((s.exact cell number).0 h).0))
      | inr never ↦ subst IsStrictlyIncreasing (sym (a.others cell never)) (s.ascending cell)
    ]);
  }

-- ---- the other way round

-- which cells have the number in their lists
abbrev pub HasIn : List (List ℕ) → ℕ → ℕ → Type 0
HasIn rows number cell = Contains (row_at rows cell) number

-- past the last cell there is no list
pub turned_all : (rows turned : List (List ℕ)) (count : ℕ) → length rows ≡ count
    → AreRowsBelow (HasIn rows) count turned → AreTurned rows turned
turned_all rows turned count whole s = record {
  exact = λ number cell. (
    λ h. ((s.exact number cell).0 h).1,
    λ has. (s.exact number cell).1 (within cell number has, has),
  );
  ascending = s.ascending;
} where
  within : (cell number : ℕ) → HasIn rows number cell → cell < count
  within cell number has = elim (cases_lt cell count) [
    | inl lt ↦ lt
    | inr le ↦ none_in number (subst (λ (l : List ℕ). Contains l number) (get_or_past rows cell [] (omega arith)) has)
  ]
