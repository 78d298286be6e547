-- Taking the lit cells of a queue.
use Rattle.std.proofs.Common.{◌≡◌, ◌≢◌, ℕ, ◌<◌, ◌≤◌, ◌⊎◌, List, [], ◌∷◌, ◌++◌, length, take, set, get_or, slice_index}
use Rattle.std.proofs.Common.{Contains, refl, sym, ap, subst, ◌∙◌, arith, inl, inr, length-set, get_or-set_same}
use Rattle.std.proofs.Common.{get_or-set_other}
use Rattle.std.specs.Prelude.{◌↔◌}
use Rattle.std.proofs.lemmas.Bool.{cases_eq}
use Rattle.std.proofs.lemmas.Grind.{get_or_default_zero}
use Rattle.std.proofs.lemmas.List.{take_all}
use Rattle.std.proofs.lemmas.List.Quantifiers.{all_pairs_push}
use Rattle.std.proofs.lemmas.List.Elements.{Contains-append_left, Contains-append_right, Contains-append_cases}
use Rattle.std.proofs.lemmas.List.Elements.{Contains-push, Contains-push_cases}
use Rattle.cave_model.specs.Plan.{AreDistinct}
use Rattle.lit_lists.specs.Seeded.{AreTaken, ArePutOut}

-- no cell is in the empty list
none_in : {A : Type 0} (cell : ℕ) → Contains [] cell → A
none_in cell h = absurd (omega (arith, h.1))

-- an element is the first or one of the rest
pub cons_cases : (x : ℕ) (xs : List ℕ) (y : ℕ) → Contains (x ∷ xs) y → (x ≡ y) ⊎ Contains xs y
cons_cases x xs y h = elim (Contains-append_cases (x ∷ []) xs y h) [
  | inl one ↦ elim (Contains-push_cases [] x y one) [
    | inl none ↦ none_in y none
    | inr e ↦ inl e
  ]
  | inr more ↦ inr more
]

-- a number is in a list or not
pub has_or_not : (xs : List ℕ) (y : ℕ) → Contains xs y ⊎ (¬ Contains xs y)
has_or_not [] y = inr (λ h. none_in y h)
has_or_not (x ∷ xs) y = elim (cases_eq x y) [
  | inl e ↦ inl (subst (Contains (x ∷ xs)) e (Contains-append_left (x ∷ []) xs x (Contains-push [] x)))
  | inr ne ↦ elim (has_or_not xs y) [
    | inl h ↦ inl (Contains-append_right (x ∷ []) xs y h)
    | inr none ↦ inr (λ h. elim (cons_cases x xs y h) [
      | inl e ↦ ne e
      | inr h ↦ none h
    ])
  ]
]

-- what stands at an index is an element
pub element_of : (cells : List ℕ) (k : ℕ) → k < length cells → Contains cells (slice_index cells k)
element_of cells k h = (k, h, get_or_default_zero cells k (get_or cells k 0) h)

-- the levels of the cells that are done were taken away
pub record Taking (old done new cells : List ℕ) : Type 0 where
  pub whole : length new ≡ length old
  pub out : (cell : ℕ) → Contains done cell → slice_index new cell ≡ 0
  pub others : (cell : ℕ) → (¬ Contains done cell) → slice_index new cell ≡ slice_index old cell
  pub once : AreDistinct cells
  pub exact : (cell : ℕ) → Contains cells cell ↔ (Contains done cell × (0 < slice_index old cell))

-- before the first cell none is taken
pub taking_none : (old cells : List ℕ) → cells ≡ [] → Taking old [] old cells
taking_none old cells e = record {
  whole = refl;
  out = λ cell has. none_in cell has;
  others = λ cell none. refl;
  once = λ i j d lt h. (let z : length cells ≡ 0 = ap length e in absurd (omega arith));
  exact = λ cell. (λ has. none_in cell (subst (λ (l : List ℕ). Contains l cell) e has), λ b. none_in cell b.0);
}

module _ (old done new cells : List ℕ) (cell : ℕ) (s : Taking old done new cells) (h : cell < length old) where
  out_now : (other : ℕ) → Contains (done ++ cell ∷ []) other → slice_index (set new cell 0) other ≡ 0
  out_now other has = elim (cases_eq other cell) [
    | inl e ↦ ap (slice_index (set new cell 0)) e ∙ get_or-set_same new cell 0 0 (omega (arith, s.whole))
    | inr ne ↦ elim (Contains-push_cases done cell other has) [
      | inl was ↦ get_or-set_other new cell other 0 0 ne ∙ s.out other was
      | inr e ↦ absurd (ne (sym e))
    ]
  ]

  others_now : (other : ℕ) → (¬ Contains (done ++ cell ∷ []) other)
      → slice_index (set new cell 0) other ≡ slice_index old other
  others_now other none = elim (cases_eq other cell) [
    | inl e ↦ absurd (none (subst (Contains (done ++ cell ∷ [])) (sym e) (Contains-push done cell)))
    | inr ne ↦ get_or-set_other new cell other 0 0 ne
        ∙ s.others other (λ was. none (Contains-append_left done (cell ∷ []) other was))
  ]

  not_done : 0 < slice_index new cell → ¬ Contains done cell
  not_done le was = let z = s.out cell was in absurd (omega arith)

  -- the next cell is put out, and taken where it had the level
  pub taking_lit : 0 < slice_index new cell
      → Taking old (done ++ cell ∷ []) (set new cell 0) (cells ++ cell ∷ [])
  taking_lit le = record {
    whole = length-set new cell 0 ∙ s.whole;
    out = out_now;
    others = others_now;
    once = all_pairs_push (λ a b. a ≢ b) cells cell s.once (λ i d lt e. not_done le
        (subst (Contains done) e ((s.exact (get_or cells i d)).0 (
          i,
          lt,
          get_or_default_zero cells i (get_or cells i d) lt
              ∙ sym (get_or_default_zero cells i d lt),
        )).0));
    exact = λ other. (
      λ has. (elim (Contains-push_cases cells cell other has) [
        | inl was ↦ (let b = (s.exact other).0 was in (Contains-append_left done (cell ∷ []) other b.0, b.1))
        | inr e ↦ (
          subst (Contains (done ++ cell ∷ [])) e (Contains-push done cell),
          subst (λ (c : ℕ). 0 < slice_index old c) e (let same = s.others cell (not_done le) in omega arith),
        )
      ]),
      λ b. (elim (Contains-push_cases done cell other b.0) [
        | inl was ↦ Contains-append_left cells (cell ∷ []) other ((s.exact other).1 (was, b.1))
        | inr e ↦ subst (Contains (cells ++ cell ∷ [])) e (Contains-push cells cell)
      ]),
    );
  }

  -- and left where it hadn't
  pub taking_dim : slice_index new cell ≡ 0 → Taking old (done ++ cell ∷ []) (set new cell 0) cells
  taking_dim lt = record {
    whole = length-set new cell 0 ∙ s.whole;
    out = out_now;
    others = others_now;
    once = s.once;
    exact = λ other. (
      λ has. (let b = (s.exact other).0 has in (Contains-append_left done (cell ∷ []) other b.0, b.1)),
      λ b. (elim (has_or_not done other) [
        | inl was ↦ (s.exact other).1 (was, b.1)
        | inr none ↦ elim (Contains-push_cases done cell other b.0) [
          | inl was ↦ absurd (none was)
          | inr e ↦ (let same = s.others other none in let here : slice_index new cell ≡ slice_index new other =
              ap (slice_index new) e in absurd (omega (arith, b.1)))
        ]
      ]),
    );
  }

-- after the last the whole queue is done
pub taking_all : (old queue new cells : List ℕ) (index : ℕ) → length queue ≤ index
    → Taking old (take index queue) new cells → Taking old queue new cells
taking_all old queue new cells index le s = subst (λ (l : List ℕ). Taking old l new cells)
    (take_all index queue le) s

-- the cells taken are those of the queue with light
pub taken : (old queue new cells : List ℕ) → Taking old queue new cells
    → AreTaken old queue cells
taken old queue new cells s = record { once = s.once; exact = s.exact }

-- and all of the queue are without light
pub put_out : (old queue new cells : List ℕ) → Taking old queue new cells → ArePutOut old queue new
put_out old queue new cells s = record { out = s.out; others = s.others }
