-- In which lists cells stand, list after list.
use Rattle.std.proofs.Common.{◌≡◌, ◌≢◌, ℕ, ◌+◌, ◌<◌, ◌≤◌, ◌⊎◌, inl, inr, List, [], ◌∷◌, ◌++◌, length, take, set}
use Rattle.std.proofs.Common.{slice_index, slice_index_or, Contains, refl, sym, ap, subst, ◌∙◌, arith, length-append}
use Rattle.std.proofs.Common.{length-set, get_or-set_same, get_or-set_other}
use Rattle.std.specs.Prelude.{Bool, true, false, nat_eq, if◌then◌else◌, ◌↔◌}
use Rattle.std.proofs.lemmas.Bool.{cases_eq, cases_lt, eqb-true, eq-eqb, true≢false}
use Rattle.std.proofs.lemmas.List.{take_more, take_all, get_or_past, get_or_push, get_or_append_left}
use Rattle.std.proofs.lemmas.List.Elements.{Contains-append_left, Contains-push, Contains-push_cases}
use Rattle.proof_rules.proofs.ListLemmas.{no_member, has_or_not}
use Rattle.node_judges.proofs.TestLemmas.{element_of}
use Rattle.proof_check.specs.Refused.{IsInTwo}
use Rattle.proof_check.specs.Homes.{Stands, IsHomeOf, both_homes, Homes, AreHomesOf, Joins, PutsAll, AreInTwo}
use Rattle.proof_check.specs.declared.homes.Home.{Home}
use Rattle.proof_check.specs.declared.homes.Home.TheVariants as home

-- ---- one more list

-- a cell stands where it stood when a list is added
pub stands_old : (lists : List (List ℕ)) (cells : List ℕ) (i cell : ℕ) → Stands lists i cell
    → Stands (lists ++ cells ∷ []) i cell
stands_old lists cells i cell h = elim (cases_lt i (length lists)) [
  | inl lt ↦ subst (λ (l : List ℕ). Contains l cell) (sym (get_or_append_left lists (cells ∷ []) [] i lt)) h
  | inr le ↦ no_member cell (subst (λ (l : List ℕ). Contains l cell) (get_or_past lists i [] le) h)
]

-- the cells of the added list stand in it
pub stands_new : (lists : List (List ℕ)) (cells : List ℕ) (cell : ℕ) → Contains cells cell
    → Stands (lists ++ cells ∷ []) (length lists) cell
stands_new lists cells cell h = subst (λ (l : List ℕ). Contains l cell)
    (sym (get_or_push lists cells [] (length lists) refl)) h

-- after a list is added, a cell stands in an old one or in the new one
stands_cases : (lists : List (List ℕ)) (cells : List ℕ) (i cell : ℕ) → Stands (lists ++ cells ∷ []) i cell
    → Stands lists i cell ⊎ ((i ≡ length lists) × Contains cells cell)
stands_cases lists cells i cell h = elim (cases_lt i (length lists)) [
  | inl lt ↦ inl (subst (λ (l : List ℕ). Contains l cell) (get_or_append_left lists (cells ∷ []) [] i lt) h)
  | inr le ↦ elim (cases_eq i (length lists)) [
    | inl e ↦ inr (e, subst (λ (l : List ℕ). Contains l cell) (get_or_push lists cells [] i (sym e)) h)
    | inr ne ↦ no_member cell (subst (λ (l : List ℕ). Contains l cell)
        (get_or_past (lists ++ cells ∷ []) i [] (past i le ne)) h)
  ]
] where
  past : (i : ℕ) → length lists ≤ i → i ≢ length lists → length (lists ++ cells ∷ []) ≤ i
  past i le ne = elim (cases_lt (length lists) i) [
    | inl lt ↦ omega (arith, length-append lists (cells ∷ []))
    | inr ge ↦
        absurd (ne (omega arith))
  ]

-- a list in which a cell stands is one of the lists
in_range : (lists : List (List ℕ)) (i cell : ℕ) → Stands lists i cell → i < length lists
in_range lists i cell h = elim (cases_lt i (length lists)) [
  | inl lt ↦ lt
  | inr le ↦ no_member cell (subst (λ (l : List ℕ). Contains l cell) (get_or_past lists i [] le) h)
]

-- the home of a cell that isn't in the next list
home_out : (lists : List (List ℕ)) (cells : List ℕ) (cell : ℕ) (h : Home) → (¬ Contains cells cell)
    → IsHomeOf lists cell h → IsHomeOf (lists ++ cells ∷ []) cell h
home_out lists cells cell home.Nowhere out is = λ l. elim (stands_cases lists cells l.0 cell l.1)
    [ inl old ↦ is (l.0, old) | inr new ↦ out new.1 ]
home_out lists cells cell (home.Only i) out is = (
  stands_old lists cells i cell is.0,
  λ j s. elim (stands_cases lists cells j cell s) [ inl old ↦ is.1 j old | inr new ↦ absurd (out new.1) ],
)
home_out lists cells cell home.Several out is =
    (is.0, is.1, is.2, stands_old lists cells is.0 cell is.3, stands_old lists cells is.1 cell is.4)

-- the home of a cell that is in it
home_in : (lists : List (List ℕ)) (cells : List ℕ) (cell : ℕ) (h : Home) → Contains cells cell → IsHomeOf lists cell h
    → IsHomeOf (lists ++ cells ∷ []) cell (both_homes h (home.Only (length lists)))
home_in lists cells cell home.Nowhere has is = (
  stands_new lists cells cell has,
  λ j s. elim (stands_cases lists cells j cell s) [ inl old ↦ absurd (is (j, old)) | inr new ↦ new.0 ],
)
home_in lists cells cell home.Several has is =
    (is.0, is.1, is.2, stands_old lists cells is.0 cell is.3, stands_old lists cells is.1 cell is.4)
home_in lists cells cell (home.Only i) has is = go (nat_eq i (length lists)) refl where
  lt : i < length lists
  lt = in_range lists i cell is.0

  go : (b : Bool) → nat_eq i (length lists) ≡ b
      → IsHomeOf (lists ++ cells ∷ []) cell (if b then home.Only i else home.Several)
  go true e = absurd (let same : i ≡ length lists = eqb-true i (length lists) e in omega (arith, lt))
  go false e = (i, length lists, lt, stands_old lists cells i cell is.0, stands_new lists cells cell has)

-- where all cells were put into the list of the next number, that list has joined
pub homes_join : (cells : List ℕ) (old new : List Home) (number more : ℕ) → PutsAll number cells old new
    → more ≡ number + 1 → Joins cells (record { homes = old; count = number }) (record { homes = new; count = more })
homes_join cells old new number more p e = record {
  whole = p.whole;
  each = λ lists a. record {
    counted = omega (arith, a.counted, length-append lists (cells ∷ []));
    each = λ cell lt. (let inside : cell < length old = omega (arith, p.whole) in elim (has_or_not cells cell) [
      | inl has ↦ subst (IsHomeOf (lists ++ cells ∷ []) cell)
          (sym (p.here cell has inside
          ∙ ap (λ (n : ℕ). both_homes (slice_index_or old cell home.Nowhere) (home.Only n)) a.counted))
          (home_in lists cells cell (slice_index_or old cell home.Nowhere) has (a.each cell inside))
      | inr out ↦ subst (IsHomeOf (lists ++ cells ∷ []) cell) (sym (p.others cell out))
          (home_out lists cells cell (slice_index_or old cell home.Nowhere) out (a.each cell inside))
    ]);
  };
}

-- ---- putting cells into a list

-- putting a cell twice into a list is putting it once
both_twice : (h : Home) (n : ℕ) → both_homes (both_homes h (home.Only n)) (home.Only n) ≡ both_homes h (home.Only n)
both_twice home.Nowhere n = ap (λ (b : Bool). if b then home.Only n else home.Several) (eq-eqb n n refl)
both_twice home.Several n = refl
both_twice (home.Only i) n = go (nat_eq i n) refl where
  go : (b : Bool) → nat_eq i n ≡ b
      → both_homes (if b then home.Only i else home.Several) (home.Only n) ≡ (if b then home.Only i else home.Several)
  go true e = ap (λ (b : Bool). if b then home.Only i else home.Several) e
  go false e = refl

module _ (number : ℕ) (old now : List Home) (done : List ℕ) (cell : ℕ) (s : PutsAll number done old now) where
  -- a cell outside the box is put nowhere
  pub puts_past : length now ≤ cell → PutsAll number (done ++ cell ∷ []) old now
  puts_past le = record {
    whole = s.whole;
    here = λ other has lt. (elim (Contains-push_cases done cell other has) [
      | inl was ↦ s.here other was lt
      | inr e ↦ absurd (omega (arith, s.whole))
    ]);
    others = λ other out. s.others other (λ was. out (Contains-append_left done (cell ∷ []) other was));
  }

  -- the next cell is put into the list
  pub puts_one : (new : Home) → cell < length now
      → new ≡ both_homes (slice_index_or now cell home.Nowhere) (home.Only number)
      → PutsAll number (done ++ cell ∷ []) old (set now cell new)
  puts_one new lt e = record {
    whole = length-set now cell new ∙ s.whole;
    here = λ other has inside. (elim (cases_eq other cell) [
      | inl same ↦ subst (λ (o : ℕ). slice_index_or (set now cell new) o home.Nowhere ≡ both_homes
          (slice_index_or old o home.Nowhere) (home.Only number)) (sym same)
          (get_or-set_same now cell new home.Nowhere lt ∙ e ∙ elim (has_or_not done cell) [
            | inl was ↦ (let h = s.here cell was (omega (arith, s.whole)) in
                ap (λ (x : Home). both_homes x (home.Only number)) h
                ∙ both_twice (slice_index_or old cell home.Nowhere) number)
            | inr out ↦ ap (λ (x : Home). both_homes x (home.Only number)) (s.others cell out)
          ])
      | inr ne ↦ get_or-set_other now cell other new home.Nowhere ne ∙ elim (Contains-push_cases done cell other has) [
        | inl was ↦ s.here other was inside
        | inr f ↦ absurd (ne (sym f))
      ]
    ]);
    others = λ other out. (elim (cases_eq other cell) [
      | inl same ↦ absurd (out (subst (Contains (done ++ cell ∷ [])) (sym same) (Contains-push done cell)))
      | inr ne ↦ get_or-set_other now cell other new home.Nowhere ne
          ∙ s.others other (λ was. out (Contains-append_left done (cell ∷ []) other was))
    ]);
  }

-- ---- what some cells have together

abbrev pub SeenIs : List (List ℕ) → List ℕ → Home → Type 0
SeenIs lists done home.Nowhere = (i b : ℕ) → Contains done b → ¬ Stands lists i b
SeenIs lists done (home.Only i) = (a : ℕ) × Contains done a × Stands lists i a
    × ((j b : ℕ) → Contains done b → Stands lists j b → j ≡ i)
SeenIs lists done home.Several = AreInTwo lists done

-- cells of two different lists are in two lists, in whatever order
two_of : (lists : List (List ℕ)) (done : List ℕ) (i j a b : ℕ) → i ≢ j → Stands lists i a → Stands lists j b
    → Contains done a → Contains done b → AreInTwo lists done
two_of lists done i j a b ne h g x y = elim (cases_lt i j) [
  | inl lt ↦ (i, j, a, b, lt, h, g, x, y)
  | inr le ↦ elim (cases_lt j i) [
    | inl lt ↦ (j, i, b, a, lt, g, h, y, x)
    | inr ge ↦ absurd (ne (omega arith))
  ]
]

module _ (lists : List (List ℕ)) (done : List ℕ) (cell : ℕ) where
  keep : (b : ℕ) → Contains done b → Contains (done ++ cell ∷ []) b
  keep b h = Contains-append_left done (cell ∷ []) b h

  last : Contains (done ++ cell ∷ []) cell
  last = Contains-push done cell

  several : (i j : ℕ) → IsInTwo lists cell → AreInTwo lists (done ++ cell ∷ [])
  several i j t = (t.0, t.1, cell, cell, t.2, t.3, t.4, last, last)

  -- what is seen of the cells and the next one
  pub seen_more : (seen h : Home) → SeenIs lists done seen → IsHomeOf lists cell h
      → SeenIs lists (done ++ cell ∷ []) (both_homes seen h)
  seen_more home.Nowhere home.Nowhere s is = λ i b has st. elim (Contains-push_cases done cell b has) [
    | inl was ↦ s i b was st
    | inr e ↦ is (i, subst (Stands lists i) (sym e) st)
  ]
  seen_more home.Nowhere (home.Only j) s is = (
    cell,
    last,
    is.0,
    λ k b has st. elim (Contains-push_cases done cell b has) [
      | inl was ↦ absurd (s k b was st)
      | inr e ↦ is.1 k (subst (Stands lists k) (sym e) st)
    ],
  )
  seen_more home.Nowhere home.Several s is = several 0 0 is
  seen_more home.Several h s is = (s.0, s.1, s.2, s.3, s.4, s.5, s.6, keep s.2 s.7, keep s.3 s.8)
  seen_more (home.Only i) home.Nowhere s is = (
    s.0,
    keep s.0 s.1,
    s.2,
    λ k b has st. elim (Contains-push_cases done cell b has) [
      | inl was ↦ s.3 k b was st
      | inr e ↦ absurd (is (k, subst (Stands lists k) (sym e) st))
    ],
  )
  seen_more (home.Only i) home.Several s is = several 0 0 is
  seen_more (home.Only i) (home.Only j) s is = go (nat_eq i j) refl where
    go : (b : Bool) → nat_eq i j ≡ b → SeenIs lists (done ++ cell ∷ []) (if b then home.Only i else home.Several)
    go true e = (
      s.0,
      keep s.0 s.1,
      s.2,
      λ k b has st. elim (Contains-push_cases done cell b has) [
        | inl was ↦ s.3 k b was st
        | inr f ↦ is.1 k (subst (Stands lists k) (sym f) st) ∙ sym (eqb-true i j e)
      ],
    )
    go false e = two_of lists (done ++ cell ∷ []) i j s.0 cell (λ f. true≢false (sym (eq-eqb i j f) ∙ e))
        s.2 is.0 (keep s.0 s.1) last

-- of no cells nothing is seen
pub seen_none : (lists : List (List ℕ)) → SeenIs lists [] home.Nowhere
seen_none lists = λ i b has st. no_member b has

-- several homes are seen just where the cells are in two lists
pub seen_two : (lists : List (List ℕ)) (cells : List ℕ) (seen : Home) → SeenIs lists cells seen
    → (seen ≡ home.Several) ↔ AreInTwo lists cells
seen_two lists cells home.Several s = (λ e. s, λ t. refl)
seen_two lists cells home.Nowhere s = (λ e. absurd cc, λ t. absurd (s t.0 t.2 t.7 t.5))
seen_two lists cells (home.Only i) s = (
  λ e. absurd cc,
  λ t. absurd (let a = s.3 t.0 t.2 t.7 t.5 in let b = s.3 t.1 t.3 t.8 t.6 in
      let lt : t.0 < t.1 = t.4 in omega arith),
)

-- the cells up to an index, of whatever lists
pub record Seeing (h : Homes) (cells : List ℕ) (index : ℕ) (seen : Home) : Type 0 where
  pub each : (lists : List (List ℕ)) → AreHomesOf lists h → ((cell : ℕ) → Contains cells cell → cell < length h.homes)
      → SeenIs lists (take index cells) seen

-- before the first cell nothing is seen
pub seeing_start : (h : Homes) (cells : List ℕ) → Seeing h cells 0 home.Nowhere
seeing_start h cells = record { each = λ lists a inside. seen_none lists }

-- the next cell's home is added to those seen
pub seeing_next : (h : Homes) (cells : List ℕ) (index : ℕ) (seen here : Home) → index < length cells
    → Seeing h cells index seen → here ≡ slice_index_or h.homes (slice_index cells index) home.Nowhere
    → Seeing h cells (index + 1) (both_homes seen here)
seeing_next h cells index seen here lt s e = record {
  each = λ lists a inside. subst (λ (l : List ℕ). SeenIs lists l (both_homes seen here))
      (sym (take_more cells index 0 lt))
      (seen_more lists (take index cells) (slice_index cells index) seen here (s.each lists a inside)
      (subst (IsHomeOf lists (slice_index cells index)) (sym e)
      (a.each (slice_index cells index) (inside (slice_index cells index) (element_of cells index lt)))));
}

-- after the last cell, several homes are seen just where the cells are in two lists
pub seeing_end : (h : Homes) (cells : List ℕ) (index : ℕ) (seen : Home) → length cells ≤ index
    → Seeing h cells index seen → (lists : List (List ℕ)) → AreHomesOf lists h
    → ((cell : ℕ) → Contains cells cell → cell < length h.homes) → (seen ≡ home.Several) ↔ AreInTwo lists cells
seeing_end h cells index seen le s lists a inside = seen_two lists cells seen
    (subst (λ (l : List ℕ). SeenIs lists l seen) (take_all index cells le) (s.each lists a inside))

-- the front of a joined list is its first part
pub front_part : {A : Type 0} (xs ys : List A) → take (length xs) (xs ++ ys) ≡ xs
front_part [] ys = refl
front_part (x ∷ xs) ys = ap (λ l. x ∷ l) (front_part xs ys)
