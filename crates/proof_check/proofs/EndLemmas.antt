-- From what is found at the end to the reasons.
use Rattle.std.proofs.Common.{◌≡◌, ℕ, zero, suc, ◌<◌, ◌⊎◌, inl, inr, List, [], ◌∷◌, length, All, Contains, IsTrue}
use Rattle.std.proofs.Common.{refl, sym, subst, arith}
use Rattle.std.specs.Prelude.{Bool, true, false, ◌↔◌, slice_index_or}
use Rattle.std.proofs.lemmas.Bool.{cases_lt, true≢false}
use Rattle.std.proofs.lemmas.List.Elements.{All-nil, All-cons, All-head, All-tail}
use Rattle.std.proofs.lemmas.List.Kept.{AllPairs-from_increasing}
use Rattle.proof_rules.proofs.ListLemmas.{no_member, cons_cases, later, here, all_members, at_member, distinct_nil}
use Rattle.proof_rules.proofs.ListLemmas.{distinct_append}
use Rattle.cave_base.specs.Box.{cell_count}
use Rattle.cave_model.specs.Cave.{Cave}
use Rattle.cave_model.specs.Coverage.{of_cave, IsLitBy}
use Rattle.cave_model.specs.Least.{IsLeast}
use Rattle.cave_model.specs.Plan.{AreDistinct}
use Rattle.cave_model.specs.Regions.{all_cells, AreRegions}
use Rattle.cave_model.specs.Spawn.{IsDark}
use Rattle.cave_model.specs.Torches.{IsPlace}
use Rattle.lit_lists.specs.Lists.{LitLists, AreListsOf, is_marked}
use Rattle.lit_lists.proofs.PairLemmas.{marked_inside}
use Rattle.proof_rules.specs.Certificate.{AreListed}
use Rattle.proof_check.specs.Accepted.{AreDistinctPlaces, LeaveNoneDark}
use Rattle.proof_check.specs.Ends.{home_of, is_somewhere, is_misplaced, IsNoneBelow, IsFirstBelow, HasTorch}
use Rattle.proof_check.specs.Ends.{IsMisplaced, IsUnlitBy}
use Rattle.proof_check.specs.Homes.{Homes, AreHomesOf, IsHomeOf}
use Rattle.proof_check.specs.Refused.{IsInTwo, IsListed, IsBadCell}
use Rattle.node_judges.specs.Tests.{lit_by}
use Rattle.proof_check.specs.declared.homes.Home.{Home}
use Rattle.proof_check.specs.declared.homes.Home.TheVariants as home
use Rattle.proof_check.proofs.RefusalLemmas.{listed, which_list}

-- a flag is true or not
decide : (b : Bool) → IsTrue b ⊎ (¬ IsTrue b)
decide true = inl refl
decide false = inr (λ t. true≢false (sym t))

-- ---- lists that share no cell

-- lists that are each distinct and share no cell are distinct together
pub lists_distinct : (lists : List (List ℕ)) → All AreDistinct lists → ((cell : ℕ) → ¬ IsInTwo lists cell)
    → AreDistinct (all_cells lists)
lists_distinct [] a n = distinct_nil
lists_distinct (r ∷ rs) a n = distinct_append r (all_cells rs) (All-head AreDistinct r rs a)
    (lists_distinct rs (All-tail AreDistinct r rs a)
    (λ cell t. n cell (suc t.0, suc t.1, (let lt = t.2 in omega arith), t.3, t.4)))
    (λ y h g. (let w = which_list rs y g in n y (0, suc w.0, omega arith, h, w.1)))

-- ascending cells are distinct
listed_distinct : (count : ℕ) (cells : List ℕ) → AreListed count cells → AreDistinct cells
listed_distinct count cells a = λ i j d lt h e.
    (let r = AllPairs-from_increasing cells a.ascending i j d lt h in omega arith)

-- so are those of each of some lists
all_distinct : (count : ℕ) (lists : List (List ℕ)) → All (AreListed count) lists → All AreDistinct lists
all_distinct count [] a = All-nil AreDistinct
all_distinct count (r ∷ rs) a = All-cons AreDistinct r rs (listed_distinct count r (All-head (AreListed count) r rs a))
    (all_distinct count rs (All-tail (AreListed count) r rs a))

-- a cell of one of the lists lies in the box
listed_below : (count : ℕ) (lists : List (List ℕ)) (i cell : ℕ) → All (AreListed count) lists
    → Contains (slice_index_or lists i []) cell → cell < count
listed_below count [] i cell a h = no_member cell h
listed_below count (r ∷ rs) zero cell a h = at_member (λ c. c < count) r cell
    (All-head (AreListed count) r rs a).below h
listed_below count (r ∷ rs) (suc i) cell a h = listed_below count rs i cell (All-tail (AreListed count) r rs a) h

-- the first of a kind is the least
pub least_of : (LineKind : ℕ → Type 0) (count cell : ℕ) → IsFirstBelow LineKind count cell → IsLeast LineKind cell
least_of LineKind count cell f = record {
  is = f.is;
  first = λ n k. elim (cases_lt n cell) [ inl lt ↦ absurd (f.before.each n lt k) | inr le ↦ le ];
}

-- one of the places has a torch, or none has
torch_or_none : (places : List ℕ) (homes : Homes) → HasTorch places homes ⊎ (¬ HasTorch places homes)
torch_or_none [] homes = inr (λ t. no_member t.0 t.1)
torch_or_none (p ∷ ps) homes = elim (decide (is_somewhere (home_of homes p))) [
  | inl t ↦ inl (p, here p ps, t)
  | inr n ↦ elim (torch_or_none ps homes) [
    | inl r ↦ inl (r.0, later p ps r.0 r.1, r.2)
    | inr m ↦ inr (λ t. elim (cons_cases p ps t.0 t.1) [
      | inl e ↦ n (subst (λ (x : ℕ). IsTrue (is_somewhere (home_of homes x))) (sym e) t.2)
      | inr c ↦ m (t.0, c, t.2)
    ])
  ]
]

module _ (cave : Cave) (lists : LitLists) (parts : List (List ℕ)) (homes : Homes) (known : AreListsOf cave lists)
    (are : AreHomesOf parts homes) (whole : length homes.homes ≡ cell_count cave.size)
    (in_box : All (AreListed (cell_count cave.size)) parts) where
  below : (cell : ℕ) → IsListed parts cell → cell < cell_count cave.size
  below cell l = listed_below (cell_count cave.size) parts l.0 cell in_box l.1

  place_below : (place : ℕ) → IsPlace cave place → place < cell_count cave.size
  place_below place p = marked_inside cave (IsPlace cave) lists.places place known.places p

  dark_below : (cell : ℕ) → IsDark cave cell → cell < cell_count cave.size
  dark_below cell d = marked_inside cave (IsDark cave) lists.dark cell known.dark d

  home_is : (cell : ℕ) → cell < cell_count cave.size → IsHomeOf parts cell (home_of homes cell)
  home_is cell lt = are.each cell (omega (arith, whole))

  -- ---- torches

  abbrev BadIn : ℕ → Type 0
  BadIn cell = IsListed parts cell × ((¬ IsPlace cave cell) ⊎ IsInTwo parts cell)

  misplaced : (cell : ℕ) (h : Home) (allowed : Bool) → IsHomeOf parts cell h → IsTrue allowed ↔ IsPlace cave cell
      → IsTrue (is_misplaced h allowed) ↔ BadIn cell
  misplaced cell home.Nowhere allowed is d = (λ t. absurd (true≢false (sym t)), λ b. absurd (is b.0))
  misplaced cell (home.Only i) true is d = (
    λ t. absurd (true≢false (sym t)),
    λ b. absurd (elim b.1 [
      | inl no_place ↦ no_place (d.0 refl)
      | inr two ↦ (let p = is.1 two.0 two.3 in let q = is.1 two.1 two.4 in let lt : two.0 < two.1 = two.2 in
          omega arith)
    ]),
  )
  misplaced cell (home.Only i) false is d = (λ t. ((i, is.0), inl (λ p. true≢false (sym (d.1 p)))), λ b. refl)
  misplaced cell home.Several allowed is d = (λ t. ((is.0, is.3), inr is), λ b. refl)

  misplaced_at : (cell : ℕ) → cell < cell_count cave.size → IsMisplaced lists.places homes cell ↔ BadIn cell
  misplaced_at cell lt = misplaced cell (home_of homes cell) (is_marked lists.places cell) (home_is cell lt)
      (known.places.exact cell)

  -- the first misplaced cell is the least bad torch
  pub least_bad : (count cell : ℕ) → count ≡ cell_count cave.size
      → IsFirstBelow (IsMisplaced lists.places homes) count cell
      → IsLeast (λ c. IsListed parts c × ((¬ IsPlace cave c) ⊎ IsInTwo parts c)) cell
  least_bad count cell e f = record {
    is = (let lt = f.inside in (misplaced_at cell (omega arith)).0 f.is);
    first = λ n b. elim (cases_lt n cell)
        [ inl lt ↦ absurd (f.before.each n lt ((misplaced_at n (below n b.0)).1 b)) | inr le ↦ le ];
  }

  none_bad : (count : ℕ) → count ≡ cell_count cave.size → IsNoneBelow (IsMisplaced lists.places homes) count
      → (cell : ℕ) → ¬ BadIn cell
  none_bad count e n cell b = (let lt = below cell b.0 in n.each cell (omega arith) ((misplaced_at cell lt).1 b))

  -- with none misplaced the torches are at distinct places
  pub places_of : (count : ℕ) → count ≡ cell_count cave.size → IsNoneBelow (IsMisplaced lists.places homes) count
      → AreDistinctPlaces cave (all_cells parts)
  places_of count e n = record {
    legal = all_members (IsPlace cave) (all_cells parts) (λ y h. elim (decide (is_marked lists.places y)) [
      | inl t ↦ (known.places.exact y).0 t
      | inr off ↦ absurd (none_bad count e n y (which_list parts y h, inl (λ p. off ((known.places.exact y).1 p))))
    ]);
    distinct = lists_distinct parts (all_distinct (cell_count cave.size) parts in_box)
        (λ cell two. none_bad count e n cell ((two.0, two.3), inr two));
  }

  -- ---- light

  somewhere : (cell : ℕ) (h : Home) → IsHomeOf parts cell h → IsTrue (is_somewhere h) ↔ IsListed parts cell
  somewhere cell home.Nowhere is = (λ t. absurd (true≢false (sym t)), λ l. absurd (is l))
  somewhere cell (home.Only i) is = (λ t. (i, is.0), λ l. refl)
  somewhere cell home.Several is = (λ t. (is.0, is.3), λ l. refl)

  has_torch : (cell : ℕ) → IsDark cave cell → AreDistinctPlaces cave (all_cells parts)
      → HasTorch (lit_by lists cell) homes ↔ IsLitBy (of_cave cave) (all_cells parts) cell
  has_torch cell dark p = (
    λ t. (let pair = (known.lit_by t.0 cell).0 t.1 in
        let w = (somewhere t.0 (home_of homes t.0) (home_is t.0 (place_below t.0 pair.legal))).0 t.2 in
        (t.0, listed parts w.0 t.0 w.1, pair.lights)),
    λ l. (let legal = at_member (IsPlace cave) (all_cells parts) l.0 p.legal l.1 in (
      l.0,
      (known.lit_by l.0 cell).1 (record { legal = legal; dark = dark; lights = l.2 }),
      (somewhere l.0 (home_of homes l.0) (home_is l.0 (place_below l.0 legal))).1 (which_list parts l.0 l.1),
    )),
  )

  -- the first cell that is unlit by the lists is the least left dark
  pub least_left : (count cell : ℕ) → count ≡ cell_count cave.size → AreDistinctPlaces cave (all_cells parts)
      → IsFirstBelow (IsUnlitBy lists homes) count cell
      → IsLeast (λ c. IsDark cave c × (¬ IsLitBy (of_cave cave) (all_cells parts) c)) cell
  least_left count cell e p f = record {
    is = (let dark = (known.dark.exact cell).0 f.is.dark in (dark, λ l. f.is.unlit ((has_torch cell dark p).1 l)));
    first = λ n b. elim (cases_lt n cell) [
      | inl lt ↦ absurd (f.before.each n lt
          (record { dark = (known.dark.exact n).1 b.0; unlit = λ t. b.1 ((has_torch n b.0 p).0 t) }))
      | inr le ↦ le
    ];
  }

  -- with none unlit no cell is left dark
  pub none_left : (count : ℕ) → count ≡ cell_count cave.size → AreDistinctPlaces cave (all_cells parts)
      → IsNoneBelow (IsUnlitBy lists homes) count → LeaveNoneDark cave (all_cells parts)
  none_left count e p n = λ cell dark. elim (torch_or_none (lit_by lists cell) homes) [
    | inl t ↦ (has_torch cell dark p).0 t
    | inr out ↦ absurd (let lt = dark_below cell dark in
        n.each cell (omega arith) (record { dark = (known.dark.exact cell).1 dark; unlit = out }))
  ]

  -- ---- regions

  -- with no bad cell the lists are regions
  pub regions_of_none : All (λ cells. 0 < length cells) parts
      → IsNoneBelow (IsBadCell cave parts) (cell_count cave.size) → AreRegions cave parts
  regions_of_none filled n = record {
    filled = filled;
    once = lists_distinct parts (all_distinct (cell_count cave.size) parts in_box) (λ cell two. not_two cell two);
    exact = λ cell. (λ h. is_dark cell (which_list parts cell h), λ dark. is_listed cell dark);
    apart = λ place a b i j legal ca cb ia jb. elim (cases_lt i j) [
      | inl lt ↦ absurd (n.each place (place_below place legal) (inr (inr (legal, i, j, a, b, lt, ia, jb, ca, cb))))
      | inr le ↦ elim (cases_lt j i) [
        | inl lt ↦ absurd (n.each place (place_below place legal) (inr (inr (legal, j, i, b, a, lt, jb, ia, cb, ca))))
        | inr ge ↦ omega arith
      ]
    ];
  } where
    is_dark : (cell : ℕ) → IsListed parts cell → IsDark cave cell
    is_dark cell l = elim (decide (is_marked lists.dark cell)) [
      | inl t ↦ (known.dark.exact cell).0 t
      | inr off ↦ absurd (n.each cell (below cell l) (inr (inl (l, λ d. off ((known.dark.exact cell).1 d)))))
    ]

    not_two : (cell : ℕ) → ¬ IsInTwo parts cell
    not_two cell two = (let l : IsListed parts cell = (two.0, two.3) in n.each cell (below cell l)
        (inl (is_dark cell l, inr two)))

    is_listed : (cell : ℕ) → IsDark cave cell → Contains (all_cells parts) cell
    is_listed cell dark = elim (decide (is_somewhere (home_of homes cell))) [
      | inl t ↦ (let l = (somewhere cell (home_of homes cell) (home_is cell (dark_below cell dark))).0 t in
          listed parts l.0 cell l.1)
      | inr out ↦ absurd (n.each cell (dark_below cell dark)
          (inl (
            dark,
            inl (λ l. out
                ((somewhere cell (home_of homes cell) (home_is cell (dark_below cell dark))).1 l)),
          )))
    ]
