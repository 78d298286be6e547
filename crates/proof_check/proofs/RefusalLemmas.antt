-- What is refused is not accepted.
use Rattle.std.proofs.Common.{◌≡◌, ◌≢◌, ℕ, suc, zero, ◌+◌, ◌<◌, ◌≤◌, Bool, true, false, nat_lt, if◌then◌else◌, Option}
use Rattle.std.proofs.Common.{Some, None, List, [], ◌∷◌, ◌++◌, length, Contains, refl, sym, ap, subst, ◌∙◌, arith}
use Rattle.std.proofs.Common.{◌⊎◌, inl, inr, length-append, ltb-true}
use Rattle.std.specs.Option.{option_or}
use Rattle.std.proofs.lemmas.Bool.Decides.{nat_tests}
use Rattle.std.specs.List.{AllPairs}
use Rattle.std.proofs.lemmas.List.Kept.{AllPairs-from_increasing}
use Rattle.proof_rules.proofs.ListLemmas.{no_member, cons_cases, later, here, at_member}
use Rattle.std.proofs.lemmas.List.Elements.{All-head, All-tail, All-cons}
use Rattle.cave_model.specs.Cave.{Cave}
use Rattle.proof_rules.specs.Tree.{Tree, Forest, leaf, weighted, branch, bar, omit, pick, none, more, tree_count}
use Rattle.proof_rules.specs.Tree.{node_count}
use Rattle.proof_rules.specs.Groups.{places_for_all}
use Rattle.proof_rules.specs.Omitted.{left_without}
use Rattle.cave_model.specs.Coverage.{of_cave}
use Rattle.proof_rules.specs.Good.{Good, AreGood, AreOpen}
use Rattle.proof_rules.specs.Certificate.{Section, Certificate, regions_of, torch_lists, torches_of}
use Rattle.proof_rules.proofs.ListLemmas.{distinct_tail, distinct_head}
use Rattle.std.specs.Prelude.{slice_index_or}
use Rattle.std.proofs.lemmas.List.Elements.{Contains-append_left, Contains-append_right, Contains-append_cases}
use Rattle.cave_model.specs.Torches.{IsPlace}
use Rattle.cave_model.specs.Plan.{AreDistinct}
use Rattle.cave_model.specs.Regions.{all_cells, AreRegions}
use Rattle.proof_check.specs.declared.reason.Reason.{Reason}
use Rattle.proof_check.specs.declared.reason.Reason.TheVariants.{Syntax, WrongBox, IllegalPlace, LeftDark, BadRegions}
use Rattle.proof_check.specs.declared.reason.Reason.TheVariants.{BadNode, TooWeak}
use Rattle.proof_check.specs.Accepted.{Proves, AreDistinctPlaces, LeaveNoneDark}
use Rattle.proof_check.specs.Refused.{IsListed, IsBadTorch, IsLeftDark, IsBadCell, start_line, IsReasonOf}
use Rattle.proof_check.specs.Accepted.{AreProved}
use Rattle.proof_check.specs.Refused.{weak_leaf, weak_leaf_of, first_weak, IsBadAt, AreBadAt, IsFirstBad}

-- where neither option is there, both are none
neither : (a b : Option ℕ) → option_or a b ≡ None → (a ≡ None) × (b ≡ None)
neither None b e = (refl, e)
neither (Some n) b e = absurd (cc)

-- an option of a test that is none shows that the test failed
if_none : (b : Bool) (n : ℕ) → (if b then Some n else None) ≡ None → b ≡ false
if_none true n e = absurd (cc)
if_none false n e = refl

-- what isn't less is at least as much
not_below : (a b : ℕ) → nat_lt a b ≡ false → b ≤ a
not_below a b e = grind (arith, nat_tests)

-- with a place more, one more is chosen
one_more : (chosen : List ℕ) (place count : ℕ) → length chosen ≡ count → length (chosen ++ place ∷ []) ≡ count + 1
one_more chosen place count n = length-append chosen (place ∷ []) ∙ ap (λ (m : ℕ). m + 1) n

-- where no leaf is too weak, the tree proves the floor
mutual
  -- a sound tree with no weak leaf proves the floor
  pub strong : (cave : Cave) (cells chosen barred : List ℕ) (floor count line : ℕ) (tree : Tree) → length chosen ≡ count
      → Good (of_cave cave) cells chosen barred 0 tree → weak_leaf floor count tree line ≡ None
      → Good (of_cave cave) cells chosen barred floor tree
  strong cave cells chosen barred floor count line (leaf these) n g e = (
    g.0,
    subst (λ (k : ℕ). floor ≤ k + length these) (sym n)
        (not_below (count + length these) floor (if_none (nat_lt (count + length these) floor) line e)),
  )
  strong cave cells chosen barred floor count line (branch cell kids) n g e =
      (g.0, g.1, g.2, strong_all cave cells chosen barred floor count (line + 1) g.1 kids n g.3 e)
  strong cave cells chosen barred floor count line (bar place by kid) n g e =
      (g.0, strong cave cells chosen (barred ++ place ∷ []) floor count (line + 1) kid n g.1 e)
  strong cave cells chosen barred floor count line (weighted groups) n g e = (
    g.0,
    subst (λ (k : ℕ). floor ≤ k + places_for_all groups) (sym n)
        (not_below (count + places_for_all groups) floor
        (if_none (nat_lt (count + places_for_all groups) floor) line e)),
  )
  strong cave cells chosen barred floor count line (omit these kid) n g e =
      (g.0, strong cave (left_without these cells) chosen barred floor count (line + 1) kid n g.1 e)
  strong cave cells chosen barred floor count line (pick place with without) n g e =
      let both = neither (weak_leaf floor (count + 1) with (line + 1))
      (weak_leaf floor count without (line + 1 + node_count with)) e in (
        g.0,
        strong cave cells (chosen ++ place ∷ []) barred floor (count + 1) (line + 1) with
            (one_more chosen place count n) g.1 both.0,
        strong cave cells chosen (barred ++ place ∷ []) floor count (line + 1 + node_count with) without n g.2 both.1,
      )

  strong_all : (cave : Cave) (cells chosen barred : List ℕ) (floor count line : ℕ) (places : List ℕ) (trees : Forest)
      → length chosen ≡ count → AreGood (of_cave cave) cells chosen barred 0 places trees
      → weak_leaf_of floor (count + 1) trees line ≡ None → AreGood (of_cave cave) cells chosen barred floor places trees
  strong_all cave cells chosen barred floor count line [] none n g e = tt
  strong_all cave cells chosen barred floor count line [] (more k ks) n g e = absurd g
  strong_all cave cells chosen barred floor count line (p ∷ ps) none n g e = absurd g
  strong_all cave cells chosen barred floor count line (p ∷ ps) (more k ks) n g e =
      let both = neither (weak_leaf floor (count + 1) k line)
      (weak_leaf_of floor (count + 1) ks (line + node_count k)) e in (
        strong cave cells (chosen ++ p ∷ []) barred floor (count + 1) line k (one_more chosen p count n) g.0 both.0,
        strong_all cave cells chosen (barred ++ p ∷ []) floor count (line + node_count k) ps ks n g.1 both.1,
      )

-- sound trees with no weak leaf prove as many torches as each region has
pub all_strong : (cave : Cave) (sections : List Section) (line : ℕ) → AreProved cave (λ section. 0) sections
    → first_weak sections line ≡ None → AreProved cave (λ section. length section.torches) sections
all_strong cave [] line g e = λ k d lt. absurd (omega arith)
all_strong cave (s ∷ ss) line g e =
    let both = neither (weak_leaf (length s.torches) 0 s.tree (line + 3))
    (first_weak ss (line + 3 + node_count s.tree)) e in
    All-cons (λ (s : Section). Good (of_cave cave) s.cells [] [] (length s.torches) s.tree) s ss
    (strong cave s.cells [] [] (length s.torches) 0 (line + 3) s.tree refl
    (All-head (λ (s : Section). Good (of_cave cave) s.cells [] [] 0 s.tree) s ss g) both.0)
    (all_strong cave ss (line + 3 + node_count s.tree)
    (All-tail (λ (s : Section). Good (of_cave cave) s.cells [] [] 0 s.tree) s ss g) both.1)

-- a good branch has a tree for each of its places
length-good : (cave : Cave) (cells chosen barred : List ℕ) (floor : ℕ) (places : List ℕ) (trees : Forest)
    → AreGood (of_cave cave) cells chosen barred floor places trees → length places ≡ tree_count trees
length-good cave cells chosen barred floor [] none g = refl
length-good cave cells chosen barred floor [] (more k ks) g = absurd g
length-good cave cells chosen barred floor (p ∷ ps) none g = absurd g
length-good cave cells chosen barred floor (p ∷ ps) (more k ks) g =
    omega (arith, length-good cave cells chosen (barred ++ p ∷ []) floor ps ks g.1)

-- ---- ascending lists are told by their members

-- the first of an ascending list is below all others
above_head : (x : ℕ) (xs : List ℕ) → AllPairs (λ a b. a < b) (x ∷ xs) → (z : ℕ) → Contains xs z → x < z
above_head x xs up z c = subst (λ (n : ℕ). x < n) c.2 (up 0 (suc c.0) z (omega arith) (omega (arith, c.1)))

-- the rest of an ascending list ascends
rising_tail : (x : ℕ) (xs : List ℕ) → AllPairs (λ a b. a < b) (x ∷ xs) → AllPairs (λ a b. a < b) xs
rising_tail x xs up = λ i j d lt h. up (suc i) (suc j) d (omega arith) (omega arith)

-- ascending lists with the same members are equal
pub same_rising : (xs ys : List ℕ) → AllPairs (λ a b. a < b) xs → AllPairs (λ a b. a < b) ys
    → ((z : ℕ) → Contains xs z → Contains ys z) → ((z : ℕ) → Contains ys z → Contains xs z) → xs ≡ ys
same_rising [] [] up vp f g = refl
same_rising [] (y ∷ ys) up vp f g = no_member y (g y (here y ys))
same_rising (x ∷ xs) [] up vp f g = no_member x (f x (here x xs))
same_rising (x ∷ xs) (y ∷ ys) up vp f g =
    let e : x ≡ y = same_head (cons_cases y ys x (f x (here x xs))) (cons_cases x xs y (g y (here y ys))) in
    let rest : xs ≡ ys = same_rising xs ys (rising_tail x xs up) (rising_tail y ys vp)
    (λ z c. keep y ys z (λ d. let lt : x < z = above_head x xs up z c in omega arith) (f z (later x xs z c)))
    (λ z c. keep x xs z (λ d. let lt : y < z = above_head y ys vp z c in omega arith) (g z (later y ys z c))) in
    cc
  where
    same_head : (y ≡ x) ⊎ Contains ys x → (x ≡ y) ⊎ Contains xs y → x ≡ y
    same_head (inl e) h = sym e
    same_head (inr c) (inl e) = e
    same_head (inr c) (inr d) = absurd (let a : x < y = above_head x xs up y d in
        let b : y < x = above_head y ys vp x c in omega arith)

    keep : (w : ℕ) (ws : List ℕ) (z : ℕ) → (w ≢ z) → Contains (w ∷ ws) z → Contains ws z
    keep w ws z ne c = elim (cons_cases w ws z c) [
      | inl e ↦ absurd (ne e)
      | inr c ↦ c
    ]

-- the open places of a cell are one list
pub open_once : (cave : Cave) (barred : List ℕ) (cell : ℕ) (some others : List ℕ)
    → AreOpen (of_cave cave) barred cell some → AreOpen (of_cave cave) barred cell others → some ≡ others
open_once cave barred cell some others a b = same_rising some others (AllPairs-from_increasing some a.ascending)
    (AllPairs-from_increasing others b.ascending)
    (λ z c. (b.exact z).1 ((a.exact z).0 c)) (λ z c. (a.exact z).1 ((b.exact z).0 c))

-- ---- a tree with a bad node proves nothing

mutual
  -- a tree with a bad node proves no floor
  pub bad_proves_none : (cave : Cave) (cells chosen barred : List ℕ) (tree : Tree) (line bad floor : ℕ)
      → IsBadAt cave cells chosen barred tree line bad → ¬ Good (of_cave cave) cells chosen barred floor tree
  bad_proves_none cave cells chosen barred (leaf these) line bad floor b g = b.0 g.0
  bad_proves_none cave cells chosen barred (branch cell kids) line bad floor (inl b) g =
      b.0 g.1 (g.0, g.2, length-good cave cells chosen barred floor g.1 kids g.3)
  bad_proves_none cave cells chosen barred (branch cell kids) line bad floor (inr b) g =
      bad_kid cave cells chosen barred g.1 kids (line + 1) bad floor
      (subst (λ (ps : List ℕ). AreBadAt cave cells chosen barred ps kids (line + 1) bad)
      (open_once cave barred cell b.0 g.1 b.1.1 g.2) b.2) g.3
  bad_proves_none cave cells chosen barred (bar place by kid) line bad floor (inl b) g = b.0 g.0
  bad_proves_none cave cells chosen barred (bar place by kid) line bad floor (inr b) g =
      bad_proves_none cave cells chosen (barred ++ place ∷ []) kid (line + 1) bad floor b.1 g.1
  bad_proves_none cave cells chosen barred (weighted groups) line bad floor b g = b.0 g.0
  bad_proves_none cave cells chosen barred (omit these kid) line bad floor (inl b) g = b.0 g.0
  bad_proves_none cave cells chosen barred (omit these kid) line bad floor (inr b) g =
      bad_proves_none cave (left_without these cells) chosen barred kid (line + 1) bad floor b.1 g.1
  bad_proves_none cave cells chosen barred (pick place with without) line bad floor (inl b) g = b.0 g.0
  bad_proves_none cave cells chosen barred (pick place with without) line bad floor (inr (may, inl b)) g =
      bad_proves_none cave cells (chosen ++ place ∷ []) barred with (line + 1) bad floor b g.1
  bad_proves_none cave cells chosen barred (pick place with without) line bad floor (inr (may, inr b)) g =
      bad_proves_none cave cells chosen (barred ++ place ∷ []) without (line + 1 + node_count with) bad floor b.1 g.2

  bad_kid : (cave : Cave) (cells chosen barred places : List ℕ) (trees : Forest) (line bad floor : ℕ)
      → AreBadAt cave cells chosen barred places trees line bad
      → ¬ AreGood (of_cave cave) cells chosen barred floor places trees
  bad_kid cave cells chosen barred [] trees line bad floor b g = b
  bad_kid cave cells chosen barred (p ∷ ps) none line bad floor b g = b
  bad_kid cave cells chosen barred (p ∷ ps) (more k ks) line bad floor (inl b) g = bad_proves_none cave cells
      (chosen ++ p ∷ []) barred k line bad floor b g.0
  bad_kid cave cells chosen barred (p ∷ ps) (more k ks) line bad floor (inr b) g = bad_kid cave cells chosen
      (barred ++ p ∷ []) ps ks (line + node_count k) bad floor b.1 g.1

-- ---- lists that hold a cell twice

-- a cell of the front of a distinct list isn't in its rest
distinct_split : (xs ys : List ℕ) (cell : ℕ) → AreDistinct (xs ++ ys) → Contains xs cell → ¬ Contains ys cell
distinct_split [] ys cell d h c = no_member cell h
distinct_split (x ∷ xs) ys cell d h c = elim (cons_cases x xs cell h) [
  | inl e ↦ distinct_head x (xs ++ ys) d (Contains-append_right xs ys x (subst (Contains ys) (sym e) c))
  | inr h ↦ distinct_split xs ys cell (distinct_tail x (xs ++ ys) d) h c
]

-- the rest of a distinct list is distinct
distinct_rest : (xs ys : List ℕ) → AreDistinct (xs ++ ys) → AreDistinct ys
distinct_rest [] ys d = d
distinct_rest (x ∷ xs) ys d = distinct_rest xs ys (distinct_tail x (xs ++ ys) d)

-- a cell of one list is a cell of all
pub listed : (lists : List (List ℕ)) (i cell : ℕ) → Contains (slice_index_or lists i []) cell
    → Contains (all_cells lists) cell
listed [] i cell h = no_member cell h
listed (r ∷ rs) zero cell h = Contains-append_left r (all_cells rs) cell h
listed (r ∷ rs) (suc i) cell h = Contains-append_right r (all_cells rs) cell (listed rs i cell h)

-- lists that hold a cell twice aren't distinct together
pub twice : (lists : List (List ℕ)) (i j cell : ℕ) → i < j → Contains (slice_index_or lists i []) cell
    → Contains (slice_index_or lists j []) cell → ¬ AreDistinct (all_cells lists)
twice [] i j cell lt h g d = no_member cell h
twice (r ∷ rs) i zero cell lt h g d = absurd (omega arith)
twice (r ∷ rs) zero (suc j) cell lt h g d = distinct_split r (all_cells rs) cell d h (listed rs j cell g)
twice (r ∷ rs) (suc i) (suc j) cell lt h g d = twice rs i j cell (omega arith) h g (distinct_rest r (all_cells rs) d)

-- a cell of all lists is listed in one
pub which_list : (lists : List (List ℕ)) (cell : ℕ) → Contains (all_cells lists) cell → IsListed lists cell
which_list [] cell h = no_member cell h
which_list (r ∷ rs) cell h = elim (Contains-append_cases r (all_cells rs) cell h) [
  | inl h ↦ (0, h)
  | inr h ↦ (let w = which_list rs cell h in (suc w.0, w.1))
]

-- ---- a reason shows that the certificate proves nothing

-- trees with a first bad line prove no floor
pub first_bad : (cave : Cave) (floor : Section → ℕ) (sections : List Section) (line bad : ℕ)
    → IsFirstBad cave sections line bad → ¬ AreProved cave floor sections
first_bad cave floor [] line bad b g = b
first_bad cave floor (s ∷ ss) line bad (inl b) g = bad_proves_none cave s.cells [] [] s.tree (line + 3) bad (floor s) b
    (All-head (λ (s : Section). Good (of_cave cave) s.cells [] [] (floor s) s.tree) s ss g)
first_bad cave floor (s ∷ ss) line bad (inr b) g = first_bad cave floor ss
    (line + 3 + node_count s.tree) bad
    b.1 (All-tail (λ (s : Section). Good (of_cave cave) s.cells [] [] (floor s) s.tree) s ss g)

-- the first that is there is one of the two
option_or_some : (a b : Option ℕ) (n : ℕ) → option_or a b ≡ Some n → (a ≡ Some n) ⊎ (b ≡ Some n)
option_or_some None b n e = inr e
option_or_some (Some m) b n e = inl e

-- an option of a test that is there shows that the test held
if_some : (b : Bool) (n m : ℕ) → (if b then Some n else None) ≡ Some m → b ≡ true
if_some true n m e = refl
if_some false n m e = absurd (cc)

mutual
  weak_fails : (cave : Cave) (cells chosen barred : List ℕ) (floor count line weak : ℕ) (tree : Tree)
      → length chosen ≡ count → weak_leaf floor count tree line ≡ Some weak
      → ¬ Good (of_cave cave) cells chosen barred floor tree
  weak_fails cave cells chosen barred floor count line weak (leaf these) n e g =
      let lt : count + length these < floor = ltb-true (count + length these) floor
      (if_some (nat_lt (count + length these) floor) line weak e) in
      let le : floor ≤ length chosen + length these = g.1 in
      absurd (omega arith)
  weak_fails cave cells chosen barred floor count line weak (branch cell kids) n e g =
      weak_kid cave cells chosen barred floor count (line + 1) weak g.1 kids n e g.3
  weak_fails cave cells chosen barred floor count line weak (bar place by kid) n e g = weak_fails cave cells chosen
      (barred ++ place ∷ []) floor count (line + 1) weak kid n e g.1
  weak_fails cave cells chosen barred floor count line weak (weighted groups) n e g =
      let lt : count + places_for_all groups < floor = ltb-true (count + places_for_all groups) floor
      (if_some (nat_lt (count + places_for_all groups) floor) line weak e) in
      let le : floor ≤ length chosen + places_for_all groups = g.1 in
      absurd (omega arith)
  weak_fails cave cells chosen barred floor count line weak (omit these kid) n e g = weak_fails cave
      (left_without these cells) chosen barred floor count (line + 1) weak kid n e g.1
  weak_fails cave cells chosen barred floor count line weak (pick place with without) n e g =
      elim (option_or_some (weak_leaf floor (count + 1) with (line + 1))
      (weak_leaf floor count without (line + 1 + node_count with)) weak e) [
        | inl e ↦ weak_fails cave cells (chosen ++ place ∷ []) barred floor (count + 1) (line + 1) weak with
            (one_more chosen place count n) e g.1
        | inr e ↦ weak_fails cave cells chosen (barred ++ place ∷ []) floor count (line + 1 + node_count with) weak
            without n e g.2
      ]

  weak_kid : (cave : Cave) (cells chosen barred : List ℕ) (floor count line weak : ℕ) (places : List ℕ) (trees : Forest)
      → length chosen ≡ count → weak_leaf_of floor (count + 1) trees line ≡ Some weak
      → ¬ AreGood (of_cave cave) cells chosen barred floor places trees
  weak_kid cave cells chosen barred floor count line weak places none n e g = absurd (cc)
  weak_kid cave cells chosen barred floor count line weak [] (more k ks) n e g = g
  weak_kid cave cells chosen barred floor count line weak (p ∷ ps) (more k ks) n e g =
      elim (option_or_some (weak_leaf floor (count + 1) k line)
      (weak_leaf_of floor (count + 1) ks (line + node_count k)) weak e) [
        | inl e ↦ weak_fails cave cells (chosen ++ p ∷ []) barred floor (count + 1) line weak k
            (one_more chosen p count n) e g.0
        | inr e ↦ weak_kid cave cells chosen (barred ++ p ∷ []) floor count (line + node_count k) weak ps ks n e g.1
      ]

-- trees with a weak leaf don't prove as many torches as each region has
first_weak_fails : (cave : Cave) (sections : List Section) (line weak : ℕ) → first_weak sections line ≡ Some weak
    → ¬ AreProved cave (λ section. length section.torches) sections
first_weak_fails cave [] line weak e g = absurd (cc)
first_weak_fails cave (s ∷ ss) line weak e g =
    elim (option_or_some (weak_leaf (length s.torches) 0 s.tree (line + 3))
    (first_weak ss (line + 3 + node_count s.tree)) weak e) [
      | inl e ↦ weak_fails cave s.cells [] [] (length s.torches) 0 (line + 3) weak s.tree refl e
          (All-head (λ (s : Section). Good (of_cave cave) s.cells [] [] (length s.torches) s.tree) s ss g)
      | inr e ↦ first_weak_fails cave ss (line + 3 + node_count s.tree) weak e
          (All-tail (λ (s : Section). Good (of_cave cave) s.cells [] [] (length s.torches) s.tree) s ss g)
    ]

-- lists with a bad cell are no regions
pub bad_cell : (cave : Cave) (regions : List (List ℕ)) (cell : ℕ) → IsBadCell cave regions cell
    → ¬ AreRegions cave regions
bad_cell cave regions cell (inl b) r = elim b.1 [
  | inl out ↦ out (which_list regions cell ((r.exact cell).1 b.0))
  | inr two ↦ twice regions two.0 two.1 cell two.2 two.3 two.4 r.once
]
bad_cell cave regions cell (inr (inl b)) r = b.1 ((r.exact cell).0 (listed regions b.0.0 cell b.0.1))
bad_cell cave regions cell (inr (inr b)) r = let same : b.1 ≡ b.2 = r.apart cell b.3 b.4 b.1 b.2 b.0 b.8 b.9 b.6 b.7 in
    let lt : b.1 < b.2 = b.5 in omega arith

-- torches with a bad one are at no distinct places
pub bad_torch : (cave : Cave) (certificate : Certificate) (cell : ℕ) → IsBadTorch cave certificate cell
    → ¬ AreDistinctPlaces cave (torches_of certificate.sections)
bad_torch cave certificate cell b p = elim b.1 [
  | inl no_place ↦ no_place (at_member (IsPlace cave)
      (torches_of certificate.sections) cell p.legal (listed (torch_lists certificate.sections) b.0.0 cell b.0.1))
  | inr two ↦ twice (torch_lists certificate.sections) two.0 two.1 cell two.2 two.3 two.4 p.distinct
]

-- with a cell left dark, some dark cell is unlit
pub left_dark : (cave : Cave) (certificate : Certificate) (cell : ℕ) → IsLeftDark cave certificate cell
    → ¬ LeaveNoneDark cave (torches_of certificate.sections)
left_dark cave certificate cell b lit = b.1 (lit cell b.0)

-- a certificate with a reason against it proves nothing
pub reason_refutes : (cave : Cave) (certificate : Certificate) (reason : Reason) → IsReasonOf cave certificate reason
    → ¬ Proves cave certificate
reason_refutes cave certificate (Syntax line) r p = r
reason_refutes cave certificate WrongBox r p = r p.of_cave
reason_refutes cave certificate (IllegalPlace cell) r p = bad_torch cave certificate cell r.1.is p.places
reason_refutes cave certificate (LeftDark cell) r p = left_dark cave certificate cell r.1.is p.lit
reason_refutes cave certificate (BadRegions cell) r p = bad_cell cave (regions_of certificate) cell r.1.is p.regions
reason_refutes cave certificate (BadNode line) r p = first_bad cave
    (λ section. length section.torches) certificate.sections (start_line certificate.version) line r.1 p.trees
reason_refutes cave certificate (TooWeak line) r p =
    first_weak_fails cave certificate.sections (start_line certificate.version) line r.1 p.trees
