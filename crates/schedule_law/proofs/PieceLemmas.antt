-- Pieces are told apart by their lists. What weighs as much is there as often.
use Rattle.std.proofs.Common.{◌≡◌, ◌⊎◌, inl, inr, ℕ, ◌+◌, ◌≤◌, Bool, true, false, true≢false, ◌&&◌, eqb}
use Rattle.std.proofs.Common.{if◌then◌else◌, List, [], ◌∷◌, ◌++◌, refl, sym, ap, arith}
use Rattle.std.proofs.lemmas.Bool.Decides.{nat_tests}
use Rattle.set_cover.specs.Instance.{Instance}
use Rattle.proof_tree.specs.Piece.{Subproblem}
use Rattle.proof_tree.specs.Weights.{weigh}
use Rattle.schedule_law.specs.Names.{is_same_name, count_named}

-- a flag is set or unset
pub either_way : (b : Bool) → (b ≡ true) ⊎ (b ≡ false)
either_way true = inl refl
either_way false = inr refl

-- where both are set the first is
and_left : (a b : Bool) → (a && b) ≡ true → a ≡ true
and_left true b e = refl
and_left false b e = e

-- and the second
and_right : (a b : Bool) → (a && b) ≡ true → b ≡ true
and_right true b e = e
and_right false b e = absurd (true≢false (sym e))

-- where each is set both are
both_true : (a b : Bool) → a ≡ true → b ≡ true → (a && b) ≡ true
both_true a b p q = cc

-- a test finds a number the same as itself
eqb_same : (n : ℕ) → eqb n n ≡ true
eqb_same n = grind (arith, nat_tests)

-- numbers that a test finds the same are equal
pub eqb_true : (n m : ℕ) → eqb n m ≡ true → n ≡ m
eqb_true n m e = grind (arith, nat_tests)

-- equal numbers are found the same
pub eqb_is : (n m : ℕ) → n ≡ m → eqb n m ≡ true
eqb_is n m e = grind (arith, nat_tests)

-- ---- names

-- a name is the same as itself
pub same_self : (x : List ℕ) → is_same_name x x ≡ true
same_self [] = refl
same_self (x ∷ xs) = both_true (eqb x x) (is_same_name xs xs) (eqb_same x) (same_self xs)

-- names that are found the same are equal
pub same_true : (x y : List ℕ) → is_same_name x y ≡ true → x ≡ y
same_true [] [] e = refl
same_true [] (y ∷ ys) e = absurd (true≢false (sym e))
same_true (x ∷ xs) [] e = absurd (true≢false (sym e))
same_true (x ∷ xs) (y ∷ ys) e =
    let a : x ≡ y = eqb_true x y (and_left (eqb x y) (is_same_name xs ys) e) in
    let b : xs ≡ ys = same_true xs ys (and_right (eqb x y) (is_same_name xs ys) e) in
    cc

abbrev pub bit : Bool → ℕ
bit b = if b then 1 else 0

-- 1 where the piece has this name
abbrev pub named : List ℕ → Subproblem → ℕ
named x p = bit (is_same_name x p.name)

-- a piece has its own name
pub one_named : (p : Subproblem) → named p.name p ≡ 1
one_named p = ap bit (same_self p.name)

-- ---- pieces

abbrev is_same_region : Instance → Instance → Bool
is_same_region a b = is_same_name a.cells b.cells
    && (is_same_name a.places b.places && (eqb a.width b.width && is_same_name a.words b.words))

abbrev is_same_piece : Subproblem → Subproblem → Bool
is_same_piece p q = is_same_region p.region q.region
    && (is_same_name p.name q.name && (is_same_name p.chosen q.chosen && is_same_name p.barred q.barred))

-- a region is the same as itself
region_self : (a : Instance) → is_same_region a a ≡ true
region_self a = both_true _ _ (same_self a.cells) (both_true _ _ (same_self a.places)
    (both_true _ _ (eqb_same a.width) (same_self a.words)))

-- regions that are found the same are equal
region_true : (a b : Instance) → is_same_region a b ≡ true → a ≡ b
region_true a b e =
    let c = same_true a.cells b.cells (and_left _ _ e) in
    let e1 = and_right (is_same_name a.cells b.cells) _ e in
    let p = same_true a.places b.places (and_left _ _ e1) in
    let e2 = and_right (is_same_name a.places b.places) _ e1 in
    let w = eqb_true a.width b.width (and_left _ _ e2) in
    let v = same_true a.words b.words (and_right (eqb a.width b.width) _ e2) in
    λ i. record { cells = c i; places = p i; width = w i; words = v i }

-- a piece is the same as itself
piece_self : (p : Subproblem) → is_same_piece p p ≡ true
piece_self p = both_true _ _ (region_self p.region) (both_true _ _ (same_self p.name)
    (both_true _ _ (same_self p.chosen) (same_self p.barred)))

-- pieces that are found the same are equal
piece_true : (p q : Subproblem) → is_same_piece p q ≡ true → p ≡ q
piece_true p q e =
    let r = region_true p.region q.region (and_left _ _ e) in
    let e1 = and_right (is_same_region p.region q.region) _ e in
    let n = same_true p.name q.name (and_left _ _ e1) in
    let e2 = and_right (is_same_name p.name q.name) _ e1 in
    let c = same_true p.chosen q.chosen (and_left _ _ e2) in
    let b = same_true p.barred q.barred (and_right (is_same_name p.chosen q.chosen) _ e2) in
    λ i. record { region = r i; name = n i; chosen = c i; barred = b i }

abbrev is_piece : Subproblem → Subproblem → ℕ
is_piece p q = bit (is_same_piece p q)

-- ---- lists of pieces

abbrev pub IsAmong : Subproblem → List Subproblem → Type 0
IsAmong p [] = ⊥
IsAmong p (q ∷ qs) = (p ≡ q) ⊎ IsAmong p qs

-- two lists of pieces weigh together what both weigh
pub weigh-append : (h : Subproblem → ℕ) (xs ys : List Subproblem) → weigh h (xs ++ ys) ≡ weigh h xs + weigh h ys
weigh-append h [] ys = omega arith
weigh-append h (x ∷ xs) ys = omega (arith, weigh-append h xs ys)

-- a piece among others weighs at most what all weigh
pub weigh_among : (h : Subproblem → ℕ) (p : Subproblem) (xs : List Subproblem) → IsAmong p xs → h p ≤ weigh h xs
weigh_among h p [] at = absurd at
weigh_among h p (x ∷ xs) (inl e) = (let a = ap h e in omega arith)
weigh_among h p (x ∷ xs) (inr r) = (let a = weigh_among h p xs r in omega arith)

-- a piece among those of its name
pub named_among : (p : Subproblem) (xs : List Subproblem) → IsAmong p xs → 1 ≤ weigh (named p.name) xs
named_among p xs at = (let a = weigh_among (named p.name) p xs at in let b = one_named p in omega arith)

-- a piece whose like weighs at least one is among them
among_heavy : (p : Subproblem) (xs : List Subproblem) → 1 ≤ weigh (is_piece p) xs → IsAmong p xs
among_heavy p [] le = absurd (omega arith)
among_heavy p (x ∷ xs) le = elim (either_way (is_same_piece p x)) [
  | inl e ↦ inl (piece_true p x e)
  | inr e ↦ inr (among_heavy p xs (let a : is_piece p x ≡ 0 = ap bit e in omega arith))
]

-- a piece among some is among others that weigh no less
pub among_others : (p : Subproblem) (xs ys : List Subproblem)
    → ((h : Subproblem → ℕ) → weigh h xs ≤ weigh h ys) → IsAmong p xs → IsAmong p ys
among_others p xs ys le at =
    let a = weigh_among (is_piece p) p xs at in
    let b : is_piece p p ≡ 1 = ap bit (piece_self p) in
    let c = le (is_piece p) in
    among_heavy p ys (omega arith)

-- a piece of the first list is among both
pub among_left : (p : Subproblem) (xs ys : List Subproblem) → IsAmong p xs → IsAmong p (xs ++ ys)
among_left p [] ys at = absurd at
among_left p (x ∷ xs) ys (inl e) = inl e
among_left p (x ∷ xs) ys (inr r) = inr (among_left p xs ys r)

-- a piece of the second list is among both
pub among_right : (p : Subproblem) (xs ys : List Subproblem) → IsAmong p ys → IsAmong p (xs ++ ys)
among_right p [] ys at = at
among_right p (x ∷ xs) ys at = inr (among_right p xs ys at)

-- a piece among both is of the first or of the second
pub among_either : (p : Subproblem) (xs ys : List Subproblem) → IsAmong p (xs ++ ys) → IsAmong p xs ⊎ IsAmong p ys
among_either p [] ys at = inr at
among_either p (x ∷ xs) ys (inl e) = inl (inl e)
among_either p (x ∷ xs) ys (inr r) = elim (among_either p xs ys r) [
  | inl a ↦ inl (inr a)
  | inr b ↦ inr b
]

-- counting the pieces of a name is weighing them by it
pub count_named_is : (x : List ℕ) (ps : List Subproblem) → count_named x ps ≡ weigh (named x) ps
count_named_is x [] = refl
count_named_is x (p ∷ ps) = ap (λ n. named x p + n) (count_named_is x ps)
