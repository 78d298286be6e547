-- The shipped rows are sound, and no two of them are alike.
use Rattle.std.proofs.Common.{◌≡◌, ◌≢◌, ℕ, Bool, true, false, not, ◌&&◌, nat_le, List, [], ◌∷◌, All, refl, sym, ap}
use Rattle.std.proofs.Common.{◌∙◌, bytes_eq, arith}
use Rattle.std.specs.List.{list_all}
use Rattle.std.proofs.lemmas.List.Elements.{All-nil, All-cons, All-weaker}
use Rattle.std.proofs.lemmas.Slice.Eq.{bytes_eq-Decides}
use Rattle.std.proofs.lemmas.Bool.{leb-true}
use Rattle.std.proofs.lemmas.List.Kept.{AllPairs-cons}
use Rattle.cave_base.specs.declared.class.Class.{Class}
use Rattle.cave_base.specs.Class.{IsSoundClass, gives_way_as_air}
use Rattle.block_rows.specs.declared.row.Row.{Row}
use Rattle.block_rows.specs.Rows.{AreSoundRows}
use Rattle.cave_base.proofs.CellLemmas.{both_true}
use Rattle.cave_base.proofs.ClassLemmas.{sound_class}
use Rattle.block_rows.specs.Shipped.{shipped_rows, AreDistinctRows}

-- ---- each is sound

abbrev is_sound : Class → Bool
is_sound class = nat_le class.opacity 15 && (nat_le class.emission 15 && gives_way_as_air class)

-- a class that passes the test is sound
sound_of : (class : Class) → is_sound class ≡ true → IsSoundClass class
sound_of class e =
    let a = both_true (nat_le class.opacity 15) _ e in
    let b = both_true (nat_le class.emission 15) _ a.1 in
    sound_class class (leb-true class.opacity 15 a.0) (leb-true class.emission 15 b.0) b.1

-- a test of all the rows
all_of : (test : Row → Bool) (rows : List Row) → list_all test rows ≡ true → All (λ row. test row ≡ true) rows
all_of test [] e = All-nil (λ row. test row ≡ true)
all_of test (row ∷ rows) e =
    let a = both_true (test row) _ e in
    All-cons (λ row. test row ≡ true) row rows a.0 (all_of test rows a.1)

-- all shipped rows pass it
all_sound : list_all (λ row. is_sound row.class) shipped_rows ≡ true
unfolding shipped_rows
all_sound = refl

-- all shipped rows are sound
pub shipped_sound : AreSoundRows shipped_rows
shipped_sound = All-weaker (λ (row : Row). is_sound row.class ≡ true) (λ (row : Row). IsSoundClass row.class)
    (λ row e. sound_of row.class e) shipped_rows (all_of (λ row. is_sound row.class) shipped_rows all_sound)

-- ---- no two are alike

abbrev are_alike : List (List ℕ × List ℕ) → List (List ℕ × List ℕ) → Bool
are_alike [] [] = true
are_alike [] (y ∷ ys) = false
are_alike (x ∷ xs) [] = false
are_alike (x ∷ xs) (y ∷ ys) = bytes_eq x.0 y.0 && bytes_eq x.1 y.1 && are_alike xs ys

abbrev are_apart : Row → Row → Bool
are_apart a b = not (bytes_eq a.name b.name && are_alike a.when b.when)

abbrev all_apart : List Row → Bool
all_apart [] = true
all_apart (row ∷ rows) = list_all (are_apart row) rows && all_apart rows

-- all shipped rows are apart by the test
shipped_apart : all_apart shipped_rows ≡ true
unfolding shipped_rows
shipped_apart = refl

-- where each of three holds all do
three_true : (a b c : Bool) → a ≡ true → b ≡ true → c ≡ true → (a && b && c) ≡ true
three_true a b c e f g = cc

-- equal lists are alike
alike : (xs ys : List (List ℕ × List ℕ)) → xs ≡ ys → are_alike xs ys ≡ true
alike xs ys e = ap (are_alike xs) (sym e) ∙ itself xs
  where
    itself : (xs : List (List ℕ × List ℕ)) → are_alike xs xs ≡ true
    itself [] = refl
    itself (x ∷ xs) = three_true _ _ _ ((bytes_eq-Decides x.0 x.0).1 refl)
        ((bytes_eq-Decides x.1 x.1).1 refl) (itself xs)

-- what is apart isn't alike in both
not_apart : (a b : Bool) → not (a && b) ≡ true → a ≡ true → b ≡ true → ⊥
not_apart a b e f g = absurd (cc)

-- rows apart with one name ask for different states
rows_apart : (a b : Row) → are_apart a b ≡ true → a.name ≡ b.name → a.when ≢ b.when
rows_apart a b e same asked = not_apart (bytes_eq a.name b.name) (are_alike a.when b.when) e
    ((bytes_eq-Decides a.name b.name).1 same) (alike a.when b.when asked)

-- rows that are all apart are distinct
apart_rows : (rows : List Row) → all_apart rows ≡ true → AreDistinctRows rows
apart_rows [] e = λ i j d lt h. absurd (omega arith)
apart_rows (row ∷ rows) e =
    let a = both_true (list_all (are_apart row) rows) _ e in
    AllPairs-cons (λ (a b : Row). a.name ≡ b.name → a.when ≢ b.when) row rows
    (All-weaker (λ (b : Row). are_apart row b ≡ true) (λ (b : Row). row.name ≡ b.name → row.when ≢ b.when)
    (rows_apart row) rows (all_of (are_apart row) rows a.0))
    (apart_rows rows a.1)

-- the shipped rows are distinct
pub shipped_distinct : AreDistinctRows shipped_rows
shipped_distinct = apart_rows shipped_rows shipped_apart
