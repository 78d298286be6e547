-- Numbers that stand in a list once or ascend, and what flags and pairs come to.
use Rattle.std.proofs.Common.{◌≡◌, ℕ, ◌+◌, ◌<◌, Bool, false, List, [], ◌∷◌, ◌++◌, length, take, slice_index, get_or}
use Rattle.std.proofs.Common.{Contains, sym, ◌∙◌, arith, inl, inr, length-append}
use Rattle.std.specs.List.Sorted.{IsStrictlyIncreasing}
use Rattle.std.proofs.lemmas.Bool.{cases_lt, true≢false}
use Rattle.std.proofs.lemmas.Grind.{get_or_default_zero}
use Rattle.std.proofs.lemmas.List.{get_or-take, length-take-le, get_or_past, get_or_push, get_or_append_left}
use Rattle.std.proofs.lemmas.List.Kept.{AllPairs-from_increasing}
use Rattle.cave_base.specs.Box.{cell_count}
use Rattle.cave_model.specs.Cave.{Cave}
use Rattle.cave_model.specs.Plan.{AreDistinct}
use Rattle.cave_model.specs.Spawn.{IsDark}
use Rattle.cave_model.specs.Torches.{IsPlace}
use Rattle.lit_lists.specs.Lists.{AreListsOf, AreMarksOf, ArePairsOf, Pairs}

-- what stands at an index doesn't stand before it
pub fresh : (xs : List ℕ) (i : ℕ) → AreDistinct xs → i < length xs → ¬ Contains (take i xs) (slice_index xs i)
fresh xs i once h has =
    let lt : has.0 < i = omega (arith, has.1, length-take-le i xs (omega arith)) in
    let at : slice_index (take i xs) has.0 ≡ slice_index xs i =
    sym (get_or_default_zero (take i xs) has.0 (slice_index xs i) has.1) ∙ has.2 in
    once has.0 i 0 lt h (sym (get_or-take i xs has.0 0 lt) ∙ at)

-- an ascending list with a greater number at its end ascends
pub rising_push : (xs : List ℕ) (x : ℕ) → IsStrictlyIncreasing xs → ((y : ℕ) → Contains xs y → y < x)
    → IsStrictlyIncreasing (xs ++ x ∷ [])
rising_push xs x up below = λ k h. (elim (cases_lt (k + 1) (length xs)) [
  | inl lt ↦ (let here = old k (omega arith) in let next = old (k + 1) lt in let r = up k lt in omega arith)
  | inr le ↦ (let long : length (xs ++ x ∷ []) ≡ length xs + 1 = omega (arith, length-append xs (x ∷ [])) in
      let at_end : k + 1 ≡ length xs = omega arith in
      let inside : k < length xs = omega arith in
      let here = old k inside in
      let next : slice_index (xs ++ x ∷ []) (k + 1) ≡ x = get_or_push xs x 0 (k + 1) (sym at_end) in
      let b = below (slice_index xs k) (k, inside, get_or_default_zero xs k (get_or xs k 0) inside) in omega arith)
])
  where
    old : (k : ℕ) → k < length xs → slice_index (xs ++ x ∷ []) k ≡ slice_index xs k
    old k h = get_or_append_left xs (x ∷ []) 0 k h

-- an ascending list has no number twice
pub rising_distinct : (xs : List ℕ) → IsStrictlyIncreasing xs → AreDistinct xs
rising_distinct xs up = λ i j d lt h e. (let r = AllPairs-from_increasing xs up i j d lt h in omega arith)

-- what is marked lies in the box
pub marked_inside : (cave : Cave) (Kind : ℕ → Type 0) (marks : List Bool) (cell : ℕ)
    → AreMarksOf (cell_count cave.size) Kind marks → Kind cell → cell < cell_count cave.size
marked_inside cave Kind marks cell m k = elim (cases_lt cell (cell_count cave.size)) [
  | inl lt ↦ lt
  | inr le ↦ absurd (true≢false (sym ((m.exact cell).1 k) ∙ get_or_past marks cell false (omega (arith, m.whole))))
]

-- the flags and all pairs are the lists of the cave
pub lists_of : (cave : Cave) (dark places : List Bool) (pairs : Pairs)
    → AreMarksOf (cell_count cave.size) (IsDark cave) dark → AreMarksOf (cell_count cave.size) (IsPlace cave) places
    → ArePairsOf cave pairs → AreListsOf cave (record { dark = dark; places = places; pairs = pairs })
lists_of cave dark places pairs d p s =
    record { dark = d; places = p; lights = s.lights; lit_by = s.lit_by; ascending = s.ascending }
