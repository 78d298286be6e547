-- Lists one after another.
use Rattle.std.proofs.Common.{◌≡◌, ℕ, zero, suc, List, [], ◌∷◌, slice_index_or, All, Contains, arith, inl, inr}
use Rattle.std.proofs.lemmas.List.Elements.{All-head, All-tail, Contains-append_cases, Contains-append_left}
use Rattle.std.proofs.lemmas.List.Elements.{Contains-append_right}
use Rattle.cave_model.specs.Plan.{AreDistinct}
use Rattle.cave_model.specs.Regions.{all_cells}
use Rattle.set_cover.proofs.ListLemmas.{none_in, once_append}

-- what is in one of the lists is in all together
pub in_all : (lists : List (List ℕ)) (k x : ℕ) → Contains (slice_index_or lists k []) x → Contains (all_cells lists) x
in_all [] k x has = none_in x has
in_all (l ∷ ls) zero x has = Contains-append_left l (all_cells ls) x has
in_all (l ∷ ls) (suc k) x has = Contains-append_right l (all_cells ls) x (in_all ls k x has)

-- what is in all together is in one of the lists
pub in_one : (lists : List (List ℕ)) (x : ℕ) → Contains (all_cells lists) x
    → (k : ℕ) × Contains (slice_index_or lists k []) x
in_one [] x has = none_in x has
in_one (l ∷ ls) x has = elim (Contains-append_cases l (all_cells ls) x has) [
  | inl first ↦ (0, first)
  | inr later ↦ (let k = in_one ls x later in (suc k.0, k.1))
]

-- lists of distinct numbers with nothing in common are distinct together
pub distinct_all : (lists : List (List ℕ)) → All AreDistinct lists
    → ((x i j : ℕ) → Contains (slice_index_or lists i []) x → Contains (slice_index_or lists j []) x → i ≡ j)
    → AreDistinct (all_cells lists)
distinct_all [] each apart = λ i j d lt h. absurd (omega arith)
distinct_all (l ∷ ls) each apart = once_append l (all_cells ls) (All-head AreDistinct l ls each)
    (distinct_all ls (All-tail AreDistinct l ls each)
    (λ x i j a b. (let same = apart x (suc i) (suc j) a b in omega arith)))
    (λ x first later. (let k = in_one ls x later in let same = apart x 0 (suc k.0) first k.1 in absurd (omega arith)))
