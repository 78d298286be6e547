-- The results of workers say the same in whatever order they stand.
use Rattle.std.proofs.Common.{◌≡◌, ℕ, ◌+◌, ◌≤◌, List, [], ◌∷◌, ◌++◌, Option, Some, None, Contains}
use Rattle.std.proofs.Common.{refl, sym, ◌∙◌, subst, arith, ◌⊎◌, inl, inr}
use Rattle.std.specs.Prelude.{All, IsPermutation}
use Rattle.std.proofs.lemmas.List.Elements.{Contains-append_cases, Contains-append_left, Contains-append_right}
use Rattle.std.proofs.lemmas.List.Elements.{Contains-push, Contains-push_cases}
use Rattle.std.proofs.lemmas.List.Recursion.{is_sum_by}
use Rattle.std.proofs.lemmas.List.Sorted.{All-permutation, Contains-permutation, IsPermutation-sym}
use Rattle.std.proofs.lemmas.List.Sorted.{sum_by-IsPermutation}
use Rattle.set_cover.specs.Instance.{Instance}
use Rattle.instance_regions.specs.Cover.{Covering}
use Rattle.proof_tree.specs.Piece.{Subproblem, Fathomed}
use Rattle.proof_tree.specs.Opened.{Split, kids_of}
use Rattle.proof_tree.specs.Weights.{weigh}
use Rattle.schedule_law.specs.Worked.{Worked, IsWork}
use Rattle.schedule_law.specs.Joined.{AreJoined, all_back, all_closed, all_kids, all_opened, least_size, less_by}
use Rattle.schedule_law.specs.Joined.{pieces_closed, pieces_opened}
use Rattle.schedule_law.proofs.PieceLemmas.{weigh-append}

-- ---- sums over workers

-- what is summed worker by worker is the same in another order
moved : (F : List Worked → ℕ) (f : Worked → ℕ) → F [] ≡ 0 → ((x : Worked) (xs : List Worked) → F (x ∷ xs) ≡ f x + F xs)
    → (works others : List Worked) → IsPermutation works others → F others ≡ F works
moved F f none more works others p =
    is_sum_by F f none more others ∙ sum_by-IsPermutation f works others p ∙ sym (is_sum_by F f none more works)

kids_append : (h : Subproblem → ℕ) (xs ys : List Split)
    → weigh h (all_kids (xs ++ ys)) ≡ weigh h (all_kids xs) + weigh h (all_kids ys)
kids_append h [] ys = omega arith
kids_append h (x ∷ xs) ys = omega (
  arith,
  weigh-append h (kids_of x) (all_kids (xs ++ ys)),
  weigh-append h (kids_of x) (all_kids xs),
  kids_append h xs ys,
)

opened_append : (h : Subproblem → ℕ) (xs ys : List Split)
    → weigh h (pieces_opened (xs ++ ys)) ≡ weigh h (pieces_opened xs) + weigh h (pieces_opened ys)
opened_append h [] ys = omega arith
opened_append h (x ∷ xs) ys = omega (arith, opened_append h xs ys)

closed_append : (h : Subproblem → ℕ) (xs ys : List Fathomed)
    → weigh h (pieces_closed (xs ++ ys)) ≡ weigh h (pieces_closed xs) + weigh h (pieces_closed ys)
closed_append h [] ys = omega arith
closed_append h (x ∷ xs) ys = omega (arith, closed_append h xs ys)

-- ---- the least size

-- nothing stands in an empty list
none_in : (x : Worked) → Contains [] x → ⊥
none_in x at = absurd (omega (arith, at.1))

-- what stands in a list is its first element, or stands after that
first_or_later : (y : Worked) (ys : List Worked) (x : Worked) → Contains (y ∷ ys) x → (y ≡ x) ⊎ Contains ys x
first_or_later y ys x at = elim (Contains-append_cases (y ∷ []) ys x at) [
  | inl first ↦ elim (Contains-push_cases [] y x first) [ inl none ↦ absurd (none_in x none) | inr e ↦ inl e ]
  | inr later ↦ inr later
]

-- it is at most the size that it begins with
low : (n : ℕ) (xs : List Worked) → least_size n xs ≤ n
low n [] = omega arith
low n (x ∷ xs) = by x.cover (low n xs)
  where
    by : (o : Option Covering) → least_size n xs ≤ n → less_by (least_size n xs) o ≤ n
    by None le = le
    by (Some cover) le = omega (arith, le)

-- and at most what each worker's cover makes of that
low_of : (n : ℕ) (xs : List Worked) (x : Worked) → Contains xs x → least_size n xs ≤ less_by n x.cover
low_of n [] x at = absurd (none_in x at)
low_of n (y ∷ ys) x at = elim (first_or_later y ys x at) [
  | inl e ↦ subst (λ (w : Worked). less_by (least_size n ys) y.cover ≤ less_by n w.cover) e (same y.cover (low n ys))
  | inr later ↦ less y.cover (low_of n ys x later)
]
  where
    same : (o : Option Covering) → least_size n ys ≤ n → less_by (least_size n ys) o ≤ less_by n o
    same None le = le
    same (Some cover) le = omega (arith, le)

    less : (o : Option Covering) → least_size n ys ≤ less_by n x.cover → less_by (least_size n ys) o ≤ less_by n x.cover
    less None le = le
    less (Some cover) le = omega (arith, le)

-- more workers make it no greater
low_among : (n : ℕ) (xs ys : List Worked) → ((x : Worked) → Contains xs x → Contains ys x)
    → least_size n ys ≤ least_size n xs
low_among n [] ys among = low n ys
low_among n (x ∷ xs) ys among =
    by x.cover (low_among n xs ys (λ w at. among w (Contains-append_right (x ∷ []) xs w at)))
    (low_of n ys x (among x (Contains-append_left (x ∷ []) xs x (Contains-push [] x))))
  where
    by : (o : Option Covering) → least_size n ys ≤ least_size n xs → least_size n ys ≤ less_by n o
        → least_size n ys ≤ less_by (least_size n xs) o
    by None le one = le
    by (Some cover) le one = omega (arith, le, one)

-- in another order it is the same
least_moved : (n : ℕ) (works others : List Worked) → IsPermutation works others
    → least_size n works ≡ least_size n others
least_moved n works others p = omega (
  arith,
  low_among n works others (λ x. Contains-permutation works others x p),
  low_among n others works (λ x. Contains-permutation others works x (IsPermutation-sym works others p)),
)

-- ---- joined results

pub joined_in_any_order : (region : Instance) (goal : ℕ) (works others : List Worked) (left : List Subproblem)
    → IsPermutation works others → AreJoined region goal works left → AreJoined region goal others left
joined_in_any_order region goal works others left p j = record {
  fit = subst (λ (n : ℕ). All (IsWork region n) others) (least_moved goal works others p)
      (All-permutation (IsWork region (least_size goal works)) works others p j.fit);
  balance = λ h. omega (
    arith,
    j.balance h,
    moved (λ ws. weigh h (all_kids (all_opened ws))) (λ w. weigh h (all_kids w.opened)) refl
        (λ w ws. kids_append h w.opened (all_opened ws)) works others p,
    moved (λ ws. weigh h (pieces_opened (all_opened ws))) (λ w. weigh h (pieces_opened w.opened)) refl
        (λ w ws. opened_append h w.opened (all_opened ws)) works others p,
    moved (λ ws. weigh h (pieces_closed (all_closed ws))) (λ w. weigh h (pieces_closed w.closed)) refl
        (λ w ws. closed_append h w.closed (all_closed ws)) works others p,
    moved (λ ws. weigh h (all_back ws)) (λ w. weigh h (w.held ++ w.kept)) refl
        (λ w ws. weigh-append h (w.held ++ w.kept) (all_back ws)) works others p,
  );
}
