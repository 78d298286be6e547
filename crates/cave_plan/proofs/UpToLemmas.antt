-- The texts of the numbers below n, one after another.
use Rattle.std.proofs.Common.{◌≡◌, ◌≢◌, ℕ, suc, ◌+◌, Bool, true, false, ◌||◌, nat_eq, List, [], ◌∷◌, ◌++◌, codes}
use Rattle.std.proofs.Common.{decimal, Contains, Option, Some, None, MatchOption, refl, sym, ap, subst, ◌∙◌, arith}
use Rattle.std.proofs.Common.{inl, inr, append_assoc}
use Rattle.std.specs.Prelude.{is_some}
use Rattle.std.proofs.lemmas.Bool.Decides.{nat_tests}
use Rattle.set_cover.specs.Instance.{StandsAt}
use Rattle.set_cover.proofs.OrderLemmas.{element_of}
use Rattle.proof_rules.proofs.ListLemmas.{no_member, cons_cases, here, later}
use Rattle.cave_plan.specs.PlanText.{up_to, is_torch}

-- the texts below 0 are none
pub up_to_none : (text : ℕ → List ℕ) → up_to text 0 ≡ []
unfolding up_to
up_to_none text = refl

-- the texts below the next number
pub up_to_more : (text : ℕ → List ℕ) (n : ℕ) → up_to text (n + 1) ≡ up_to text n ++ text n
unfolding up_to
up_to_more text n = let e : n + 1 ≡ suc n = omega arith in ap (up_to text) e

-- one more text behind those of the numbers below n, and what stands before them
pub put_next : (text : ℕ → List ℕ) (n : ℕ) (front old put new : List ℕ) → new ≡ old ++ put → old ≡ front
    ++ up_to text n → put ≡ text n → new ≡ front ++ up_to text (n + 1)
put_next text n front old put new is so_far next =
    is ∙ ap (λ (l : List ℕ). l ++ put) so_far ∙ append_assoc front (up_to text n) put ∙ ap (λ (l : List ℕ). front
    ++ (up_to text n ++ l)) next ∙ ap (λ (l : List ℕ). front ++ l) (sym (up_to_more text n))

-- a layer's head, before its first row
pub layer_start : (rows : ℕ → List ℕ) (y : ℕ) (out : List ℕ) → out ≡ codes "layer " ++ (decimal y ++ codes "\n")
    → out ≡ codes "layer " ++ (decimal y ++ (codes "\n" ++ up_to rows 0))
layer_start rows y out is = is ∙ ap (λ (l : List ℕ). codes "layer "
    ++ (decimal y ++ (codes "\n" ++ l))) (sym (up_to_none rows))

-- a layer's head stands before what follows it
grouped : (y : ℕ) (rest : List ℕ) → codes "layer " ++ (decimal y ++ (codes "\n" ++ rest)) ≡ (codes "layer "
    ++ (decimal y ++ codes "\n")) ++ rest
grouped y rest = ap (λ (l : List ℕ). codes "layer "
    ++ l) (sym (append_assoc (decimal y) (codes "\n") rest)) ∙ sym (append_assoc (codes "layer ") (decimal y
    ++ codes "\n") rest)

-- a layer with one more row
pub layer_next : (rows : ℕ → List ℕ) (y z : ℕ) (old put new : List ℕ) → new ≡ old ++ put → old ≡ codes "layer "
    ++ (decimal y ++ (codes "\n" ++ up_to rows z)) → put ≡ rows z
    → new ≡ codes "layer " ++ (decimal y ++ (codes "\n" ++ up_to rows (z + 1)))
layer_next rows y z old put new is so_far next =
    put_next rows z (codes "layer "
    ++ (decimal y
    ++ codes "\n")) old put new is (so_far ∙ grouped y (up_to rows z)) next ∙ sym
    (grouped y (up_to rows (z + 1)))

-- ---- whether a torch is listed

-- a cell among the torches is found to be one
any_here : (xs : List ℕ) (x : ℕ) → Contains xs x → is_torch xs x ≡ true
any_here [] x h = no_member x h
any_here (y ∷ ys) x h = elim (cons_cases y ys x h) [
  | inl e ↦ (let same : nat_eq y x ≡ true = grind (arith, nat_tests, e) in ap (λ (b : Bool). b || is_torch ys x) same)
  | inr more ↦ or_true (nat_eq y x) (is_torch ys x) (any_here ys x more)
]
  where
    or_true : (a b : Bool) → b ≡ true → (a || b) ≡ true
    or_true true b e = refl
    or_true false b e = e

-- a cell that isn't among them isn't
none_here : (xs : List ℕ) (x : ℕ) → (Contains xs x → ⊥) → is_torch xs x ≡ false
none_here [] x absent = refl
none_here (y ∷ ys) x absent =
    let other : nat_eq y x ≡ false = (let ne : y ≢ x = λ e. absent (subst (Contains (y ∷ ys)) e (here y ys)) in
    grind (arith, nat_tests, ne)) in
    ap (λ (b : Bool). b || is_torch ys x) other ∙ none_here ys x (λ h. absent (later y ys x h))

-- what a search finds, or that it finds nothing, tells whether the cell is a torch
pub found_is : (xs : List ℕ) (x : ℕ) (o : Option ℕ)
    → MatchOption o (Contains xs x → ⊥) (λ index. StandsAt xs index x) → is_some o ≡ is_torch xs x
found_is xs x None absent = sym (none_here xs x absent)
found_is xs x (Some i) at = sym (any_here xs x (element_of xs x i at.inside at.there))
