-- The kids of opened pieces, and their names.
use Rattle.std.proofs.Common.{◌≡◌, ◌⊎◌, inl, inr, ℕ, zero, suc, ◌+◌, ◌<◌, ◌≤◌, Bool, true, false, List, [], ◌∷◌, ◌++◌}
use Rattle.std.proofs.Common.{length, refl, ap, ◌∙◌, subst, arith, zero-add}
use Rattle.proof_tree.specs.Piece.{Subproblem}
use Rattle.proof_tree.specs.Opened.{Split, Step, below_bars, kid_of, kids_from, kids_of, step_at, steps_on}
use Rattle.proof_tree.specs.Weights.{weigh}
use Rattle.schedule_law.specs.Names.{is_same_name}
use Rattle.schedule_law.specs.Joined.{all_kids, pieces_opened}
use Rattle.schedule_law.proofs.PieceLemmas.{either_way, same_self, same_true, bit, named, IsAmong, weigh-append}

-- ---- the kid of each number

-- the kid at an index is among the kids
kid_at : (p : Subproblem) (number : ℕ) (steps : List Step) (i : ℕ) → i < length steps
    → IsAmong (kid_of p (number + i) (step_at steps i)) (kids_from p number steps)
kid_at p number [] i lt = absurd (omega arith)
kid_at p number (x ∷ xs) zero lt = inl (ap (λ n. kid_of p n x) (omega arith))
kid_at p number (x ∷ xs) (suc i) lt =
    inr (subst (λ (n : ℕ). IsAmong (kid_of p n (step_at xs i)) (kids_from p (number + 1) xs)) (omega arith)
    (kid_at p (number + 1) xs i (omega arith)))

-- and each of the kids is at some index
kid_from : (p : Subproblem) (number : ℕ) (steps : List Step) (q : Subproblem) → IsAmong q (kids_from p number steps)
    → (i : ℕ) × (i < length steps) × (q ≡ kid_of p (number + i) (step_at steps i))
kid_from p number [] q at = absurd at
kid_from p number (x ∷ xs) q (inl e) = (0, omega arith, e ∙ ap (λ n. kid_of p n x) (omega arith))
kid_from p number (x ∷ xs) q (inr r) =
    let k = kid_from p (number + 1) xs q r in
    (suc k.0, (let lt = k.1 in omega arith), k.2 ∙ ap (λ n. kid_of p n (step_at xs k.0)) (omega arith))

-- the steps to the kids of an opened piece
abbrev pub steps_of : Split → List Step
steps_of s = steps_on s.on s.places

-- the kid of this number
abbrev pub numbered_kid : Split → ℕ → Subproblem
numbered_kid s i = kid_of (below_bars s.piece s.bars) i (step_at (steps_of s) i)

-- a kid told by its number is among those of its split
pub numbered_among : (s : Split) (i : ℕ) → i < length (steps_of s) → IsAmong (numbered_kid s i) (kids_of s)
numbered_among s i lt =
    subst (λ (n : ℕ). IsAmong (kid_of (below_bars s.piece s.bars) n (step_at (steps_of s) i)) (kids_of s)) (zero-add i)
    (kid_at (below_bars s.piece s.bars) 0 (steps_of s) i lt)

-- and each kid of a split is told by its number
pub among_numbered : (s : Split) (q : Subproblem) → IsAmong q (kids_of s)
    → (i : ℕ) × (i < length (steps_of s)) × (q ≡ numbered_kid s i)
among_numbered s q at =
    let k = kid_from (below_bars s.piece s.bars) 0 (steps_of s) q at in
    (k.0, k.1, k.2 ∙ ap (λ n. kid_of (below_bars s.piece s.bars) n (step_at (steps_of s) k.0)) (zero-add k.0))

-- ---- no name stands twice: by induction on its length

-- all but the last number
abbrev pub parent_name : List ℕ → List ℕ
parent_name [] = []
parent_name (x ∷ []) = []
parent_name (x ∷ y ∷ ys) = x ∷ parent_name (y ∷ ys)

abbrev last_number : List ℕ → ℕ
last_number [] = 0
last_number (x ∷ []) = x
last_number (x ∷ y ∷ ys) = last_number (y ∷ ys)

-- the parent's name is the name without its last number
parent_name-push : (xs : List ℕ) (k : ℕ) → parent_name (xs ++ k ∷ []) ≡ xs
parent_name-push [] k = refl
parent_name-push (x ∷ []) k = refl
parent_name-push (x ∷ y ∷ ys) k = ap (λ l. x ∷ l) (parent_name-push (y ∷ ys) k)

-- which is the number of the kid
last_number-push : (xs : List ℕ) (k : ℕ) → last_number (xs ++ k ∷ []) ≡ k
last_number-push [] k = refl
last_number-push (x ∷ []) k = refl
last_number-push (x ∷ y ∷ ys) k = last_number-push (y ∷ ys) k

-- a parent's name is one shorter
length-parent_name : (x : ℕ) (xs : List ℕ) → length (parent_name (x ∷ xs)) ≡ length xs
length-parent_name x [] = refl
length-parent_name x (y ∷ ys) = ap suc (length-parent_name y ys)

-- a kid of this name has the piece of the parent's name for its parent, and the last number
kid_named : (x : List ℕ) (p : Subproblem) (k : ℕ) (step : Step)
    → (named x (kid_of p k step) ≤ named (parent_name x) p)
    × ((named x (kid_of p k step) ≡ 0) ⊎ (last_number x ≡ k))
kid_named x p k step = elim (either_way (is_same_name x (p.name ++ k ∷ []))) [
  | inl e ↦ (let is = same_true x (p.name ++ k ∷ []) e in
      let f : parent_name x ≡ p.name = ap parent_name is ∙ parent_name-push p.name k in
      let one : named (parent_name x) p ≡ 1 = ap (λ y. bit (is_same_name y p.name)) f ∙ ap bit (same_self p.name) in
      let top : named x (kid_of p k step) ≡ 1 = ap bit e in
      (omega arith, inr (ap last_number is ∙ last_number-push p.name k)))
  | inr e ↦ (let none : named x (kid_of p k step) ≡ 0 = ap bit e in (omega arith, inl none))
]

-- as few have this name as their parent has the parent's name, and none where its last number is less than theirs
abbrev AreFew : List ℕ → Subproblem → ℕ → List Subproblem → Type 0
AreFew x p k ps = (weigh (named x) ps ≤ named (parent_name x) p) × (last_number x < k → weigh (named x) ps ≡ 0)

-- of the kids of a piece at most one has a name, and its parent's name is the piece's
kids_named : (x : List ℕ) (p : Subproblem) (k : ℕ) (steps : List Step) → AreFew x p k (kids_from p k steps)
kids_named x p k [] = (omega arith, λ lt. refl)
kids_named x p k (q ∷ qs) =
    let h = kid_named x p k q in
    let r = kids_named x p (k + 1) qs in
    elim h.1 [
      | inl none ↦ (let c = r.0 in (omega arith, λ lt. (let d = r.1 (omega arith) in omega arith)))
      | inr is ↦ (let d = r.1 (omega arith) in let c = h.0 in (omega arith, λ lt. absurd (omega arith)))
    ]

-- at most as many kids have a name as opened pieces have its parent's
pub all_named : (x : List ℕ) (ss : List Split)
    → weigh (named x) (all_kids ss) ≤ weigh (named (parent_name x)) (pieces_opened ss)
all_named x [] = omega arith
all_named x (s ∷ ss) =
    let a = (kids_named x (below_bars s.piece s.bars) 0 (steps_of s)).0 in
    let b = all_named x ss in
    omega (arith, weigh-append (named x) (kids_of s) (all_kids ss))

-- no kid has the empty name
nil_kids : (p : Subproblem) (k : ℕ) (steps : List Step) → weigh (named []) (kids_from p k steps) ≡ 0
nil_kids p k [] = refl
nil_kids p k (q ∷ qs) =
    let n = not_nil p.name k in let r = nil_kids p (k + 1) qs in omega arith
  where
    not_nil : (xs : List ℕ) (k : ℕ) → bit (is_same_name [] (xs ++ k ∷ [])) ≡ 0
    not_nil [] k = refl
    not_nil (x ∷ xs) k = refl

-- no kid has the root's name
pub nil_all : (ss : List Split) → weigh (named []) (all_kids ss) ≡ 0
nil_all [] = refl
nil_all (s ∷ ss) =
    omega (
      arith,
      weigh-append (named []) (kids_of s) (all_kids ss),
      nil_all ss,
      nil_kids
          (below_bars s.piece s.bars) 0 (steps_of s),
    )

-- a bit is at most one
at_most_one : (b : Bool) → bit b ≤ 1
at_most_one true = omega arith
at_most_one false = omega arith

module _ (root : Subproblem) (nameless : root.name ≡ []) (opened : List Split)
    (from : (h : Subproblem → ℕ) → weigh h (pieces_opened opened) ≤ weigh h (root ∷ all_kids opened)) where
  once_below : (n : ℕ) (x : List ℕ) → length x ≤ n → weigh (named x) (root ∷ all_kids opened) ≤ 1
  once_below n [] le = omega (arith, nil_all opened, at_most_one (is_same_name [] root.name))
  once_below zero (k ∷ ks) le = absurd (omega arith)
  once_below (suc n) (k ∷ ks) le =
      let up : List ℕ = parent_name (k ∷ ks) in
      let apart : named (k ∷ ks) root ≡ 0 = ap (λ x. bit (is_same_name (k ∷ ks) x)) nameless in
      let rest = once_below n up (omega (arith, length-parent_name k ks)) in
      omega (arith, all_named (k ∷ ks) opened, from (named up))

  -- each name is that of one piece at most
  pub once : (x : List ℕ) → weigh (named x) (root ∷ all_kids opened) ≤ 1
  once x = once_below (length x) x (omega arith)
