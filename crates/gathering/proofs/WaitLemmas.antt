-- The pieces that wait, as a list: one that is taken and closed is gone from it.
use Rattle.std.proofs.Common.{◌≡◌, ◌≢◌, inl, inr, ℕ, zero, suc, ◌+◌, ◌≤◌, true, false, List, [], ◌∷◌}
use Rattle.std.proofs.Common.{if◌then◌else◌, Option, refl, sym, ap, ◌∙◌, subst, arith}
use Rattle.proof_tree.specs.Piece.{Subproblem}
use Rattle.proof_tree.specs.Weights.{weigh}
use Rattle.event_core.specs.State.{State, Part, waiting, HasPart, IsDone}
use Rattle.event_core.proofs.NameLemmas.{same_or_not}
use Rattle.schedule_law.specs.Names.{is_same_name}
use Rattle.schedule_law.proofs.PieceLemmas.{either_way, same_self, same_true, bit, named, IsAmong}

-- ---- a list without the pieces of a name

-- the pieces of other names
abbrev pub without : List ℕ → List Subproblem → List Subproblem
without name [] = []
without name (p ∷ ps) = if is_same_name name p.name then without name ps else p ∷ without name ps

-- how many pieces there are
abbrev pub many : List Subproblem → ℕ
many ps = weigh (λ p. 1) ps

-- a piece of the name isn't kept
pub without_same : (name : List ℕ) (p : Subproblem) (ps : List Subproblem) → is_same_name name p.name ≡ true
    → without name (p ∷ ps) ≡ without name ps
without_same name p ps e = ap (λ b. if b then without name ps else p ∷ without name ps) e

-- a piece of another name is kept
without_other : (name : List ℕ) (p : Subproblem) (ps : List Subproblem) → is_same_name name p.name ≡ false
    → without name (p ∷ ps) ≡ p ∷ without name ps
without_other name p ps e = ap (λ b. if b then without name ps else p ∷ without name ps) e

-- those kept and those of the name are all
pub many-without : (name : List ℕ) (ps : List Subproblem)
    → many (without name ps) + weigh (named name) ps ≡ many ps
many-without name [] = refl
many-without name (p ∷ ps) = (let rest = many-without name ps in elim (either_way (is_same_name name p.name)) [
  | inl e ↦ (let a = ap many (without_same name p ps e) in let b : named name p ≡ 1 = ap bit e in omega arith)
  | inr e ↦ (let a = ap many (without_other name p ps e) in let b : named name p ≡ 0 = ap bit e in omega arith)
])

-- those kept weigh no more
pub weigh-without : (h : Subproblem → ℕ) (name : List ℕ) (ps : List Subproblem)
    → weigh h (without name ps) ≤ weigh h ps
weigh-without h name [] = omega arith
weigh-without h name (p ∷ ps) = (let rest = weigh-without h name ps in elim (either_way (is_same_name name p.name)) [
  | inl e ↦ (let a = ap (weigh h) (without_same name p ps e) in omega arith)
  | inr e ↦ (let a = ap (weigh h) (without_other name p ps e) in omega arith)
])

-- another name isn't this piece's
pub not_named : (x : List ℕ) (p : Subproblem) → x ≢ p.name → named x p ≡ 0
not_named x p ne = elim (either_way (is_same_name x p.name)) [
  | inl e ↦ absurd (ne (same_true x p.name e))
  | inr e ↦ ap bit e
]

-- another name stands as often
pub named-without : (x name : List ℕ) (ps : List Subproblem) → x ≢ name
    → weigh (named x) (without name ps) ≡ weigh (named x) ps
named-without x name [] ne = refl
named-without x name (p ∷ ps) ne =
    let rest = named-without x name ps ne in elim (either_way (is_same_name name p.name)) [
      | inl e ↦ (let a = ap (weigh (named x)) (without_same name p ps e) in
          let b = not_named x p (λ f. ne (f ∙ sym (same_true name p.name e))) in omega arith)
      | inr e ↦ (let a = ap (weigh (named x)) (without_other name p ps e) in omega arith)
    ]

-- a piece of the list that has another name
pub record IsOther (p : Subproblem) (name : List ℕ) (ps : List Subproblem) : Type 0 where
  pub among : IsAmong p ps
  pub apart : p.name ≢ name

-- a piece that is kept was there, and has another name
pub among-without : (p : Subproblem) (name : List ℕ) (ps : List Subproblem) → IsAmong p (without name ps)
    → IsOther p name ps
among-without p name [] at = absurd at
among-without p name (q ∷ qs) at = elim (either_way (is_same_name name q.name)) [
  | inl e ↦ later (among-without p name qs (subst (IsAmong p) (without_same name q qs e) at))
  | inr e ↦ elim (subst (IsAmong p) (without_other name q qs e) at) [
    | inl f ↦ record {
      among = inl f;
      apart = λ g. absurd (let a : bit (is_same_name name q.name) ≡ 0 = ap bit e in
          let b : bit (is_same_name name q.name) ≡ 1 =
          ap (λ y. bit (is_same_name name y)) (sym (ap (λ (r : Subproblem). r.name) f) ∙ g)
          ∙ ap bit (same_self name) in
          omega arith);
    }
    | inr rest ↦ later (among-without p name qs rest)
  ]
]
  where
    later : IsOther p name qs → IsOther p name (q ∷ qs)
    later o = record { among = inr o.among; apart = o.apart }

-- ---- what waits

-- these pieces wait and no other, and no name stands twice
pub record AreWaiting (state : State) (ps : List Subproblem) : Type 0 where
  pub wait : (p : Subproblem) → IsAmong p ps → HasPart state p.name p.chosen p.barred waiting
  pub only : (name chosen barred : List ℕ) → HasPart state name chosen barred waiting → 1 ≤ weigh (named name) ps
  pub once : (name : List ℕ) → weigh (named name) ps ≤ 1

-- where no piece changed, pieces that waited still wait
pub same_waiting : (old new : State) (ps : List Subproblem) → new.part_at ≡ old.part_at → AreWaiting old ps
    → AreWaiting new ps
same_waiting old new ps e a = record {
  wait = λ p at. ap (λ (f : List ℕ → Option Part). f p.name) e ∙ a.wait p at;
  only = λ n c b h. a.only n c b (sym (ap (λ (f : List ℕ → Option Part). f n) e) ∙ h);
  once = a.once;
}

-- the piece of this name waited and waits no more, and those of other names stay
pub record IsGone (old : State) (name : List ℕ) (new : State) : Type 0 where
  pub chosen : List ℕ
  pub barred : List ℕ
  pub waited : HasPart old name chosen barred waiting
  pub past : (c b : List ℕ) → ¬ HasPart new name c b waiting
  pub others : (other : List ℕ) → other ≢ name → new.part_at other ≡ old.part_at other

-- where a piece is gone, the pieces of other names wait
gone_waiting : (old : State) (name : List ℕ) (new : State) (ps : List Subproblem) → AreWaiting old ps
    → IsGone old name new → AreWaiting new (without name ps)
gone_waiting old name new ps a g = record {
  wait = λ p at. (let o = among-without p name ps at in g.others p.name o.apart ∙ a.wait p o.among);
  only = λ n c b h. elim (same_or_not n name) [
    | inl e ↦ absurd (g.past c b (ap new.part_at (sym e) ∙ h))
    | inr ne ↦ (let before = a.only n c b (sym (g.others n ne) ∙ h) in let same = named-without n name ps ne in
        omega arith)
  ];
  once = λ x. (let less = weigh-without (named x) name ps in let one = a.once x in omega arith);
}

-- this count of pieces is gone, one after another
abbrev pub AllGone : State → ℕ → State → Type 0
AllGone old zero new = new ≡ old
AllGone old (suc count) new = (name : List ℕ) × (next : State) × IsGone old name next × AllGone next count new

-- pieces that are gone after others
pub all_gone-append : (a : State) (m n : ℕ) (b c : State) → AllGone a m b → AllGone b n c → AllGone a (m + n) c
all_gone-append a zero n b c p q =
    let e : n ≡ zero + n = omega arith in
    subst (λ (k : ℕ). AllGone a k c) e (subst (λ (s : State). AllGone s n c) p q)
all_gone-append a (suc m) n b c (name, next, one, rest) q =
    let e : suc (m + n) ≡ suc m + n = omega arith in
    subst (λ (k : ℕ). AllGone a k c) e (name, next, one, all_gone-append next m n b c rest q)

-- pieces wait, and with those that are gone they are as many as before
pub record AreWaitingStill (state : State) (gone before : ℕ) : Type 0 where
  pub rest : List Subproblem
  pub wait : AreWaiting state rest
  pub count : many rest + gone ≡ before

-- where pieces are gone, fewer wait by their number
pub all_gone_waiting : (count : ℕ) (old new : State) (ps : List Subproblem) → AreWaiting old ps
    → AllGone old count new → AreWaitingStill new count (many ps)
all_gone_waiting zero old new ps a g = record {
  rest = ps;
  wait = subst (λ (s : State). AreWaiting s ps) (sym g) a;
  count = omega arith;
}
all_gone_waiting (suc count) old new ps a (name, next, one, later) =
    let still = all_gone_waiting count next new (without name ps) (gone_waiting old name next ps a one) later in
    let some = a.only name one.chosen one.barred one.waited in
    let once = a.once name in
    let sum = many-without name ps in
    let last = still.count in
    record { rest = still.rest; wait = still.wait; count = omega arith }

-- where no piece is left, none waits
pub none_waiting : (state : State) (ps : List Subproblem) → AreWaiting state ps → IsDone state → many ps ≡ 0
none_waiting state [] a done = refl
none_waiting state (p ∷ ps) a done = absurd (done p.name p.chosen p.barred waiting (a.wait p (inl refl)) tt)
