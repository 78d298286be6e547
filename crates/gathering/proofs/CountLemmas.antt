-- How many pieces were closed.
use Rattle.std.proofs.Common.{◌≡◌, ℕ, ◌+◌, Bool, List, [], ◌∷◌, ◌++◌, refl, sym, ap, ◌∙◌}
use Rattle.std.proofs.Common.{subst, arith, append_assoc, append-nil}
use Rattle.proof_tree.specs.Piece.{Fathomed}
use Rattle.event_core.specs.State.{State}
use Rattle.schedule_law.specs.Worked.{Worked}
use Rattle.gathering.specs.Playing.{one_if, TriesClose, TriesCloses, TriesAllCloses}

-- whatever the rest of the pieces does completes them all, where this count was closed so far
pub record CountsOn (old : State) (worker : ℕ) (all : List Fathomed) (count : ℕ) (now : State)
    (rest : List Fathomed) : Type 0 where
  pub go : (others : ℕ) (new : State) → TriesCloses now worker rest others new
      → TriesCloses old worker all (count + others) new

-- before the first piece of a worker none is counted
pub counts_start_at : (old : State) (worker : ℕ) (all rest : List Fathomed) → rest ≡ all
    → CountsOn old worker all 0 old rest
counts_start_at old worker all rest e = record {
  go = λ others new t. subst (λ (n : ℕ). TriesCloses old worker all n new) (omega arith) (subst (λ
      (l : List Fathomed). TriesCloses old worker l others new) e t);
}

-- a piece that was closed counts one more, one that was left none
pub counts_next : (old : State) (worker : ℕ) (all : List Fathomed) (count more : ℕ) (now : State)
    (closed : Fathomed) (whole rest : List Fathomed) (done : Bool) (next : State)
    → CountsOn old worker all count now whole → whole ≡ closed ∷ rest → TriesClose now worker closed done next → more ≡
    count + one_if done → CountsOn old worker all more next rest
counts_next old worker all count more now closed whole rest done next l e t sum = record {
  go = λ others new u. (
      let both : TriesCloses now worker (closed ∷ rest) (one_if done + others) new = (done, next, t, others, refl, u) in
      subst (λ (n : ℕ). TriesCloses old worker all n new) (omega (arith, sum))
      (l.go (one_if done + others) new (subst (λ (l : List Fathomed). TriesCloses now worker l
      (one_if done + others) new) (sym e) both)));
}

-- after the last piece the count is of all
pub counts_end : (old : State) (worker : ℕ) (all : List Fathomed) (count : ℕ) (now : State) (rest : List Fathomed)
    → CountsOn old worker all count now rest → rest ≡ []
    → TriesCloses old worker all count now
counts_end old worker all count now rest l e =
    let none : TriesCloses now worker rest 0 now = subst (λ (r : List Fathomed). TriesCloses now worker r 0 now) (sym e)
    (refl, refl) in
    subst (λ (n : ℕ). TriesCloses old worker all n now) (omega arith) (l.go 0 now none)

-- whatever the rest of the workers does completes them all, where these counts were closed so far
pub record AllCountOn (old : State) (all : List Worked) (counts : List ℕ) (now : State) (worker : ℕ)
    (rest : List Worked) : Type 0 where
  pub go : (others : List ℕ) (new : State) → TriesAllCloses now worker rest others new
      → TriesAllCloses old 0 all (counts ++ others) new

-- before the first worker there are no counts
pub all_start_at : (old : State) (all rest : List Worked) (counts : List ℕ) → counts ≡ [] → rest ≡ all
    → AllCountOn old all counts old 0 rest
all_start_at old all rest counts none e = record {
  go = λ others new t. subst (λ (l : List ℕ). TriesAllCloses old 0 all (l ++ others) new) (sym none) (subst (λ
      (l : List Worked). TriesAllCloses old 0 l others new) e t);
}

-- a worker's count stands after those before it
pub all_next : (old : State) (all : List Worked) (counts more : List ℕ) (now : State) (worker count : ℕ)
    (work : Worked) (whole rest : List Worked) (next : State)
    → AllCountOn old all counts now worker whole → whole ≡ work ∷ rest → TriesCloses now worker work.closed count next →
    more ≡ counts ++ count ∷ []
    → AllCountOn old all more next (worker + 1) rest
all_next old all counts more now worker count work whole rest next l e t sum = record {
  go = λ others new u. (
      let both : TriesAllCloses now worker (work ∷ rest) (count ∷ others) new = (count, others, refl, next, t, u) in
      let same : counts ++ count ∷ others ≡ more ++ others = sym (append_assoc counts (count ∷ []) others)
      ∙ ap (λ (l : List ℕ). l ++ others) (sym sum) in
      subst (λ (l : List ℕ). TriesAllCloses old 0 all l new) same
      (l.go (count ∷ others) new (subst (λ (w : List Worked). TriesAllCloses now worker w (count ∷ others) new)
      (sym e) both)));
}

-- after the last worker the counts are of all
pub all_end : (old : State) (all : List Worked) (counts : List ℕ) (now : State) (worker : ℕ) (rest : List Worked)
    → AllCountOn old all counts now worker rest → rest ≡ []
    → TriesAllCloses old 0 all counts now
all_end old all counts now worker rest l e =
    let none : TriesAllCloses now worker rest [] now = subst (λ (r : List Worked). TriesAllCloses now worker r [] now)
    (sym e) (refl, refl) in
    subst (λ (l : List ℕ). TriesAllCloses old 0 all l now) (append-nil counts) (l.go [] now none)
