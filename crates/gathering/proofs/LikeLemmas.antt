-- The region, the aim and the number of workers stay.
use Rattle.std.proofs.Common.{◌≡◌, ℕ, ◌+◌, Bool, true, false, List, [], ◌∷◌, length, ap, ◌∙◌}
use Rattle.std.proofs.lemmas.List.{length-set}
use Rattle.proof_tree.specs.Piece.{Fathomed}
use Rattle.event_core.specs.State.{State, goal_of}
use Rattle.event_core.specs.Events.{Does}
use Rattle.event_core.specs.Plays.{Steps, Plays}
use Rattle.event_core.specs.declared.event.Event.{Event}
use Rattle.event_core.specs.declared.event.Event.TheVariants.{Look, Offer, Take, Open, Pick, Close, Leave}
use Rattle.schedule_law.specs.Worked.{Worked}
use Rattle.gathering.specs.Playing.{TriesClose, TriesCloses, TriesAllCloses}
use Rattle.gathering.specs.Gathered.{Gleans, GleansOne}

pub record IsLike (old new : State) : Type 0 where
  pub of_it : new.region ≡ old.region
  pub aimed : new.aim ≡ old.aim
  pub workers : length new.seen ≡ length old.seen

-- a state is like itself
pub like_same : (old new : State) → new ≡ old → IsLike old new
like_same old new e = record {
  of_it = ap (λ (s : State). s.region) e;
  aimed = ap (λ (s : State). s.aim) e;
  workers = ap (λ (s : State). length s.seen) e;
}

-- likeness goes on from state to state
pub like_then : (a b c : State) → IsLike a b → IsLike b c → IsLike a c
like_then a b c p q = record {
  of_it = q.of_it ∙ p.of_it;
  aimed = q.aimed ∙ p.aimed;
  workers = q.workers ∙ p.workers;
}

-- a state in which only the pieces differ is like the other
like_but_parts : (old new : State) → new ≡ record old { part_at = new.part_at } → IsLike old new
like_but_parts old new e = record {
  of_it = ap (λ (s : State). s.region) e;
  aimed = ap (λ (s : State). s.aim) e;
  workers = ap (λ (s : State). length s.seen) e;
}

-- an event that is done keeps region, aim and workers
like_does : (old : State) (event : Event) (new : State) → Does old event new → IsLike old new
like_does old (Look w) new does = record {
  of_it = ap (λ (s : State). s.region) does;
  aimed = ap (λ (s : State). s.aim) does;
  workers = ap (λ (s : State). length s.seen) does ∙ length-set old.seen w (goal_of old);
}
like_does old (Offer w cover) new does = record {
  of_it = ap (λ (s : State). s.region) does;
  aimed = ap (λ (s : State). s.aim) does;
  workers = ap (λ (s : State). length s.seen) does;
}
like_does old (Take w n) new does = like_but_parts old new does.kept
like_does old (Open n bars cell) new does = like_but_parts old new does.kept
like_does old (Pick n bars place) new does = like_but_parts old new does.kept
like_does old (Close w k) new does = like_but_parts old new does.kept
like_does old (Leave w n) new does = like_but_parts old new does.kept

-- so does one that is tried
pub like_step : (old : State) (event : Event) (done : Bool) (new : State) → Steps old event done new → IsLike old new
like_step old event true new s = like_does old event new s.1
like_step old event false new s = like_same old new s.1

-- so do events in turn
pub like_plays : (old : State) (events : List Event) (new : State) → Plays old events new → IsLike old new
like_plays old [] new p = like_same old new p
like_plays old (event ∷ events) new p = like_then old p.1 new (like_step old event p.0 p.1 p.2)
    (like_plays p.1 events new p.3)

-- so does a try to close a piece
like_close : (old : State) (w : ℕ) (k : Fathomed) (done : Bool) (new : State) → TriesClose old w k done new
    → IsLike old new
like_close old w k done new t =
    like_then old t.tried new
    (like_then old t.taken t.tried (like_step old (Take w k.piece.name) t.took t.taken t.takes) (like_step t.taken
    (Close w k) done t.tried t.closes))
    (like_step t.tried (Leave w k.piece.name) t.left new t.leaves)

-- so do the tries of a worker
like_closes : (old : State) (w : ℕ) (pieces : List Fathomed) (count : ℕ) (new : State)
    → TriesCloses old w pieces count new → IsLike old new
like_closes old w [] count new t = like_same old new t.1
like_closes old w (k ∷ ks) count new (done, next, one, others, sum, rest) =
    like_then old next new (like_close old w k done next one) (like_closes next w ks others new rest)

-- so do those of all workers
pub like_all_closes : (old : State) (w : ℕ) (works : List Worked) (counts : List ℕ) (new : State)
    → TriesAllCloses old w works counts new → IsLike old new
like_all_closes old w [] counts new t = like_same old new t.1
like_all_closes old w (work ∷ works) counts new (count, others, is, next, one, rest) =
    like_then old next new (like_closes old w work.closed count next one) (like_all_closes next
    (w + 1) works others new rest)

-- so does gleaning a piece
pub like_one : (old : State) (caller : ℕ) (name : List ℕ) (new : State) → GleansOne old caller name new → IsLike old new
like_one old caller name new g =
    like_then old g.seen new
    (like_then old g.offered g.seen
    (like_then old g.taken g.offered (like_step old (Take caller name) true g.taken g.takes) (like_step g.taken
    (Offer caller g.cover) true g.offered g.offers))
    (like_step g.offered (Look caller) true g.seen g.looks))
    (like_step g.seen (Close caller g.closed) true new g.closes)

-- so does gleaning all
pub like_gleans : (old : State) (caller : ℕ) (names : List (List ℕ)) (new : State) → Gleans old caller names new
    → IsLike old new
like_gleans old caller [] new g = like_same old new g
like_gleans old caller (name ∷ names) new (next, one, rest) = like_then old next new (like_one old caller name next one)
    (like_gleans next caller names new rest)
