-- Events one after another.
use Rattle.std.proofs.Common.{◌≡◌, ℕ, ◌+◌, ◌<◌, ◌≤◌, Bool, List, [], ◌∷◌, ◌++◌, length, get_or, drop, refl, sym, ap}
use Rattle.std.proofs.Common.{◌∙◌, subst}
use Rattle.std.proofs.lemmas.List.{drop_more, drop_all}
use Rattle.event_core.specs.State.{State}
use Rattle.event_core.specs.Kept.{Kept, StepsTo, state_of}
use Rattle.event_core.specs.Plays.{Plays}
use Rattle.event_core.specs.declared.event.Event.{Event}
use Rattle.event_core.proofs.KeptLemmas.{steps_are_events}

-- a step is a play of one event
pub plays_one : (old : Kept) (event : Event) (new : Kept) (done : Bool) → StepsTo old event new done
    → Plays (state_of old) (event ∷ []) (state_of new)
plays_one old event new done s = (done, state_of new, steps_are_events old event new done s, refl)

-- two plays in turn are one
pub plays_append : (a : State) (xs ys : List Event) (b c : State) → Plays a xs b → Plays b ys c → Plays a (xs ++ ys) c
plays_append a [] ys b c p q = subst (λ (s : State). Plays s ys c) p q
plays_append a (x ∷ xs) ys b c p q = (p.0, p.1, p.2, plays_append p.1 xs ys b c p.3 q)

-- a play of two lists is one of each in turn
pub plays_split : (a : State) (xs ys : List Event) (c : State) → Plays a (xs ++ ys) c
    → (b : State) × (Plays a xs b × Plays b ys c)
plays_split a [] ys c p = (a, (refl, p))
plays_split a (x ∷ xs) ys c p = (let r = plays_split p.1 xs ys c p.3 in (r.0, ((p.0, p.1, p.2, r.1.0), r.1.1)))

-- whatever the rest of the events does completes them all
pub record Leads (old : State) (all : List Event) (now : State) (rest : List Event) : Type 0 where
  pub go : (new : State) → Plays now rest new → Plays old all new

-- before the first event the state is the first
pub leads_start : (old : State) (all : List Event) → Leads old all old all
leads_start old all = record { go = λ new p. p }

-- some events more lead on
pub leads_next : (old : State) (all : List Event) (now : State) (whole first rest : List Event) (next : State)
    → Leads old all now whole
    → whole ≡ first ++ rest → Plays now first next → Leads old all next rest
leads_next old all now whole first rest next l e p = record {
  go = λ new q. l.go new (subst (λ (es : List Event). Plays now es new) (sym e)
      (plays_append now first rest next new p q));
}

-- after the last event all were played
pub leads_end : (old : State) (all : List Event) (now : State) (rest : List Event) → Leads old all now rest → rest ≡ []
    → Plays old all now
leads_end old all now rest l e = l.go now (subst (λ (es : List Event). Plays now es now) (sym e) refl)

-- what is left at an index begins with what stands there
pub drop_at : {X : Type 0} (xs : List X) (i : ℕ) (x : X) → i < length xs → x ≡ get_or xs i x
    → drop i xs ≡ x ∷ drop (i + 1) xs
drop_at xs i x lt e = drop_more xs i x lt ∙ ap (λ y. y ∷ drop (i + 1) xs) (sym e)

-- past the end nothing is left
pub drop_end : {X : Type 0} (xs : List X) (i : ℕ) → length xs ≤ i → drop i xs ≡ []
drop_end xs i le = drop_all i xs le
