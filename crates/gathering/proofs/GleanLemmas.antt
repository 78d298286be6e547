-- Pieces that the caller's thread closes, one after another.
use Rattle.std.proofs.Common.{◌≡◌, ◌≢◌, inl, inr, ℕ, zero, suc, ◌≤◌, Bool, true, false, List, [], ◌∷◌}
use Rattle.std.proofs.Common.{◌++◌, length, get_or, set, Contains, Some}
use Rattle.std.proofs.Common.{min, refl, sym, ap, ◌∙◌, subst, arith}
use Rattle.std.proofs.lemmas.Bool.Decides.{nat_tests}
use Rattle.std.proofs.lemmas.List.{get_or-set_same, length-set}
use Rattle.std.proofs.lemmas.List.Elements.{Contains-append_cases}
use Rattle.instance_regions.specs.Cover.{Covering, IsCover}
use Rattle.proof_tree.specs.Piece.{Fathomed, IsClosed, Subproblem}
use Rattle.event_core.specs.State.{State, Status, waiting, held, closed, HasPart, IsLeft, goal_of}
use Rattle.event_core.specs.Events.{IsEnabled, Does, MayOffer, MayClose, IsWorker, smaller}
use Rattle.event_core.specs.Plays.{Steps}
use Rattle.event_core.specs.Waiting.{AreAllWaiting, IsWaitingPiece}
use Rattle.event_core.specs.declared.event.Event.{Event}
use Rattle.event_core.specs.declared.event.Event.TheVariants.{Look, Offer, Take}
use Rattle.gathering.specs.Gathered.{Gleans, GleansOne}
use Rattle.gathering.specs.Gleaning.{NoneHeld, IsNoneWaiting, MayFinish}
use Rattle.gathering.proofs.HoldLemmas.{turned_back}
use Rattle.gathering.proofs.LikeLemmas.{IsLike, like_same, like_then, like_one}

-- an event that is enabled is done
pub step_done : (old : State) (event : Event) (done : Bool) (new : State) → IsEnabled old event
    → Steps old event done new → Steps old event true new
step_done old event true new may s = s
step_done old event false new may s = absurd (s.0 may)

-- ---- one piece

-- what is left then was left before, and has another name
left_before : (old : State) (caller : ℕ) (name : List ℕ) (new : State) → GleansOne old caller name new
    → (m c b : List ℕ) (s : Status) → HasPart new m c b s → IsLeft s
    → (m ≢ name) × HasPart old m c b s
left_before old caller name new g m c b s h left =
    let k = g.closed in let may = g.closes.0 in
    elim (turned_back g.seen k.piece.name k.piece.chosen k.piece.barred (held caller)
    (closed k.floor k.tree) new may.holds g.closes.1 m c b s h) [
      | inl e ↦ absurd (subst IsLeft (sym e.1) left)
      | inr o ↦ (
          let other : m ≢ name = subst (λ (n : List ℕ). m ≢ n) g.named o.0 in
          let there : HasPart g.taken m c b s = subst (λ (t : State). HasPart t m c b s) g.offers.1 (subst (λ
          (t : State). HasPart t m c b s) g.looks.1 o.1) in
          let took = g.takes.0 in
          elim (turned_back old name took.chosen took.barred waiting
          (held caller) g.taken took.waits g.takes.1 m c b s there) [
            | inl e ↦ absurd (other e.0)
            | inr before ↦ before
          ])
    ]

-- ---- the caller's thread holds the piece

-- it holds what it took, with the places of the piece that waited
pub taken_piece : (old : State) (caller : ℕ) (name : List ℕ) (taken : State) (piece : Subproblem)
    → IsWaitingPiece old name (Some piece) → Steps old (Take caller name) true taken
    → HasPart taken piece.name piece.chosen piece.barred (held caller)
taken_piece old caller name taken piece w s = ap taken.part_at w.1 ∙ s.1.here piece.chosen piece.barred waiting w.2

-- the smaller of two lists is no longer than the first
no_larger : (new old : List ℕ) → length (smaller new old) ≤ length new
no_larger new old = grind (arith, nat_tests)

module _ (state : State) (caller : ℕ) (k : Fathomed) (cover : Covering) (may : MayFinish state caller k cover)
    (covers : IsCover cover) (proved : IsClosed k) where
  -- the caller may offer its cover
  pub may_offer : MayOffer state caller cover
  may_offer = record { known = may.known; of_it = may.cover_of_it; covers = covers }

  -- and look
  pub may_look : (offered : State) → Does state (Offer caller cover) offered → IsWorker offered caller
  may_look offered e = subst (λ (s : State). IsWorker s caller) (sym e) may.known

  -- and close the piece
  pub may_close : (offered seen : State) → Does state (Offer caller cover) offered → Does offered (Look caller) seen
      → MayClose seen caller k
  may_close offered seen e f =
      let best : List ℕ = smaller cover.places state.best in
      let goal : ℕ = min state.aim (length best) in
      let then : State = record state { best = best; seen = set state.seen caller goal } in
      let is : seen ≡ then = f ∙ ap (λ (s : State). record s { seen = set s.seen caller (goal_of s) }) e in
      let at : get_or (set state.seen caller goal) caller 0 ≡ goal = get_or-set_same state.seen caller
      goal 0 may.known in
      let small = no_larger cover.places state.best in
      subst (λ (s : State). MayClose s caller k) (sym is) (record {
        known = omega (arith, may.known, length-set state.seen caller goal);
        of_it = may.piece_of_it;
        holds = may.holds;
        reaches = omega (arith, at, small, may.reaches);
        proved = proved;
      })

-- ---- all of them

-- gleaning some names and one more is gleaning all of them
gleans_then : (a : State) (caller : ℕ) (names : List (List ℕ)) (b : State) (name : List ℕ) (c : State)
    → Gleans a caller names b → GleansOne b caller name c
    → Gleans a caller (names ++ name ∷ []) c
gleans_then a caller [] b name c g one = (c, subst (λ (s : State). GleansOne s caller name c) g one, refl)
gleans_then a caller (n ∷ ns) b name c (next, first, rest) one =
    (next, first, gleans_then next caller ns b name c rest one)

-- a name in a list of one is that one
only_one : (name m : List ℕ) → Contains (name ∷ []) m → name ≡ m
only_one name m (zero, lt, e) = e
only_one name m (suc k, lt, e) = absurd (omega (arith, lt))

-- another name than the first stands in the rest
other_in_rest : (name m : List ℕ) (rest : List (List ℕ)) → m ≢ name → Contains (name ∷ rest) m → Contains rest m
other_in_rest name m rest ne h = elim (Contains-append_cases (name ∷ []) rest m h) [
  | inl one ↦ absurd (ne (sym (only_one name m one)))
  | inr later ↦ later
]

-- these were closed so far, and what waits is among the rest
pub record IsGleaning (start : State) (caller : ℕ) (names : List (List ℕ)) (now : State) (rest : List
    (List ℕ)) : Type 0 where
  pub gleans : Gleans start caller names now
  pub like : IsLike start now
  pub none_held : NoneHeld now
  pub waiting_in_rest : AreAllWaiting now rest

-- before the first name, all that waits is still to come
pub glean_start : (start : State) (caller : ℕ) (names rest all : List (List ℕ)) → names ≡ [] → rest ≡ all
    → NoneHeld start → AreAllWaiting start all → IsGleaning start caller names start rest
glean_start start caller names rest all none e held_none all_waiting = record {
  gleans = subst (λ (ns : List (List ℕ)). Gleans start caller ns start) (sym none) refl;
  like = like_same start start refl;
  none_held = held_none;
  waiting_in_rest = subst (AreAllWaiting start) (sym e) all_waiting;
}

-- a name whose piece was closed waits no more
pub glean_next : (start : State) (caller : ℕ) (names more : List (List ℕ)) (now : State) (name : List ℕ)
    (whole rest : List (List ℕ)) (next : State)
    → IsGleaning start caller names now whole → whole ≡ name ∷ rest → GleansOne now caller name next → more ≡ names ++
    name ∷ []
    → IsGleaning start caller more next rest
glean_next start caller names more now name whole rest next g e one more_is = record {
  gleans = subst (λ (ns : List (List ℕ)). Gleans start caller ns next) (sym more_is)
      (gleans_then start caller names now name next g.gleans one);
  like = like_then start now next g.like (like_one now caller name next one);
  none_held = λ m c b w h. g.none_held m c b w (left_before now caller name next one m c b (held w) h tt).1;
  waiting_in_rest = λ m c b h. (
      let before = left_before now caller name next one m c b waiting h tt in
      other_in_rest name m rest before.0 (subst (λ (l : List (List ℕ)). Contains l m) e
      (g.waiting_in_rest m c b before.1)));
}

-- a name of which no piece waits is passed over
pub glean_past : (start : State) (caller : ℕ) (names : List (List ℕ)) (now : State) (name : List ℕ)
    (whole rest : List (List ℕ)) (next : State)
    → IsGleaning start caller names now whole → whole ≡ name ∷ rest → IsNoneWaiting now name → next ≡ now → IsGleaning
    start caller names next rest
glean_past start caller names now name whole rest next g e none same = subst (λ
    (s : State). IsGleaning start caller names s rest) (sym same) (record {
      gleans = g.gleans;
      like = g.like;
      none_held = g.none_held;
      waiting_in_rest = λ m c b h. other_in_rest name m rest (λ f. none c b (ap now.part_at (sym f) ∙ h))
          (subst (λ (l : List (List ℕ)). Contains l m) e (g.waiting_in_rest m c b h));
    })
