-- What holds after each event, and so after any events.
use Rattle.std.proofs.Common.{◌≡◌, ◌≢◌, inl, inr, ℕ, ◌<◌, ◌≤◌, Bool, true, false, List, [], ◌∷◌, ◌++◌, length, get_or}
use Rattle.std.proofs.Common.{min, set, Some, sym, ap, ◌∙◌, subst, arith}
use Rattle.std.specs.Prelude.{slice_index}
use Rattle.std.proofs.lemmas.Bool.{cases_eq, cases_lt}
use Rattle.std.proofs.lemmas.Bool.Decides.{nat_tests}
use Rattle.std.proofs.lemmas.List.{get_or-set_same, get_or-set_other, length-replicate, get_or-replicate, length-set}
use Rattle.cave_model.specs.Plan.{AreDistinct}
use Rattle.set_cover.specs.Instance.{Instance, of_instance}
use Rattle.proof_rules.specs.Tree.{Tree}
use Rattle.proof_rules.specs.Good.{Good, IsCoverOfPiece}
use Rattle.proof_rules.proofs.BoundLemmas.{bounds, piece_serves}
use Rattle.proof_rules.proofs.ListLemmas.{distinct_nil}
use Rattle.proof_tree.specs.Piece.{Fathomed}
use Rattle.proof_tree.specs.declared.branching.Branching.TheVariants.{Cell, Place}
use Rattle.event_core.specs.State.{State, Part, Status, Way, waiting, held, opened, closed, HasPart, IsLeft, IsDone}
use Rattle.event_core.specs.State.{Begins, goal_of}
use Rattle.event_core.specs.Laws.{IsReached, IsAnyCover}
use Rattle.event_core.specs.Sound.{IsSoundState, IsLeftOver, IsLeftFor, HasKids, HasNoBars}
use Rattle.event_core.specs.Events.{MayOpen, MayClose, IsEnabled, Does, Turns, Opens, smaller}
use Rattle.event_core.specs.Plays.{Steps, Plays}
use Rattle.event_core.specs.declared.event.Event.{Event}
use Rattle.event_core.specs.declared.event.Event.TheVariants.{Look, Offer, Take, Open, Pick, Close, Leave}
use Rattle.event_core.proofs.StateLemmas.{AreSame, same_parts, not_none, waiting_not_closed, held_not_closed}
use Rattle.event_core.proofs.StateLemmas.{waiting_not_opened, held_not_opened, closed_not_opened, same_closed}
use Rattle.event_core.proofs.TurnLemmas as turning
use Rattle.event_core.proofs.OpenLemmas as opening

abbrev cov : State → (List ℕ → List ℕ → List ℕ → Type 0)
cov state = λ c b places. IsCoverOfPiece (of_instance state.region) state.region.cells c b places

-- ---- looks and offers

module _ (old : State) (best seen : List ℕ) where
  -- the pieces stay
  abbrev but_pieces : State
  but_pieces = record old { best = best; seen = seen }

  over_stays : (places : List ℕ) → IsLeftOver old places → IsLeftOver but_pieces places
  over_stays places l = record {
    name = l.name;
    chosen = l.chosen;
    barred = l.barred;
    status = l.status;
    there = l.there;
    left = l.left;
    cover = l.cover;
    no_more = l.no_more;
    covers = l.covers;
  }

  for_stays : (places : List ℕ) → IsLeftFor old places → IsLeftFor but_pieces places
  for_stays places l = record {
    name = l.name;
    chosen = l.chosen;
    barred = l.barred;
    status = l.status;
    there = l.there;
    left = l.left;
    covers = l.covers;
  }

  kids_stay : (m c b : List ℕ) (way : Way) → HasKids old m c b way → HasKids but_pieces m c b way
  kids_stay m c b way k = record {
    opens = record { dominated = k.opens.dominated; may = k.opens.may };
    places = k.places;
    all = k.all;
    there = k.there;
    no_more = k.no_more;
  }

  -- where the goal grows no larger, and each worker saw no less, the state stays sound
  still_sound : goal_of but_pieces ≤ goal_of old
      → ((worker : ℕ) → worker < length seen → goal_of but_pieces ≤ slice_index seen worker)
      → IsSoundState old → IsSoundState but_pieces
  still_sound le saw sound = record {
    seen = saw;
    rooted = sound.rooted;
    parents = sound.parents;
    distinct = sound.distinct;
    covered = λ places covers lt. over_stays places (sound.covered places covers (omega (arith, le, lt)));
    exact = λ none places covers lt. for_stays places
        (sound.exact (λ m c b way h. none m c b way h) places covers (omega (arith, le, lt)));
    reached = λ m c b floor tree h. omega (arith, le, sound.reached m c b floor tree h);
    proved = sound.proved;
    kids = λ m c b way h. kids_stay m c b way (sound.kids m c b way h);
  }

-- a look keeps the state sound
pub look_sound : (old : State) (worker : ℕ) → worker < length old.seen → IsSoundState old
    → IsSoundState (record old { seen = set old.seen worker (goal_of old) })
look_sound old worker lt sound = still_sound old old.best (set old.seen worker (goal_of old)) (omega arith)
    (λ other inside. elim (cases_eq other worker) [
      | inl e ↦ (let at = get_or-set_same old.seen worker (goal_of old) 0 lt in
          subst (λ (v : ℕ). goal_of old ≤ get_or (set old.seen worker (goal_of old)) v 0) (sym e)
          (omega (arith, at)))
      | inr ne ↦ (let at = get_or-set_other old.seen worker other (goal_of old) 0 ne in
          let was = sound.seen other (omega (arith, inside, length-set old.seen worker (goal_of old))) in
          omega (arith, at))
    ]) sound

-- so does a cover that is no larger than the best
pub better_sound : (old : State) (best : List ℕ) → length best ≤ length old.best → IsSoundState old
    → IsSoundState (record old { best = best })
better_sound old best le sound = still_sound old best old.seen (omega (arith, le))
    (λ worker inside. omega (arith, le, sound.seen worker inside)) sound

-- the smaller of two covers is no larger than the best
pub not_larger : (new old : List ℕ) → length (smaller new old) ≤ length old
not_larger new old = grind (arith, nat_tests)

-- ---- pieces

-- so does a turn of a piece that is left, where what it says of it is true
turn_sound : (old : State) (n : List ℕ) (status : Status) (new : State) (c b : List ℕ) (was : Status) → IsSoundState old
    → Turns old n status new → HasPart old n c b was → IsLeft was
    → ((way : Way) → status ≢ opened way)
    → ((places : List ℕ) → length places < goal_of old → cov old c b places → IsLeft status)
    → ((floor : ℕ) (tree : Tree) → status ≡ closed floor tree → goal_of old ≤ floor)
    → ((floor : ℕ) (tree : Tree) → status ≡ closed floor tree
    → Good (of_instance old.region) old.region.cells c b floor tree) → IsSoundState new
turn_sound old n status new c b was sound t is left no_way still reach prove =
    subst IsSoundState (sym t.kept) (turning.turned_sound old new.part_at n c b was status sound is left
    (t.here c b was is) t.others no_way still reach prove)

-- a piece that is left may wait
wait_sound : (old : State) (n : List ℕ) (new : State) (c b : List ℕ) (was : Status) → IsSoundState old
    → Turns old n waiting new → HasPart old n c b was → IsLeft was → IsSoundState new
wait_sound old n new c b was sound t is left = turn_sound old n waiting new c b was sound t is left
    (λ way e. waiting_not_opened way e) (λ places lt covers. tt) (λ floor tree e. waiting_not_closed floor tree e)
    (λ floor tree e. waiting_not_closed floor tree e)

-- and may be held
hold_sound : (old : State) (n : List ℕ) (w : ℕ) (new : State) (c b : List ℕ) (was : Status) → IsSoundState old
    → Turns old n (held w) new → HasPart old n c b was → IsLeft was → IsSoundState new
hold_sound old n w new c b was sound t is left = turn_sound old n (held w) new c b was sound t is left
    (λ way e. held_not_opened w way e) (λ places lt covers. tt) (λ floor tree e. held_not_closed w floor tree e)
    (λ floor tree e. held_not_closed w floor tree e)

-- a piece that a worker may close may be closed
close_sound : (old : State) (w : ℕ) (k : Fathomed) (new : State) → IsSoundState old → MayClose old w k
    → Turns old k.piece.name (closed k.floor k.tree) new → IsSoundState new
close_sound old w k new sound may t =
    let c = k.piece.chosen in let b = k.piece.barred in
    let good : Good (of_instance old.region) old.region.cells c b k.floor k.tree =
    subst (λ (r : Instance). Good (of_instance r) r.cells c b k.floor k.tree) may.of_it may.proved in
    let above = sound.seen w may.known in
    turn_sound old k.piece.name (closed k.floor k.tree) new c b (held w) sound t may.holds tt
    (λ way e. closed_not_opened k.floor k.tree way e)
    (λ places lt covers. (let floor = bounds (of_instance old.region) old.region.cells c b k.tree k.floor places
    (sound.distinct k.piece.name c b (held w) may.holds) good
    (piece_serves (of_instance old.region) old.region.cells c b places covers) in let reaches = may.reaches in
    absurd (omega arith)))
    (λ floor tree e. (let s = same_closed k.floor floor k.tree tree e in let x = s.0 in let reaches = may.reaches in
    omega arith))
    (λ floor tree e. (let s = same_closed k.floor floor k.tree tree e in
    subst (λ (x : ℕ). Good (of_instance old.region) old.region.cells c b x tree)
    s.0 (subst (λ (x : Tree). Good (of_instance old.region) old.region.cells c b k.floor x) s.1 good)))

-- a piece that may be opened may be
open_sound : (old : State) (n : List ℕ) (way : Way) (new : State) → IsSoundState old → MayOpen old n way
    → Opens old n way new → IsSoundState new
open_sound old n way new sound may o =
    let p = o.parted may.chosen may.barred may.status may.there in
    subst IsSoundState (sym o.kept) (opening.opened_sound old new.part_at n may.chosen may.barred may.status way
    p.0 sound
    may.there may.left may.opens p.1
    (record { here = p.2.here; kids = p.2.kids; others = p.2.others }))

-- each enabled event keeps the state sound
pub does_sound : (old : State) (event : Event) (new : State) → IsSoundState old → IsEnabled old event
    → Does old event new
    → IsSoundState new
does_sound old (Look w) new sound may does = subst IsSoundState (sym does) (look_sound old w may sound)
does_sound old (Offer w cover) new sound may does = subst IsSoundState (sym does)
    (better_sound old (smaller cover.places old.best) (not_larger cover.places old.best) sound)
does_sound old (Take w n) new sound may does = hold_sound old n w new may.chosen may.barred waiting sound does
    may.waits tt
does_sound old (Open n bars cell) new sound may does =
    open_sound old n (record { bars = bars; on = Cell cell }) new sound may does
does_sound old (Pick n bars place) new sound may does =
    open_sound old n (record { bars = bars; on = Place place }) new sound may does
does_sound old (Close w k) new sound may does = close_sound old w k new sound may does
does_sound old (Leave w n) new sound may does = wait_sound old n new may.chosen may.barred (held w) sound does
    may.holds tt

-- so does each event that is tried
pub step_sound : (old : State) (event : Event) (done : Bool) (new : State) → IsSoundState old → Steps old event done new
    → IsSoundState new
step_sound old event true new sound s = does_sound old event new sound s.0 s.1
step_sound old event false new sound s = subst IsSoundState (sym s.1) sound

-- ---- from the start

-- the first state is sound
pub begin_sound : (region : Instance) (places : List ℕ) (aim workers : ℕ) (state : State)
    → Begins region places aim workers state → IsSoundState state
begin_sound region places aim workers state s = record {
  seen = λ worker inside. (let e = ap (λ (xs : List ℕ). get_or xs worker 0) s.seen in let l = ap length s.seen in
      let m = length-replicate workers (min aim (length places)) in
      let v = get_or-replicate workers worker (min aim (length places)) 0 (omega arith) in let b = ap length s.best in
      let a = s.aimed in omega arith);
  rooted = (waiting, s.root);
  parents = λ n i p h. no_kid n i p h;
  distinct = λ n c b st h. subst AreDistinct (only n c b st h).chosen distinct_nil;
  covered = λ cover covers lt. record {
    name = [];
    chosen = [];
    barred = [];
    status = waiting;
    there = s.root;
    left = tt;
    cover = cover;
    no_more = omega arith;
    covers = covers;
  };
  exact = λ none cover covers lt. record {
    name = [];
    chosen = [];
    barred = [];
    status = waiting;
    there = s.root;
    left = tt;
    covers = covers;
  };
  reached = λ n c b floor tree h. waiting_not_closed floor tree (only n c b (closed floor tree) h).status;
  proved = λ n c b floor tree h. waiting_not_closed floor tree (only n c b (closed floor tree) h).status;
  kids = λ n c b way h. waiting_not_opened way (only n c b (opened way) h).status;
}
  where
    no_kid : {A : Type 0} (n : List ℕ) (i : ℕ) (p : Part) → state.part_at (n ++ i ∷ []) ≡ Some p → A
    no_kid [] i p h = not_none p (sym (s.alone i []) ∙ h)
    no_kid (k ∷ ks) i p h = not_none p (sym (s.alone k (ks ++ i ∷ [])) ∙ h)

    only : (n c b : List ℕ) (st : Status) → HasPart state n c b st → AreSame [] [] waiting c b st
    only [] c b st h = same_parts state [] [] [] c b waiting st s.root h
    only (k ∷ ks) c b st h = not_none (record { chosen = c; barred = b; status = st }) (sym (s.alone k ks) ∙ h)

-- a play of events keeps the state sound
pub plays_sound : (old : State) (events : List Event) (new : State) → IsSoundState old → Plays old events new
    → IsSoundState new
plays_sound old [] new sound p = subst IsSoundState (sym p) sound
plays_sound old (event ∷ events) new sound p = plays_sound p.1 events new (step_sound old event p.0 p.1 sound p.2) p.3

-- the region stays
does_region : (old : State) (event : Event) (new : State) → Does old event new → new.region ≡ old.region
does_region old (Look w) new does = ap (λ (s : State). s.region) does
does_region old (Offer w cover) new does = ap (λ (s : State). s.region) does
does_region old (Take w n) new does = ap (λ (s : State). s.region) does.kept
does_region old (Open n bars cell) new does = ap (λ (s : State). s.region) does.kept
does_region old (Pick n bars place) new does = ap (λ (s : State). s.region) does.kept
does_region old (Close w k) new does = ap (λ (s : State). s.region) does.kept
does_region old (Leave w n) new does = ap (λ (s : State). s.region) does.kept

-- an event that is tried keeps the region
step_region : (old : State) (event : Event) (done : Bool) (new : State) → Steps old event done new
    → new.region ≡ old.region
step_region old event true new s = does_region old event new s.1
step_region old event false new s = ap (λ (t : State). t.region) s.1

-- so does a play
pub plays_region : (old : State) (events : List Event) (new : State) → Plays old events new → new.region ≡ old.region
plays_region old [] new p = ap (λ (s : State). s.region) p
plays_region old (event ∷ events) new p = plays_region p.1 events new p.3 ∙ step_region old event p.0 p.1 p.2

-- ---- after any events

-- each state that is reached is sound
pub reached_sound : (region : Instance) (events : List Event) (state : State) → IsReached region events state
    → IsSoundState state
reached_sound region events state r = plays_sound r.start events state
    (begin_sound region r.first r.aim r.workers r.start r.begins) r.plays

-- and is of the region
pub reached_region : (region : Instance) (events : List Event) (state : State) → IsReached region events state
    → state.region ≡ region
reached_region region events state r = plays_region r.start events state r.plays ∙ r.begins.of_it

-- a cover of the region is one of the state's
any_cover : (region : Instance) (events : List Event) (state : State) (places : List ℕ)
    → IsReached region events state → IsAnyCover region places → IsAnyCover state.region places
any_cover region events state places r covers =
    subst (λ (x : Instance). IsAnyCover x places) (sym (reached_region region events state r)) covers

-- for a cover below the goal one of no more places is left over in some piece
pub reached_left : (region : Instance) (events : List Event) (state : State) (places : List ℕ)
    → IsReached region events state → IsAnyCover region places → length places < goal_of state
    → IsLeftOver state places
reached_left region events state places r covers lt = (reached_sound region events state r).covered places
    (any_cover region events state places r covers) lt

-- that very cover, where there are no bars
pub reached_exact : (region : Instance) (events : List Event) (state : State) (places : List ℕ)
    → IsReached region events state → HasNoBars state → IsAnyCover region places → length places < goal_of state
    → IsLeftFor state places
reached_exact region events state places r none covers lt = (reached_sound region events state r).exact none places
    (any_cover region events state places r covers) lt

-- where all is done no cover is below the goal
pub reached_goal : (region : Instance) (events : List Event) (state : State) (places : List ℕ)
    → IsReached region events state → IsDone state → IsAnyCover region places → goal_of state ≤ length places
reached_goal region events state places r done covers = elim (cases_lt (length places) (goal_of state)) [
  | inl lt ↦ (let l = reached_left region events state places r covers lt in
      absurd (done l.name l.chosen l.barred l.status l.there l.left))
  | inr le ↦ le
]

-- nor smaller than the best, where that is no larger than the aim
pub reached_best : (region : Instance) (events : List Event) (state : State) (places : List ℕ)
    → IsReached region events state → IsDone state → length state.best ≤ state.aim → IsAnyCover region places
    → length state.best ≤ length places
reached_best region events state places r done within covers =
    omega (arith, within, reached_goal region events state places r done covers)

-- an opened piece has a kid for each place that may light its cell
pub reached_kids : (region : Instance) (events : List Event) (state : State) (name chosen barred : List ℕ) (way : Way)
    → IsReached region events state → HasPart state name chosen barred (opened way)
    → HasKids state name chosen barred way
reached_kids region events state name chosen barred way r h = (reached_sound region events state r).kids name chosen
    barred way h
