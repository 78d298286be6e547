-- What workers hold while their works are played: nothing between one piece and the next.
use Rattle.std.proofs.Common.{◌≡◌, ◌≢◌, ◌⊎◌, inl, inr, ℕ, zero, suc, ◌+◌, ◌<◌, Bool, true, false, List, [], ◌∷◌, ◌++◌}
use Rattle.std.proofs.Common.{length, Some, None, Option}
use Rattle.std.proofs.Common.{refl, sym, ap, ◌∙◌, subst}
use Rattle.std.specs.Prelude.{if◌then◌else◌, eqb}
use Rattle.set_cover.specs.Instance.{Instance}
use Rattle.instance_regions.specs.Cover.{Covering}
use Rattle.proof_tree.specs.Piece.{Fathomed}
use Rattle.proof_tree.specs.Opened.{Split, steps_on}
use Rattle.event_core.specs.State.{State, Status, Way, waiting, held, opened, closed, HasPart, Begins}
use Rattle.event_core.specs.Events.{Turns, Opens, MayOpen}
use Rattle.event_core.specs.Plays.{Steps, Plays}
use Rattle.event_core.specs.declared.event.Event.TheVariants.{Look, Offer, Take, Close, Leave}
use Rattle.event_core.proofs.MoveLemmas.{opening_does, opening_enabled}
use Rattle.event_core.proofs.NameLemmas.{same_or_not, kid_or_not}
use Rattle.event_core.proofs.StateLemmas.{same_parts, not_none, held_not_closed, held_not_opened}
use Rattle.event_core.proofs.WaitingLemmas.{waiting_not_held}
use Rattle.schedule_law.specs.Worked.{Worked}
use Rattle.schedule_law.specs.Joined.{all_opened}
use Rattle.schedule_law.specs.Listing.{longest_name, opening_of, offer_of, offers, looks}
use Rattle.schedule_law.proofs.TurnLemmas.{way_of}
use Rattle.gathering.specs.Playing.{tries_open, tries_one, tries_as_long, tries, tries_below, tries_before_closes}
use Rattle.gathering.specs.Playing.{TriesClose, TriesCloses, TriesAllCloses}
use Rattle.gathering.specs.Gleaning.{NoneHeld}
use Rattle.gathering.proofs.PlayLemmas.{plays_split}

abbrev holder : Status → ℕ
holder waiting = 0
holder (held worker) = worker
holder (opened way) = 0
holder (closed floor tree) = 0

-- a piece is held by one worker
pub same_holder : (x y : ℕ) → held x ≡ held y → x ≡ y
same_holder x y e = ap holder e

-- ---- where a piece gets another status

-- a part of a state after a turn was there before, or is the one that turned
pub turned_back : (old : State) (name c b : List ℕ) (was status : Status) (new : State) → HasPart old name c b was
    → Turns old name status new
    → (m c2 b2 : List ℕ) (s : Status) → HasPart new m c2 b2 s → ((m ≡ name) × (status ≡ s)) ⊎
    ((m ≢ name) × HasPart old m c2 b2 s)
turned_back old name c b was status new is t m c2 b2 s h = elim (same_or_not m name) [
  | inl e ↦ inl (e, (same_parts new name c b c2 b2 status s (t.here c b was is) (ap new.part_at (sym e) ∙ h)).status)
  | inr ne ↦ inr (ne, sym (t.others m ne) ∙ h)
]

-- what is held once a piece is opened was held before
opened_back : (old : State) (name : List ℕ) (way : Way) (new : State) → MayOpen old name way → Opens old name way new
    → (m c b : List ℕ) (w : ℕ) → HasPart new m c b (held w) → HasPart old m c b (held w)
opened_back old name way new may o m c b w h =
    let p = o.parted may.chosen may.barred may.status may.there in
    elim (same_or_not m name) [
      | inl e ↦ held_not_opened w way (sym (same_parts new name may.chosen may.barred c b (opened way)
          (held w) p.2.here (ap new.part_at (sym e) ∙ h)).status)
      | inr ne ↦ elim (kid_or_not name m (length (steps_on way.on p.0))) [
        | inl k ↦ waiting_not_held w (same_parts new (name ++ k.0 ∷ []) _ _ c b waiting (held w) (p.2.kids k.0 k.1)
            (ap new.part_at (sym k.2) ∙ h)).status
        | inr none_of ↦ sym (p.2.others m ne none_of) ∙ h
      ]
    ]

-- ---- one piece after another

-- at most this piece is held, and by this worker
pub record HeldOnly (worker : ℕ) (name : List ℕ) (state : State) : Type 0 where
  pub piece : (m c b : List ℕ) (w : ℕ) → HasPart state m c b (held w) → m ≡ name
  pub by : (m c b : List ℕ) (w : ℕ) → HasPart state m c b (held w) → w ≡ worker
  pub known : (m c b : List ℕ) (w : ℕ) → HasPart state m c b (held w) → worker < length state.seen

-- where none is held, at most the one is
none_only : (w : ℕ) (name : List ℕ) (state : State) → NoneHeld state → HeldOnly w name state
none_only w name state none = record {
  piece = λ m c b v h. absurd (none m c b v h);
  by = λ m c b v h. absurd (none m c b v h);
  known = λ m c b v h. absurd (none m c b v h);
}

-- after a worker took a piece, that one alone is held
taken_held : (w : ℕ) (name : List ℕ) (old new : State) (done : Bool) → NoneHeld old → Steps old (Take w name) done new
    → HeldOnly w name new
taken_held w name old new true none s =
    let may = s.0 in let t = s.1 in
    let back = turned_back old name may.chosen may.barred waiting (held w) new may.waits t in
    let known : w < length new.seen = subst (λ (n : State). w < length n.seen) (sym t.kept) may.known in
    record {
      piece = λ m c b v h. elim (back m c b (held v) h) [ inl e ↦ e.0 | inr o ↦ absurd (none m c b v o.1) ];
      by = λ m c b v h. elim (back m c b (held v) h) [
        | inl e ↦ sym (same_holder w v e.1)
        | inr o ↦ absurd
            (none m c b v o.1)
      ];
      known = λ m c b v h. known;
    }
taken_held w name old new false none s = none_only w name new (subst NoneHeld (sym s.1) none)

-- what is held was held before
pub record IsHeldBefore (old new : State) : Type 0 where
  pub back : (m c b : List ℕ) (w : ℕ) → HasPart new m c b (held w) → HasPart old m c b (held w)
  pub seen : length new.seen ≡ length old.seen

-- a step by which nothing comes to be held leaves the one held at most
before_only : (w : ℕ) (name : List ℕ) (old new : State) → IsHeldBefore old new → HeldOnly w name old
    → HeldOnly w name new
before_only w name old new before only = record {
  piece = λ m c b v h. only.piece m c b v (before.back m c b v h);
  by = λ m c b v h. only.by m c b v (before.back m c b v h);
  known = λ m c b v h. subst (λ (n : ℕ). w < n) (sym before.seen) (only.known m c b v (before.back m c b v h));
}

-- a state that stays holds what it held
before_same : (old new : State) → new ≡ old → IsHeldBefore old new
before_same old new e = subst (IsHeldBefore old) (sym e) (record { back = λ m c b w h. h; seen = refl })

-- after a piece is opened, what is held was held before
opened_before : (split : Split) (old new : State) (done : Bool) → Steps old (opening_of split) done new
    → IsHeldBefore old new
opened_before split old new true s =
    let name = split.piece.name in
    let may = (opening_enabled old name split.bars split.on).1 s.0 in
    let opens = (opening_does old name split.bars split.on new).1 s.1 in record {
      back = opened_back old name (way_of split) new may opens;
      seen = ap (λ (n : State). length n.seen) opens.kept;
    }
opened_before split old new false s = before_same old new s.1

-- and after one is closed
closed_before : (w : ℕ) (k : Fathomed) (old new : State) (done : Bool) → Steps old (Close w k) done new
    → IsHeldBefore old new
closed_before w k old new true s =
    let may = s.0 in record {
      back = λ m c b v h. elim (turned_back old k.piece.name k.piece.chosen k.piece.barred (held w)
          (closed k.floor k.tree) new may.holds s.1 m c b (held v) h) [
            | inl e ↦ held_not_closed v k.floor k.tree (sym e.1)
            | inr o ↦ o.1
          ];
      seen = ap (λ (n : State). length n.seen) s.1.kept;
    }
closed_before w k old new false s = before_same old new s.1

-- after the worker left the piece, none is held
left_free : (w : ℕ) (name : List ℕ) (old new : State) (done : Bool) → HeldOnly w name old
    → Steps old (Leave w name) done new → NoneHeld new
left_free w name old new true only s = λ m c b v h. (let may = s.0 in
    elim (turned_back old name may.chosen may.barred (held w) waiting new may.holds s.1 m c b (held v) h) [
      | inl e ↦ waiting_not_held v e.1
      | inr o ↦ o.0 (only.piece m c b v o.1)
    ])
left_free w name old new false only s = λ m c b v h. (
    let there : HasPart old m c b (held v) = subst (λ (n : State). HasPart n m c b (held v)) s.1 h in
    s.0 (record {
      known = only.known m c b v there;
      chosen = c;
      barred = b;
      holds = ap old.part_at (sym (only.piece m c b v there)) ∙ there
          ∙ ap (λ (x : ℕ). Some (record { chosen = c; barred = b; status = held x })) (only.by m c b v there);
    }))

-- ---- what is opened, offered and seen

-- a worker that takes, opens and leaves a piece holds none
free_open : (w : ℕ) (split : Split) (old new : State) → NoneHeld old → Plays old (tries_open w split) new → NoneHeld new
free_open w split old new none p =
    let name = split.piece.name in let q = p.3 in let r = q.3 in
    let only = taken_held w name old p.1 p.0 none p.2 in
    let still = before_only w name p.1 q.1 (opened_before split p.1 q.1 q.0 q.2) only in
    subst NoneHeld (sym r.3) (left_free w name q.1 r.1 r.0 still r.2)

-- no piece is held after a worker tried to open one, or didn't since its name has another length
free_if : (long : Bool) (w : ℕ) (split : Split) (old new : State) → NoneHeld old
    → Plays old (if long then tries_open w split else []) new → NoneHeld new
free_if true w split old new none p = free_open w split old new none p
free_if false w split old new none p = subst NoneHeld (sym p) none

-- nor after it tried to open pieces in turn
free_as_long : (size w : ℕ) (splits : List Split) (old new : State) → NoneHeld old
    → Plays old (tries_as_long size w splits) new → NoneHeld new
free_as_long size w [] old new none p = subst NoneHeld (sym p) none
free_as_long size w (split ∷ splits) old new none p =
    let q = plays_split old (tries_one size w split) (tries_as_long size w splits) new p in
    free_as_long size w splits q.0 new (free_if (eqb (length split.piece.name) size) w split old q.0 none q.1.0) q.1.1

-- nor after all workers did
free_tries : (size w : ℕ) (works : List Worked) (old new : State) → NoneHeld old → Plays old (tries size w works) new
    → NoneHeld new
free_tries size w [] old new none p = subst NoneHeld (sym p) none
free_tries size w (work ∷ works) old new none p =
    let q = plays_split old (tries_as_long size w work.opened) (tries size (w + 1) works) new p in
    free_tries size (w + 1) works q.0 new (free_as_long size w work.opened old q.0 none q.1.0) q.1.1

-- an offer leaves none held
free_offer : (w : ℕ) (cover : Option Covering) (old new : State) → NoneHeld old → Plays old (offer_of w cover) new
    → NoneHeld new
free_offer w None old new none p = subst NoneHeld (sym p) none
free_offer w (Some cover) old new none p = subst NoneHeld (sym p.3) (offered w cover old p.1 p.0 none p.2)
  where
    offered : (w : ℕ) (cover : Covering) (old new : State) (done : Bool) → NoneHeld old
        → Steps old (Offer w cover) done new → NoneHeld new
    offered w cover old new true none s = subst NoneHeld (sym s.1) none
    offered w cover old new false none s = subst NoneHeld (sym s.1) none

-- nor do the offers of all workers
free_offers : (w : ℕ) (works : List Worked) (old new : State) → NoneHeld old → Plays old (offers w works) new
    → NoneHeld new
free_offers w [] old new none p = subst NoneHeld (sym p) none
free_offers w (work ∷ works) old new none p =
    let q = plays_split old (offer_of w work.cover) (offers (w + 1) works) new p in
    free_offers (w + 1) works q.0 new (free_offer w work.cover old q.0 none q.1.0) q.1.1

-- a look leaves none held
free_look : (w : ℕ) (old new : State) (done : Bool) → NoneHeld old → Steps old (Look w) done new → NoneHeld new
free_look w old new true none s = subst NoneHeld (sym s.1) none
free_look w old new false none s = subst NoneHeld (sym s.1) none

-- nor do the looks of all workers
free_looks : (w : ℕ) (works : List Worked) (old new : State) → NoneHeld old → Plays old (looks w works) new
    → NoneHeld new
free_looks w [] old new none p = subst NoneHeld (sym p) none
free_looks w (work ∷ works) old new none p = free_looks (w + 1) works p.1 new (free_look w old p.1 p.0 none p.2) p.3

-- nor do workers that open pieces in turn
free_tries_below : (size : ℕ) (works : List Worked) (old new : State) → NoneHeld old
    → Plays old (tries_below size works) new → NoneHeld new
free_tries_below zero works old new none p = subst NoneHeld (sym p) none
free_tries_below (suc size) works old new none p =
    let q = plays_split old (tries_below size works) (tries size 0 works) new p in
    free_tries size 0 works q.0 new (free_tries_below size works old q.0 none q.1.0) q.1.1

-- after all that comes before closing none is held
pub free_before_closes : (works : List Worked) (old new : State) → NoneHeld old
    → Plays old (tries_before_closes works) new → NoneHeld new
free_before_closes works old new none p =
    let most = longest_name (all_opened works) + 1 in
    let looked = plays_split old (tries_below most works ++ offers 0 works) (looks 0 works) new p in
    let offered = plays_split old (tries_below most works) (offers 0 works) looked.0 looked.1.0 in
    let opened = free_tries_below most works old offered.0 none offered.1.0 in
    free_looks 0 works looked.0 new (free_offers 0 works offered.0 looked.0 opened offered.1.1) looked.1.1

-- ---- what is closed

-- a worker that takes, closes and leaves a piece holds none
free_close : (w : ℕ) (k : Fathomed) (done : Bool) (old new : State) → NoneHeld old → TriesClose old w k done new
    → NoneHeld new
free_close w k done old new none t =
    let name = k.piece.name in
    let only = taken_held w name old t.taken t.took none t.takes in
    let still = before_only w name t.taken t.tried (closed_before w k t.taken t.tried done t.closes) only in
    left_free w name t.tried new t.left still t.leaves

-- nor after it tried to close pieces in turn
free_closes : (w : ℕ) (pieces : List Fathomed) (count : ℕ) (old new : State) → NoneHeld old
    → TriesCloses old w pieces count new → NoneHeld new
free_closes w [] count old new none t = subst NoneHeld (sym t.1) none
free_closes w (k ∷ ks) count old new none (done, next, one, others, sum, rest) = free_closes w ks others next new
    (free_close w k done old next none one) rest

-- nor after all workers did
pub free_all_closes : (w : ℕ) (works : List Worked) (counts : List ℕ) (old new : State) → NoneHeld old
    → TriesAllCloses old w works counts new → NoneHeld new
free_all_closes w [] counts old new none t = subst NoneHeld (sym t.1) none
free_all_closes w (work ∷ works) counts old new none (count, others, is, next, one, rest) =
    free_all_closes (w + 1) works others next new (free_closes w work.closed count old next none one) rest

-- ---- at first

-- at the start none is held
pub free_at_first : (region : Instance) (places : List ℕ) (aim workers : ℕ) (state : State)
    → Begins region places aim workers state → NoneHeld state
free_at_first region places aim workers state s [] c b w h = waiting_not_held w (same_parts state [] [] [] c b waiting
    (held w) s.root h).status
free_at_first region places aim workers state s (k ∷ ks) c b w h = not_none
    (record { chosen = c; barred = b; status = held w }) (sym (s.alone k ks) ∙ h)
