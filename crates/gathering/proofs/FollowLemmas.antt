-- Where each event of the works' list is enabled, playing the works does it, and leaves nothing.
use Rattle.std.proofs.Common.{◌≡◌, ◌≢◌, ℕ, zero, suc, ◌+◌, Bool, true, false, eqb, List, [], ◌∷◌, ◌++◌, length, map}
use Rattle.std.proofs.Common.{if◌then◌else◌, Option, Some, None, refl, sym, ap, ◌∙◌, subst, arith, append_assoc}
use Rattle.std.proofs.Common.{length-append}
use Rattle.instance_regions.specs.Cover.{Covering}
use Rattle.proof_tree.specs.Piece.{Fathomed}
use Rattle.proof_tree.specs.Opened.{Split}
use Rattle.event_core.specs.State.{State, waiting, held, opened, closed}
use Rattle.event_core.specs.Events.{IsEnabled, MayTake, MayClose, Turns, Opens}
use Rattle.event_core.specs.Plays.{Steps, Plays}
use Rattle.event_core.specs.declared.event.Event.{Event}
use Rattle.event_core.specs.declared.event.Event.TheVariants.{Look, Offer, Take, Close, Leave}
use Rattle.event_core.proofs.MoveLemmas.{opening_does}
use Rattle.event_core.proofs.StateLemmas.{same_parts, held_not_opened, held_not_closed, waiting_not_closed}
use Rattle.schedule_law.specs.Worked.{Worked}
use Rattle.schedule_law.specs.Joined.{all_closed}
use Rattle.schedule_law.specs.Listing.{opening_of, opens_as_long, opens, opens_below, offer_of, offers, looks}
use Rattle.schedule_law.specs.Listing.{closes, closes_of, AllEnabled}
use Rattle.schedule_law.proofs.LongLemmas.{as_long, all_as_long, in_turn}
use Rattle.schedule_law.proofs.TurnLemmas.{way_of}
use Rattle.gathering.specs.Playing.{tries_open, tries_as_long, tries, tries_below, one_if, TriesClose, TriesCloses}
use Rattle.gathering.specs.Playing.{TriesAllCloses}
use Rattle.gathering.specs.Gathered.{GleansOne, Gleans}
use Rattle.gathering.proofs.PlayLemmas.{plays_split}
use Rattle.gathering.proofs.GleanLemmas.{step_done}
use Rattle.gathering.proofs.WaitLemmas.{IsGone, AllGone, all_gone-append}

-- an event that isn't enabled changes nothing
step_passed : (old : State) (event : Event) (done : Bool) (new : State) → ¬ IsEnabled old event
    → Steps old event done new → new ≡ old
step_passed old event true new not s = absurd (not s.0)
step_passed old event false new not s = s.1

-- what comes after enabled events is enabled once they were played
pub enabled_after : (events rest : List Event) (old new : State) → AllEnabled old (events ++ rest)
    → Plays old events new → AllEnabled new rest
enabled_after [] rest old new e p = subst (λ (s : State). AllEnabled s rest) (sym p) e
enabled_after (event ∷ events) rest old new e p =
    let s = step_done old event p.0 p.1 e.0 p.2 in
    enabled_after events rest p.1 new (e.1 p.1 s.1) p.3

-- ---- pieces that are opened

-- a worker takes the piece and opens it
pub record IsOpened (old : State) (split : Split) (new : State) : Type 0 where
  pub worker : ℕ
  pub taken : State
  pub may : MayTake old worker split.piece.name
  pub takes : Turns old split.piece.name (held worker) taken
  pub opens : Opens taken split.piece.name (way_of split) new

-- workers take pieces in turn and open them
abbrev pub AllOpened : State → List Split → State → Type 0
AllOpened old [] new = new ≡ old
AllOpened old (s ∷ ss) new = (next : State) × IsOpened old s next × AllOpened next ss new

-- pieces that are opened after others
pub all_opened-append : (a : State) (xs ys : List Split) (b c : State) → AllOpened a xs b → AllOpened b ys c
    → AllOpened a (xs ++ ys) c
all_opened-append a [] ys b c p q = subst (λ (s : State). AllOpened s ys c) p q
all_opened-append a (x ∷ xs) ys b c (next, one, rest) q = (next, one, all_opened-append next xs ys b c rest q)

-- pieces were opened, and what comes after is enabled
pub record IsOpenedTo (old : State) (splits : List Split) (new : State) (rest : List Event) : Type 0 where
  pub opened_all : AllOpened old splits new
  pub enabled : AllEnabled new rest

-- a piece that is taken and opened can't be left
follow_open : (w : ℕ) (s : Split) (rest : List Event) (old new : State)
    → AllEnabled old (Take w s.piece.name ∷ opening_of s ∷ rest) → Plays old (tries_open w s) new
    → IsOpenedTo old (s ∷ []) new rest
follow_open w s rest old new e p =
    let name = s.piece.name in
    let q = p.3 in
    let r = q.3 in
    let may = e.0 in
    let t = step_done old (Take w name) p.0 p.1 may p.2 in
    let e1 = e.1 p.1 t.1 in
    let o = step_done p.1 (opening_of s) q.0 q.1 e1.0 q.2 in
    let opens = (opening_does p.1 name s.bars s.on q.1).1 o.1 in
    let parted = opens.parted may.chosen may.barred (held w) (t.1.here may.chosen may.barred waiting may.waits) in
    let passed : r.1 ≡ q.1 = step_passed q.1 (Leave w name) r.0 r.1
    (λ l. held_not_opened w (way_of s) (same_parts q.1 name l.chosen l.barred may.chosen may.barred
    (held w) (opened (way_of s)) l.holds parted.2.here).status) r.2 in
    let is : new ≡ q.1 = r.3 ∙ passed in
    record {
      opened_all = (
        new,
        record {
          worker = w;
          taken = p.1;
          may = may;
          takes = t.1;
          opens = subst (λ (x : State). Opens p.1 name (way_of s) x) (sym is) opens;
        },
        refl,
      );
      enabled = subst (λ (x : State). AllEnabled x rest) (sym is) (e1.1 q.1 o.1);
    }

-- the piece is opened before the others, or passed over
follow_if : (b : Bool) (w : ℕ) (s : Split) (others : List Split) (events tried rest : List Event) (old new : State)
    → ((now : State) → AllEnabled now (events ++ rest) → Plays now tried new → IsOpenedTo now others new rest)
    → AllEnabled old (((if b then Take w s.piece.name ∷ opening_of s ∷ [] else []) ++ events) ++ rest)
    → Plays old ((if b then tries_open w s else []) ++ tried) new
    → IsOpenedTo old (if b then s ∷ others else others) new rest
follow_if true w s others events tried rest old new go e p =
    let parts = plays_split old (tries_open w s) tried new p in
    let one = follow_open w s (events ++ rest) old parts.0 e parts.1.0 in
    let later = go parts.0 one.enabled parts.1.1 in
    record {
      opened_all = all_opened-append old (s ∷ []) others parts.0 new one.opened_all later.opened_all;
      enabled = later.enabled;
    }
follow_if false w s others events tried rest old new go e p = go old e p

-- where all pieces whose names have a length may be opened, trying them opens them
follow_as_long : (size w : ℕ) (ss : List Split) (rest : List Event) (old new : State)
    → AllEnabled old (opens_as_long size w ss ++ rest) → Plays old (tries_as_long size w ss) new
    → IsOpenedTo old (as_long size ss) new rest
follow_as_long size w [] rest old new e p = record {
  opened_all = p;
  enabled = subst (λ (x : State). AllEnabled x rest) (sym p) e;
}
follow_as_long size w (s ∷ ss) rest old new e p =
    follow_if (eqb (length s.piece.name) size) w s (as_long size ss) (opens_as_long size w ss)
    (tries_as_long size w ss) rest old new (λ now f q. follow_as_long size w ss rest now new f q) e p

-- so does trying those of all workers
pub follow_tries : (size w : ℕ) (works : List Worked) (rest : List Event) (old new : State)
    → AllEnabled old (opens size w works ++ rest) → Plays old (tries size w works) new
    → IsOpenedTo old (all_as_long size works) new rest
follow_tries size w [] rest old new e p = record {
  opened_all = p;
  enabled = subst (λ (x : State). AllEnabled x rest) (sym p) e;
}
follow_tries size w (x ∷ xs) rest old new e p =
    let ours = opens_as_long size w x.opened in
    let parts = plays_split old (tries_as_long size w x.opened) (tries size (w + 1) xs) new p in
    let here = follow_as_long size w x.opened (opens size (w + 1) xs ++ rest) old parts.0
    (subst (AllEnabled old) (append_assoc ours (opens size (w + 1) xs) rest) e) parts.1.0 in
    let others = follow_tries size (w + 1) xs rest parts.0 new here.enabled parts.1.1 in
    record {
      opened_all = all_opened-append old (as_long size x.opened) (all_as_long size xs) parts.0 new
          here.opened_all others.opened_all;
      enabled = others.enabled;
    }

-- and trying those with longer and longer names
pub follow_tries_below : (size : ℕ) (works : List Worked) (rest : List Event) (old new : State)
    → AllEnabled old (opens_below size works ++ rest) → Plays old (tries_below size works) new
    → IsOpenedTo old (in_turn size works) new rest
follow_tries_below zero works rest old new e p = record {
  opened_all = p;
  enabled = subst (λ (x : State). AllEnabled x rest) (sym p) e;
}
follow_tries_below (suc size) works rest old new e p =
    let parts = plays_split old (tries_below size works) (tries size 0 works) new p in
    let low = follow_tries_below size works (opens size 0 works ++ rest) old parts.0
    (subst (AllEnabled old) (append_assoc (opens_below size works) (opens size 0 works) rest) e) parts.1.0 in
    let last = follow_tries size 0 works rest parts.0 new low.enabled parts.1.1 in
    record {
      opened_all = all_opened-append old (in_turn size works) (all_as_long size works) parts.0 new
          low.opened_all last.opened_all;
      enabled = last.enabled;
    }

-- ---- covers and looks leave the pieces

-- no piece changes
abbrev IsSame : State → State → Type 0
IsSame old new = new.part_at ≡ old.part_at

-- an offer, done or not, changes no piece
same_offer : (w : ℕ) (cover : Covering) (old new : State) (done : Bool) → Steps old (Offer w cover) done new
    → IsSame old new
same_offer w cover old new true s = ap (λ (x : State). x.part_at) s.1
same_offer w cover old new false s = ap (λ (x : State). x.part_at) s.1

-- a look, done or not, changes no piece
same_look : (w : ℕ) (old new : State) (done : Bool) → Steps old (Look w) done new → IsSame old new
same_look w old new true s = ap (λ (x : State). x.part_at) s.1
same_look w old new false s = ap (λ (x : State). x.part_at) s.1

-- an offer of the cover that a worker found, if it found one, changes no piece
same_offer_of : (w : ℕ) (cover : Option Covering) (old new : State) → Plays old (offer_of w cover) new
    → IsSame old new
same_offer_of w None old new p = ap (λ (x : State). x.part_at) p
same_offer_of w (Some cover) old new p = ap (λ (x : State). x.part_at) p.3 ∙ same_offer w cover old p.1 p.0 p.2

-- all workers' offers change no piece
pub same_offers : (w : ℕ) (works : List Worked) (old new : State) → Plays old (offers w works) new → IsSame old new
same_offers w [] old new p = ap (λ (x : State). x.part_at) p
same_offers w (x ∷ xs) old new p =
    let parts = plays_split old (offer_of w x.cover) (offers (w + 1) xs) new p in
    same_offers (w + 1) xs parts.0 new parts.1.1 ∙ same_offer_of w x.cover old parts.0 parts.1.0

-- all workers' looks change no piece
pub same_looks : (w : ℕ) (works : List Worked) (old new : State) → Plays old (looks w works) new → IsSame old new
same_looks w [] old new p = ap (λ (x : State). x.part_at) p
same_looks w (x ∷ xs) old new p = same_looks (w + 1) xs p.1 new p.3 ∙ same_look w old p.1 p.0 p.2

-- ---- pieces that are closed

-- a piece that waited and was taken and closed is gone
gone : (w : ℕ) (k : Fathomed) (old taken new : State) → MayTake old w k.piece.name
    → Turns old k.piece.name (held w) taken → MayClose taken w k
    → Turns taken k.piece.name (closed k.floor k.tree) new → IsGone old k.piece.name new
gone w k old taken new may takes may_close closes = record {
  chosen = may.chosen;
  barred = may.barred;
  waited = may.waits;
  past = λ c b h. waiting_not_closed k.floor k.tree (same_parts new k.piece.name c b k.piece.chosen k.piece.barred
      waiting (closed k.floor k.tree) h
      (closes.here k.piece.chosen k.piece.barred (held w) may_close.holds)).status;
  others = λ m ne. closes.others m ne ∙ takes.others m ne;
}

-- it was closed, and what comes after is enabled
record IsClosedTo (old : State) (closed : Fathomed) (done : Bool) (new : State) (rest : List Event) : Type 0 where
  pub is_done : one_if done ≡ 1
  pub is_gone : IsGone old closed.piece.name new
  pub enabled : AllEnabled new rest

-- a close that is enabled counts
close_done : (old : State) (event : Event) (done : Bool) (new : State) → IsEnabled old event
    → Steps old event done new → one_if done ≡ 1
close_done old event true new may s = refl
close_done old event false new may s = absurd (s.0 may)

-- a piece that is taken and closed can't be left
follow_close : (w : ℕ) (k : Fathomed) (rest : List Event) (old : State) (done : Bool) (new : State)
    → AllEnabled old (Take w k.piece.name ∷ Close w k ∷ rest) → TriesClose old w k done new
    → IsClosedTo old k done new rest
follow_close w k rest old done new e t =
    let name = k.piece.name in
    let takes = step_done old (Take w name) t.took t.taken e.0 t.takes in
    let e1 = e.1 t.taken takes.1 in
    let closes = step_done t.taken (Close w k) done t.tried e1.0 t.closes in
    let here = closes.1.here k.piece.chosen k.piece.barred (held w) e1.0.holds in
    let is : new ≡ t.tried = step_passed t.tried (Leave w name) t.left new
    (λ l. held_not_closed w k.floor k.tree (same_parts t.tried name l.chosen l.barred k.piece.chosen k.piece.barred
    (held w) (closed k.floor k.tree) l.holds here).status) t.leaves in
    record {
      is_done = close_done t.taken (Close w k) done t.tried e1.0 t.closes;
      is_gone = subst (IsGone old name) (sym is) (gone w k old t.taken t.tried e.0 takes.1 e1.0 closes.1);
      enabled = subst (λ (x : State). AllEnabled x rest) (sym is) (e1.1 t.tried closes.1);
    }

-- all of the pieces were closed and counted, and what comes after is enabled
record AreClosedTo (old : State) (pieces : List Fathomed) (count : ℕ) (new : State) (rest : List Event)
    : Type 0 where
  pub all : count ≡ length pieces
  pub are_gone : AllGone old (length pieces) new
  pub enabled : AllEnabled new rest

-- where all pieces that a worker closed may be closed, trying them closes them
follow_closes : (w : ℕ) (ks : List Fathomed) (rest : List Event) (old : State) (count : ℕ) (new : State)
    → AllEnabled old (closes_of w ks ++ rest) → TriesCloses old w ks count new → AreClosedTo old ks count new rest
follow_closes w [] rest old count new e t = record {
  all = t.0;
  are_gone = t.1;
  enabled = subst (λ (x : State). AllEnabled x rest) (sym t.1) e;
}
follow_closes w (k ∷ ks) rest old count new e (done, next, one, others, sum, t) =
    let here = follow_close w k (closes_of w ks ++ rest) old done next e one in
    let later = follow_closes w ks rest next others new here.enabled t in
    record {
      all = (let a = here.is_done in let b = later.all in omega arith);
      are_gone = (k.piece.name, next, here.is_gone, later.are_gone);
      enabled = later.enabled;
    }

-- each worker closed all that it handed over
pub record AreAllClosed (old : State) (works : List Worked) (counts : List ℕ) (new : State) : Type 0 where
  pub all : counts ≡ map (λ work. length work.closed) works
  pub are_gone : AllGone old (length (all_closed works)) new

-- so does trying those of all workers
pub follow_all_closes : (w : ℕ) (works : List Worked) (old : State) (counts : List ℕ) (new : State)
    → AllEnabled old (closes w works) → TriesAllCloses old w works counts new → AreAllClosed old works counts new
follow_all_closes w [] old counts new e t = record { all = t.0; are_gone = t.1 }
follow_all_closes w (x ∷ xs) old counts new e (count, others, is, next, one, t) =
    let here = follow_closes w x.closed (closes (w + 1) xs) old count next e one in
    let later = follow_all_closes (w + 1) xs next others new here.enabled t in
    let sum : length x.closed + length (all_closed xs) ≡ length (x.closed ++ all_closed xs) =
    sym (length-append x.closed (all_closed xs)) in
    let first : count ≡ length x.closed = here.all in
    let rest : others ≡ map (λ (work : Worked). length work.closed) xs = later.all in
    record {
      all = is ∙ ap (λ (n : ℕ). n ∷ others) first ∙ ap (λ (l : List ℕ). length x.closed ∷ l) rest;
      are_gone = subst (λ (n : ℕ). AllGone old n new) sum
          (all_gone-append old (length x.closed) (length (all_closed xs)) next new here.are_gone later.are_gone);
    }

-- ---- pieces that the caller's thread closes

-- a piece that the caller's thread closes is gone
gleaned_gone : (old : State) (caller : ℕ) (name : List ℕ) (new : State) → GleansOne old caller name new
    → IsGone old name new
gleaned_gone old caller name new g =
    let k = g.closed in
    let may = g.takes.0 in
    let stays : (m : List ℕ) → g.seen.part_at m ≡ g.taken.part_at m =
    λ m. ap (λ (s : State). s.part_at m) g.looks.1 ∙ ap (λ (s : State). s.part_at m) g.offers.1 in
    let here = g.closes.1.here k.piece.chosen k.piece.barred (held caller) g.closes.0.holds in
    record {
      chosen = may.chosen;
      barred = may.barred;
      waited = may.waits;
      past = λ c b h. waiting_not_closed k.floor k.tree (same_parts new k.piece.name c b
          k.piece.chosen k.piece.barred waiting (closed k.floor k.tree) (ap new.part_at g.named ∙ h) here).status;
      others = λ m ne. g.closes.1.others m (subst (λ (n : List ℕ). m ≢ n) (sym g.named) ne) ∙ stays m
          ∙ g.takes.1.others m ne;
    }

-- each piece that the caller's thread closes is gone
pub gleans_gone : (caller : ℕ) (names : List (List ℕ)) (old new : State) → Gleans old caller names new
    → AllGone old (length names) new
gleans_gone caller [] old new g = g
gleans_gone caller (name ∷ names) old new (next, one, rest) =
    (name, next, gleaned_gone old caller name next one, gleans_gone caller names next new rest)
