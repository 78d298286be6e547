-- What a core keeps.
use Rattle.std.proofs.Common.{◌≡◌, ◌↔◌, ◌⊎◌, inl, inr, ℕ, ◌<◌, ◌≤◌, Bool, true, false, List, [], length, set, refl}
use Rattle.std.proofs.Common.{sym, ap, ◌∙◌, subst}
use Rattle.std.specs.Prelude.{IsTrue}
use Rattle.instance_regions.specs.Cover.{Covering, IsCoverOfRegion}
use Rattle.proof_rules.specs.Tree.{Tree}
use Rattle.event_core.specs.State.{IsDone, goal_of}
use Rattle.event_core.specs.Plays.{Steps}
use Rattle.event_core.specs.declared.event.Event.{Event}
use Rattle.event_core.specs.Sound.{IsSoundState}
use Rattle.event_core.specs.Assembled.{IsAssembled}
use Rattle.event_core.specs.Shape.{Shape, part_in}
use Rattle.event_core.specs.Finished.{IsWhole, is_done, assembled}
use Rattle.event_core.specs.Kept.{Kept, IsKept, state_of, put_kept, IsAssembly, StepsTo}
use Rattle.event_core.proofs.DoneLemmas.{done_all, some_left, assembled_is}
use Rattle.event_core.proofs.GoodLemmas.{good}
use Rattle.event_core.proofs.RunLemmas.{look_sound, better_sound}
use Rattle.event_core.proofs.ShapeLemmas.{put_whole}

-- what is kept stays so after a look
pub seen_kept : (kept : Kept) (worker : ℕ) → worker < length kept.seen → IsKept kept
    → IsKept (record kept { seen = set kept.seen worker (goal_of (state_of kept)) })
seen_kept kept worker lt k = record {
  whole = k.whole;
  cover = k.cover;
  sound = look_sound (state_of kept) worker lt k.sound;
}

-- and after a better cover
pub better_kept : (kept : Kept) (best : List ℕ) → length best ≤ length kept.best → IsCoverOfRegion kept.region best
    → IsKept kept → IsKept (record kept { best = best })
better_kept kept best le covers k =
    record { whole = k.whole; cover = covers; sound = better_sound (state_of kept) best le k.sound }

-- and after a whole and sound shape is put at a name
pub put_is_kept : (kept : Kept) (name : List ℕ) (shape : Shape) → IsWhole shape
    → IsSoundState (state_of (put_kept kept name shape)) → IsKept kept → IsKept (put_kept kept name shape)
put_is_kept kept name shape whole sound k =
    record { whole = put_whole kept.root shape name k.whole whole; cover = k.cover; sound = sound }

-- where the root's shape is done the state is
pub done_true : (kept : Kept) → is_done kept.root ≡ true → IsDone (state_of kept)
done_true kept d = λ name c b status h. done_all [] [] kept.root name
    (record { chosen = c; barred = b; status = status }) d h

-- where it isn't the state isn't
pub done_false : {A : Type 0} (kept : Kept) → IsKept kept → is_done kept.root ≡ false → IsDone (state_of kept) → A
done_false kept k d all = (let l = some_left [] [] kept.root k.whole d in
    absurd (all l.name l.part.chosen l.part.barred l.part.status l.there l.left))

-- a flag is set or unset
true_or_false : (b : Bool) → (b ≡ true) ⊎ (b ≡ false)
true_or_false true = inl refl
true_or_false false = inr refl

-- the answer whether the root's shape is done is that for the state
pub done_is : (kept : Kept) (answer : Bool) → IsKept kept → answer ≡ is_done kept.root
    → IsTrue answer ↔ IsDone (state_of kept)
done_is kept answer k e = (
  λ is_yes. done_true kept (sym e ∙ is_yes),
  λ all. elim (true_or_false answer) [
    | inl is_yes ↦ is_yes
    | inr is_no ↦ done_false kept k (sym e ∙ is_no) all
  ],
)

-- with all done, the best cover and the root's tree are the assembly
pub assembly : (kept : Kept) (cover : Covering) (tree : Tree) → IsKept kept → is_done kept.root ≡ true
    → cover.region ≡ kept.region → cover.places ≡ kept.best → tree ≡ assembled kept.root → IsAssembly kept cover tree
assembly kept cover tree k d of_it places is =
    let all : IsAssembled (state_of kept) [] tree = subst (IsAssembled (state_of kept) []) (sym is)
    (assembled_is (state_of kept) [] [] [] kept.root k.whole d (λ rest name e. ap (part_in [] [] kept.root) e)) in
    record {
      best = λ i. record { region = of_it i; places = places i };
      assembled = all;
      good = good (state_of kept) k.sound tree [] [] [] k.sound.rooted.0 k.sound.rooted.1 all;
    }

-- what the core does at an event is what the event does to the state
pub steps_are_events : (old : Kept) (event : Event) (new : Kept) (done : Bool) → StepsTo old event new done
    → Steps (state_of old) event done (state_of new)
steps_are_events old event new true s = s
steps_are_events old event new false s = (s.0, ap state_of s.1)
