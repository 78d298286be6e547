-- A core as the code keeps it, and the state that it stands for.
use Rattle.std.specs.Prelude.{◌≡◌, ℕ, Bool, true, false, List, [], length, min, refl}
use Rattle.std.specs.Coded.{Coded, code_by, coded×, coded_ℕ, coded_list}
use Rattle.set_cover.specs.Instance.{Instance, instance_coded, of_instance}
use Rattle.instance_regions.specs.Cover.{Covering, IsCoverOfRegion}
use Rattle.proof_rules.specs.Tree.{Tree}
use Rattle.proof_rules.specs.Good.{Good}
use Rattle.event_core.specs.State.{State}
use Rattle.event_core.specs.Events.{IsEnabled, Does}
use Rattle.event_core.specs.Assembled.{IsAssembled}
use Rattle.event_core.specs.Sound.{IsSoundState}
use Rattle.event_core.specs.Shape.{Shape, part_in, put_in}
use Rattle.event_core.specs.Finished.{IsWhole}
use Rattle.event_core.specs.Codes.{shape_coded}
use Rattle.event_core.specs.declared.event.Event.{Event}

-- a region, its smallest cover so far, the aim, the size that each worker saw last, and the pieces from the root on
pub record Kept : Type 0 where
  pub region : Instance
  pub best : List ℕ
  pub aim : ℕ
  pub seen : List ℕ
  pub root : Shape

-- the code by which such cores are told apart, made of those of their parts
abbrev pub kept_coded : Coded Kept
kept_coded = code_by (Instance × (List ℕ × (ℕ × (List ℕ × Shape))))
    (coded× instance_coded (coded× (coded_list coded_ℕ) (coded× coded_ℕ (coded× (coded_list coded_ℕ) shape_coded))))
    (λ k. (k.region, (k.best, (k.aim, (k.seen, k.root)))))
    (λ p. record { region = p.0; best = p.1.0; aim = p.1.1.0; seen = p.1.1.1.0; root = p.1.1.1.1 })
    (λ _. refl)

-- a name leads from the root, in which nothing is chosen or barred, to its piece
abbrev pub state_of : Kept → State
state_of kept = record {
  region = kept.region;
  best = kept.best;
  aim = kept.aim;
  seen = kept.seen;
  part_at = part_in [] [] kept.root;
}

-- what every core keeps
pub record IsKept (kept : Kept) : Type 0 where
  pub whole : IsWhole kept.root
  pub cover : IsCoverOfRegion kept.region kept.best
  pub sound : IsSoundState (state_of kept)

-- the core with the new shape at this name
abbrev pub put_kept : Kept → List ℕ → Shape → Kept
put_kept kept name shape = record kept { root = put_in kept.root name shape }

-- the event was enabled and is done, or it wasn't and all stays
abbrev pub StepsTo : Kept → Event → Kept → Bool → Type 0
StepsTo old event new true = IsEnabled (state_of old) event × Does (state_of old) event (state_of new)
StepsTo old event new false = (¬ IsEnabled (state_of old) event) × (new ≡ old)

-- the best cover, and the tree of what was opened and closed, which proves that no cover is smaller, or none below the
-- aim where that is smaller still
pub record IsAssembly (kept : Kept) (cover : Covering) (tree : Tree) : Type 0 where
  pub best : cover ≡ record { region = kept.region; places = kept.best }
  pub assembled : IsAssembled (state_of kept) [] tree
  pub good : Good (of_instance kept.region) kept.region.cells [] [] (min kept.aim (length kept.best)) tree
