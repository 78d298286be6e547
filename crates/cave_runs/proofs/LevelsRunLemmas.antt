-- The run of levels, from what its parts do.
use Rattle.std.proofs.Common.{◌≡◌, ◌≢◌, ℕ, ◌≤◌, List, length, slice_index, All, Option, Some, None, refl}
use Rattle.std.proofs.Common.{sym, ap, subst, ◌∙◌, ◌⊎◌, inl, inr, arith}
use Rattle.std.proofs.lemmas.Bool.{cases_lt}
use Rattle.std.proofs.lemmas.List.{get_or_past}
use Rattle.std.proofs.lemmas.List.Elements.{All-from_get_or, All-get_or}
use Rattle.cave_model.specs.Cave.{Cave, IsSound}
use Rattle.cave_model.specs.Light.{Brings, IsLevelOf}
use Rattle.cave_model.specs.Rule.{Rule}
use Rattle.cave_reading.specs.Bytes.{IsCaveOfBytes}
use Rattle.light_flood.specs.Levels.{AreLevelsOf}
use Rattle.plan_reading.specs.Placed.{IsPlanFault}
use Rattle.plan_reading.specs.declared.fault.TorchesFault.{TorchesFault}
use Rattle.plan_reading.specs.declared.fault.TorchesFault.TheVariants as torches
use Rattle.cave_runs.specs.Faults.{of_torches}
use Rattle.cave_runs.specs.LevelsRuns.{IsFaultOfLevels, IsFaultOfPlan}
use Rattle.cave_runs.specs.Runs.{IsFaultOfBytes}
use Rattle.cave_runs.specs.declared.fault.RunFault.{RunFault}
use Rattle.cave_runs.specs.declared.fault.RunFault.TheVariants as faults
use Rattle.cave_runs.proofs.RunLemmas.{bytes_unwritten}

-- ---- levels

-- a level is at most 15
level_low : (cave : Cave) (cell level : ℕ) → IsSound cave → IsLevelOf cave cell level → level ≤ 15
level_low cave cell level sound is = low is.reached where
  low : (level ≡ 0) ⊎ Brings cave cell level → level ≤ 15
  low (inl none) = omega (arith, none)
  low (inr b) = omega (arith, b.1.2, (sound.classed b.0).faint)

-- and so are those of a cave
pub levels_low : (cave : Cave) (levels : List ℕ) → IsSound cave → AreLevelsOf cave levels
    → All (λ level. level ≤ 15) levels
levels_low cave levels sound are = All-from_get_or (λ (level : ℕ). level ≤ 15) levels 0
    (λ i less. level_low cave i (slice_index levels i) sound (are.each i (omega (arith, less, are.whole))))

-- the level at any place of the list
pub at_low : (levels : List ℕ) (i : ℕ) → All (λ level. level ≤ 15) levels → slice_index levels i ≤ 15
at_low levels i low = elim (cases_lt i (length levels)) [
  | inl less ↦ All-get_or (λ (level : ℕ). level ≤ 15) levels i 0 less low
  | inr past ↦ omega (arith, get_or_past levels i 0 past)
]

-- ---- faults of the plan

-- a fault of the plan, as one of the run
pub plan_fault : (cave : Cave) (plan : List ℕ) (e : TorchesFault)
    → (e ≢ torches.OutOfMemory → IsPlanFault cave plan e) → of_torches e ≢ faults.OutOfMemory
    → IsFaultOfPlan cave (Some plan) (of_torches e)
plan_fault cave plan torches.OutOfMemory told other = absurd (other refl)
plan_fault cave plan (torches.Syntax line) told other = (torches.Syntax line, told (λ same. cc), refl)
plan_fault cave plan (torches.Illegal x y z) told other = (torches.Illegal x y z, told (λ same. cc), refl)

-- where the plan is refused, a fault that is due is answered, or memory was refused
pub plan_refused : (cave : Cave) (plan : List ℕ) (e : TorchesFault)
    → ((f : TorchesFault) → IsPlanFault cave plan f → (e ≡ f) ⊎ (e ≡ torches.OutOfMemory))
    → (due : RunFault) → IsFaultOfPlan cave (Some plan) due → (of_torches e ≡ due) ⊎ (of_torches e ≡ faults.OutOfMemory)
plan_refused cave plan e refused due (inner, is, same) = elim (refused inner is) [
  | inl e ↦ inl (ap of_torches e ∙ sym same)
  | inr none ↦ inr (ap of_torches none)
]

-- where there are torches, no fault is due
pub plan_clean : (cave : Cave) (plan : List ℕ) → ((f : TorchesFault) → IsPlanFault cave plan f → ⊥) → (due : RunFault)
    → IsFaultOfPlan cave (Some plan) due → ⊥
plan_clean cave plan clean due (inner, is, same) = clean inner is

-- no fault of a plan is a failed write
torches_unwritten : (e : TorchesFault) → of_torches e ≡ faults.WriteFailed → ⊥
torches_unwritten (torches.Syntax line) is = cc
torches_unwritten (torches.Illegal x y z) is = cc
torches_unwritten torches.OutOfMemory is = cc

plan_unwritten : (cave : Cave) (plan : Option (List ℕ)) (e : RunFault) → IsFaultOfPlan cave plan e
    → e ≡ faults.WriteFailed → ⊥
plan_unwritten cave None e of is = of
plan_unwritten cave (Some plan) e (inner, of, same) is = torches_unwritten inner (sym same ∙ is)

-- ---- faults of both

module _ (bytes : List ℕ) (table : Option (List ℕ)) (rule : Rule) (plan : Option (List ℕ)) where
  -- none is a failed write
  pub levels_unwritten : (e : RunFault) → IsFaultOfLevels bytes table rule plan e → e ≡ faults.WriteFailed → ⊥
  levels_unwritten e (inl of) is = bytes_unwritten bytes table e of is
  levels_unwritten e (inr (cave, told, of)) is = plan_unwritten cave plan e of is

  -- where the cave is refused
  pub cave_first : (e : RunFault) → ((cave : Cave) → IsCaveOfBytes bytes table rule cave → e ≡ faults.OutOfMemory)
      → ((due : RunFault) → IsFaultOfBytes bytes table due → (e ≡ due) ⊎ (e ≡ faults.OutOfMemory))
      → (due : RunFault) → IsFaultOfLevels bytes table rule plan due → (e ≡ due) ⊎ (e ≡ faults.OutOfMemory)
  cave_first e only refused due (inl of) = refused due of
  cave_first e only refused due (inr (cave, told, of)) = inr (only cave told)

  -- where there is a cave, what a fault of its plan meets any fault that is due meets
  pub plan_next : (cave : Cave) (Met : RunFault → Type 0)
      → ((due : RunFault) → IsFaultOfBytes bytes table due → ⊥)
      → ((other : Cave) → IsCaveOfBytes bytes table rule other → cave ≡ other)
      → ((due : RunFault) → IsFaultOfPlan cave plan due → Met due)
      → (due : RunFault) → IsFaultOfLevels bytes table rule plan due → Met due
  plan_next cave Met clean one met due (inl of) = absurd (clean due of)
  plan_next cave Met clean one met due (inr (other, told, of)) =
      met due (subst (λ (c : Cave). IsFaultOfPlan c plan due) (sym (one other told)) of)
