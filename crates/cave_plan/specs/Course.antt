-- The plans of regions, as far as they go. This is this project's own.
use Rattle.std.specs.Prelude.{◌≡◌, ℕ, ◌≤◌, Bool, true, false, List, [], ◌∷◌, ◌++◌, length, map, flat_map, All}
use Rattle.std.specs.Prelude.{Contains, Option, Some, None, IsSome, if◌then◌else◌}
use Rattle.set_cover.specs.Instance.{Instance, of_instance}
use Rattle.proof_rules.specs.Good.{Good}
use Rattle.instance_regions.specs.Cover.{IsCoverOfRegion}
use Rattle.certificate_text.specs.Planned.{Plan}
use Rattle.certificate_text.specs.PlanOf.{plans_of}
use Rattle.search_traits.specs.Planned.{NoneBelow}
use Rattle.search_traits.specs.declared.planner.Allowance.{Allowance}
use Rattle.cave_plan.specs.Bounded.{Bounded, AreTurnsOf, IsGrantedBy, all_torches, finished, total_floor}
use Rattle.cave_plan.specs.declared.course.Course as code

-- what is kept: the torches of all regions, a number that no torches are fewer than, whether the turns of a region
-- were spent, the most turns that were granted to one, and the regions that have a tree
pub record Course : Type 0 where
  pub torches : List ℕ
  pub floor : ℕ
  pub stopped : Bool
  pub turns : ℕ
  pub plans : List Plan

-- the course of these parts
abbrev pub course : List ℕ → ℕ → Bool → ℕ → List Plan → Course
course torches floor stopped turns plans =
    record { torches = torches; floor = floor; stopped = stopped; turns = turns; plans = plans }

-- what the code has of it
abbrev pub known : code.Course → Course
known c = course c.torches.items c.floor c.stopped c.turns (plans_of c.parts.items)

-- a cover of the region, and a number that no cover is below: its size, or where turns were spent at least 1
pub record IsBounded (part : Bounded) : Type 0 where
  pub cover : IsCoverOfRegion part.region part.torches
  pub none_below : NoneBelow part.region part.floor
  pub whole : part.spent ≡ false → part.floor ≡ length part.torches
  pub some : part.spent ≡ true → 1 ≤ part.floor

-- the plans are those of the finished parts: their regions with their torches
pub record AreFinished (parts : List Bounded) (plans : List Plan) : Type 0 where
  pub regions : map (λ part. part.region) (finished parts) ≡ map (λ plan. plan.region) plans
  pub torches : map (λ part. part.torches) (finished parts) ≡ map (λ plan. plan.torches) plans

-- a cover of the region, and a tree which proves that none is smaller
pub record IsProved (plan : Plan) : Type 0 where
  pub cover : IsCoverOfRegion plan.region plan.torches
  pub good : Good (of_instance plan.region) plan.region.cells [] [] (length plan.torches) plan.tree

-- each of the regions is proved, with just these torches
pub record AreProvedPlans (regions : List Instance) (torches : List ℕ) (plans : List Plan) : Type 0 where
  pub of_them : map (λ plan. plan.region) plans ≡ regions
  pub each : All IsProved plans
  pub whole : flat_map (λ plan. plan.torches) plans ≡ torches

-- a cover and such a number for each of the regions, within the turns; and a tree of each finished one, which are all
-- unless some turns were spent, which were limited
pub record IsCourse (regions : List Instance) (allowance : Allowance) (c : Course) : Type 0 where
  pub parts : List Bounded
  pub of_them : map (λ part. part.region) parts ≡ regions
  pub each : All IsBounded parts
  pub granted : All (IsGrantedBy allowance) parts
  pub most : AreTurnsOf allowance c.stopped c.turns
  pub whole : all_torches parts ≡ c.torches
  pub total : total_floor parts ≡ c.floor
  pub proved : c.stopped ≡ false → AreProvedPlans regions c.torches c.plans
  pub limited : c.stopped ≡ true → IsSome allowance.turns
  pub finished_are : AreFinished parts c.plans
  pub spent : c.stopped ≡ true → Contains (map (λ part. part.spent) parts) true

-- one region more is planned
pub record GoesOn (allowance : Allowance) (region : Instance) (old new : Course) : Type 0 where
  pub each : (regions : List Instance) → IsCourse regions allowance old
      → IsCourse (regions ++ region ∷ []) allowance new

-- the number that no torches are fewer than, where turns were spent
abbrev pub floor_if : Bool → ℕ → Option ℕ
floor_if stopped floor = if stopped then Some floor else None
