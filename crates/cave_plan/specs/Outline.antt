-- What a plan of a cave shows: its text, and where no turns were spent the regions' trees. This is this project's own.
use Rattle.std.specs.Prelude.{◌≡◌, ℕ, Bool, List, length, map, All, Option, Some, None, IsSome, MatchBool, string_bytes}
use Rattle.std.specs.List.Sorted.{IsStrictlyIncreasing}
use Rattle.cave_model.specs.Cave.{Cave, IsWorld}
use Rattle.cave_model.specs.Coverage.{of_cave, Agrees}
use Rattle.cave_model.specs.Plan.{hung, IsSafe}
use Rattle.cave_model.specs.Regions.{AreRegions}
use Rattle.cave_model.specs.Spawn.{AreDarkCells}
use Rattle.set_cover.specs.Instance.{Instance, of_instance}
use Rattle.instance_regions.specs.Region.{IsRegion}
use Rattle.instance_regions.specs.Splitting.{cells_of_each, least_cell}
use Rattle.certificate_text.specs.Planned.{Plan, AreBestOf}
use Rattle.certificate_text.specs.PlanOf.{plans_of}
use Rattle.search_traits.specs.declared.planner.Allowance.{Allowance}
use Rattle.proof_check.specs.Accepted.{IsBestPlan}
use Rattle.cave_plan.specs.Best.{AreTorchesOf}
use Rattle.cave_plan.specs.Bounded.{Bounded, AreTurnsOf, IsPlanWithin, IsSumOf}
use Rattle.cave_plan.specs.Course.{Course, AreFinished, IsCourse}
use Rattle.cave_plan.specs.PlanText.{plan_text}
use Rattle.cave_plan.specs.declared.outline.Outline.{Outline}

-- the number of dark cells
pub record CountsDark (cave : Cave) (count : ℕ) : Type 0 where
  pub cells : List ℕ
  pub dark : AreDarkCells cave cells
  pub number : length cells ≡ count

-- the text of these torches, which ascend: so torches have one text
pub record Prints (cave : Cave) (torches : List ℕ) (floor : Option ℕ) (text : List ℕ) : Type 0 where
  pub ascending : IsStrictlyIncreasing torches
  pub dark : ℕ
  pub counts : CountsDark cave dark
  pub is : text ≡ plan_text cave torches dark floor

-- the regions of the cave, by their least cells, each with what its places light there
pub record AreRegionsIn (cave : Cave) (regions : List Instance) : Type 0 where
  pub parts : AreRegions cave (cells_of_each regions)
  pub ordered : IsStrictlyIncreasing (map least_cell regions)
  pub each : All IsRegion regions
  pub agree : All (λ region. Agrees (of_instance region) (of_cave cave) region.cells) regions

-- a plan of each of the cave's regions, as far as they go
pub record IsCourseIn (cave : Cave) (allowance : Allowance) (c : Course) : Type 0 where
  pub regions : List Instance
  pub are : AreRegionsIn cave regions
  pub is : IsCourse regions allowance c

-- the fewest torches, each by its first legal hang, their text, and best plans of all regions with just these torches,
-- by their least cells
pub record IsPlanned (cave : Cave) (text : List ℕ) (plans : List Plan) : Type 0 where
  pub world : IsWorld cave
  pub torches : List ℕ
  pub safe : IsSafe cave (hung cave torches)
  pub best : IsBestPlan cave torches
  pub prints : Prints cave torches None text
  pub plans_are : AreBestOf cave plans
  pub ordered : IsStrictlyIncreasing (map (λ plan. least_cell plan.region) plans)
  pub of_plans : AreTorchesOf plans torches

-- turns were limited: safe torches, a number that no safe torches are fewer than, their text, and parts that they are
-- the sum of, of which those with plans are finished
pub record IsStoppedAt (cave : Cave) (allowance : Allowance) (text : List ℕ) (plans : List Plan) : Type 0 where
  pub limited : IsSome allowance.turns
  pub torches : List ℕ
  pub floor : ℕ
  pub within : IsPlanWithin cave torches floor
  pub parts : List Bounded
  pub summed : IsSumOf cave allowance parts torches floor
  pub finished_are : AreFinished parts plans
  pub prints : Prints cave torches (Some floor) text

-- what a plan shows: where it stopped safe torches and what none are fewer than, else the fewest torches, with plans
abbrev pub Shows : Cave → Allowance → List ℕ → Bool → List Plan → Type 0
Shows cave allowance text stopped plans =
    MatchBool stopped (IsStoppedAt cave allowance text plans) (IsPlanned cave text plans)

-- the plan of the cave, within the turns
pub record IsOutlineOf (cave : Cave) (allowance : Allowance) (outline : Outline) : Type 0 where
  pub shows : Shows cave allowance (string_bytes outline.text) outline.stopped (plans_of outline.parts.items)
  pub turns : AreTurnsOf allowance outline.stopped outline.turns
