-- Regions of a cave, each with a cover and a number below which no cover of it lies. This is this project's own.
use Rattle.std.specs.Prelude.{◌≡◌, ℕ, ◌+◌, ◌≤◌, Bool, true, false, if◌then◌else◌, List, [], ◌∷◌, length, map, All}
use Rattle.std.specs.Prelude.{Contains}
use Rattle.std.specs.List.Sorted.{IsStrictlyIncreasing}
use Rattle.cave_model.specs.Cave.{Cave}
use Rattle.cave_model.specs.Coverage.{of_cave, Agrees}
use Rattle.cave_model.specs.Listing.{ListsAll}
use Rattle.cave_model.specs.Plan.{Torch, hung, IsSafe}
use Rattle.cave_model.specs.Regions.{AreRegions, all_cells}
use Rattle.set_cover.specs.Instance.{Instance, of_instance}
use Rattle.proof_rules.specs.Good.{IsCoverOfPiece}
use Rattle.instance_regions.specs.Cover.{IsCoverOfRegion}
use Rattle.instance_regions.specs.Splitting.{least_cell}
use Rattle.search_traits.specs.Turns.{IsShareSpent, IsWithin}
use Rattle.search_traits.specs.declared.planner.Allowance.{Allowance}

-- a region, torches that are to cover it, a number that none of its covers is to be below, whether the turns of its
-- search were spent, and how many were granted
pub record Bounded : Type 0 where
  pub region : Instance
  pub torches : List ℕ
  pub floor : ℕ
  pub spent : Bool
  pub granted : ℕ

-- the region agrees with the cave, the torches cover it, and no cover of it has fewer than the floor
pub record IsBoundedIn (cave : Cave) (part : Bounded) : Type 0 where
  pub agrees : Agrees (of_instance part.region) (of_cave cave) part.region.cells
  pub cover : IsCoverOfRegion part.region part.torches
  pub none_below : (places : List ℕ) → IsCoverOfPiece (of_instance part.region) part.region.cells [] [] places
      → part.floor ≤ length places

-- such a part for each of the cave's regions
pub record AreBoundedIn (cave : Cave) (parts : List Bounded) : Type 0 where
  pub regions : AreRegions cave (map (λ part. part.region.cells) parts)
  pub each : All (IsBoundedIn cave) parts

-- the torches of all parts, one part after another
abbrev pub all_torches : List Bounded → List ℕ
all_torches parts = all_cells (map (λ part. part.torches) parts)

-- the floors of all parts, added up
abbrev pub total_floor : List Bounded → ℕ
total_floor [] = 0
total_floor (part ∷ parts) = part.floor + total_floor parts

-- just these torches, in the order of their cells
abbrev pub AreInOrder : List Bounded → List ℕ → Type 0
AreInOrder parts cells = ListsAll (Contains (all_torches parts)) cells

-- torches at these cells, each by its first legal hang, are safe, and no safe torches are fewer than the floor
pub record IsPlanWithin (cave : Cave) (cells : List ℕ) (floor : ℕ) : Type 0 where
  pub safe : IsSafe cave (hung cave cells)
  pub floored : (torches : List Torch) → IsSafe cave torches → floor ≤ length torches

-- the parts whose turns weren't spent
abbrev pub finished : List Bounded → List Bounded
finished [] = []
finished (part ∷ parts) = if part.spent then finished parts else part ∷ finished parts

-- the floor is at least 1, and that of a finished part is its size
pub record IsEnded (part : Bounded) : Type 0 where
  pub some : 1 ≤ part.floor
  pub whole : part.spent ≡ false → part.floor ≡ length part.torches

-- no more turns were granted than the limit; and where they were spent at least the share of one worker
pub record AreTurnsOf (allowance : Allowance) (spent : Bool) (granted : ℕ) : Type 0 where
  pub within : IsWithin allowance.turns granted
  pub used : spent ≡ true → IsShareSpent allowance.workers allowance.turns granted

-- such turns were granted to the part
abbrev pub IsGrantedBy : Allowance → Bounded → Type 0
IsGrantedBy allowance part = AreTurnsOf allowance part.spent part.granted

-- parts for the cave's regions, by their least cells, with just these torches, in order; the number is at least 1 and
-- the sum of their floors; and the turns of some were spent
pub record IsSumOf (cave : Cave) (allowance : Allowance) (parts : List Bounded) (cells : List ℕ) (number : ℕ)
    : Type 0 where
  pub bounded : AreBoundedIn cave parts
  pub ordered : IsStrictlyIncreasing (map (λ part. least_cell part.region) parts)
  pub of_them : AreInOrder parts cells
  pub ended : All IsEnded parts
  pub granted : All (IsGrantedBy allowance) parts
  pub sum : number ≡ total_floor parts
  pub some : 1 ≤ number
  pub spent : Contains (map (λ part. part.spent) parts) true
