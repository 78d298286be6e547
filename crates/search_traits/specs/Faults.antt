-- Why a region has no plan. This is this project's own.
use Rattle.std.specs.Prelude.{◌<◌, ℕ, Option}
use Rattle.set_cover.specs.Instance.{Instance}
use Rattle.search_traits.specs.Planned.{IsStopped}
use Rattle.search_traits.specs.Turns.{IsShareSpent}
use Rattle.search_traits.specs.declared.region_fault.RegionFault.{RegionFault}
use Rattle.search_traits.specs.declared.region_fault.RegionFault.TheVariants as region

-- what `workers` workers tell where they have no plan: turns are spent where the share of one of them is, and threads
-- are wanted only by more than one
abbrev pub StopsRegion : ℕ → Instance → Option ℕ → RegionFault → Type 0
StopsRegion workers instance turns (region.Stopped found) =
    IsStopped instance turns found.cover found.floor × IsShareSpent workers turns found.granted
StopsRegion workers instance turns region.NoThread = 1 < workers
StopsRegion workers instance turns region.OutOfMemory = Unit {0}
