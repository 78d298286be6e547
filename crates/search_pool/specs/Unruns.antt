-- The fault of a plan where workers didn't run. This is this project's own.
use Rattle.search_traits.specs.declared.region_fault.RegionFault.{RegionFault}
use Rattle.search_traits.specs.declared.region_fault.RegionFault.TheVariants as pool
use Rattle.search_pool.specs.declared.unrun.Unrun.{Unrun}
use Rattle.search_pool.specs.declared.unrun.Unrun.TheVariants.{NoThread, OutOfMemory}

-- why workers didn't run, as a fault of the plan
abbrev pub fault_of : Unrun → RegionFault
fault_of NoThread = pool.NoThread
fault_of OutOfMemory = pool.OutOfMemory
