-- A plan by one worker is a plan by more.
use Rattle.std.proofs.Common.{ℕ, ◌+◌, ◌*◌, ◌<◌, ◌≤◌, Option, Some, None, Result, arith}
use Rattle.std.specs.Prelude.{Ok, Err}
use Rattle.std.proofs.Math.Nat.{le-mul_of_pos_right}
use Rattle.set_cover.specs.Instance.{Instance}
use Rattle.search_traits.specs.Faults.{StopsRegion}
use Rattle.search_traits.specs.Planning.{IsRegionPlan}
use Rattle.search_traits.specs.Turns.{IsShareSpent}
use Rattle.search_traits.specs.declared.planner.BestPlan.{BestPlan}
use Rattle.search_traits.specs.declared.region_fault.RegionFault.{RegionFault}
use Rattle.search_traits.specs.declared.region_fault.RegionFault.TheVariants as region

-- all turns are the share of each worker
shared : (workers : ℕ) (turns : Option ℕ) (granted : ℕ) → 1 ≤ workers → IsShareSpent 1 turns granted
    → IsShareSpent workers turns granted
shared workers None granted some spent = spent
shared workers (Some most) granted some spent =
    (spent.0, (let more = le-mul_of_pos_right (granted + 1) some in let all = spent.1 in omega (arith, more, all)))

stops_all : (workers : ℕ) (instance : Instance) (turns : Option ℕ) (fault : RegionFault) → 1 ≤ workers
    → StopsRegion 1 instance turns fault → StopsRegion workers instance turns fault
stops_all workers instance turns (region.Stopped found) some stops =
    (stops.0, shared workers turns found.granted some stops.1)
stops_all workers instance turns region.NoThread some stops = absurd (omega (arith, stops))
stops_all workers instance turns region.OutOfMemory some stops = tt

pub plan_by_all : (workers : ℕ) (turns : Option ℕ) (instance : Instance) (result : Result BestPlan RegionFault)
    → 1 ≤ workers → IsRegionPlan 1 turns instance result → IsRegionPlan workers turns instance result
plan_by_all workers turns instance (Ok plan) some is = record { best = is.best; within = is.within; stopped = tt }
plan_by_all workers turns instance (Err fault) some is =
    record { best = tt; within = tt; stopped = stops_all workers instance turns fault some is.stopped }
