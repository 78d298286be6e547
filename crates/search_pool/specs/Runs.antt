-- What a run of workers leaves behind. This is this project's own.
use Rattle.std.specs.Prelude.{◌≡◌, ◌<◌, ◌^◌, ℕ, List, length, Option, IfSome}
use Rattle.set_cover.specs.Instance.{Instance}
use Rattle.proof_tree.specs.Piece.{Subproblem}
use Rattle.schedule_law.specs.Worked.{Worked}
use Rattle.schedule_law.specs.Joined.{AreJoined}
use Rattle.search_traits.specs.Turns.{IsWithin}
use Rattle.search_pool.specs.declared.pool.Ran.{Ran}

-- the joined results of `workers` workers, whose floors reach the goal or the size of a smaller cover
pub record IsRun (region : Instance) (goal workers : ℕ) (works : List Worked) (left : List Subproblem)
    : Type 0 where
  pub joined : AreJoined region goal works left
  pub each : length works ≡ workers

-- workers hand over the results of such a run, and took no more turns than there were, which 64 bits count
pub record HandOver (region : Instance) (goal workers : ℕ) (limit : Option ℕ) (ran : Ran) : Type 0 where
  pub run : IsRun region goal workers ran.joined.works.items ran.joined.left.items
  pub within : IsWithin limit ran.turns
  pub fits : IfSome limit (λ most. most < 2 ^ 64)
