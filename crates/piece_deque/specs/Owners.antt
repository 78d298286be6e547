-- What is known of a new deque. This is this project's own.
use Rattle.std.specs.Prelude.{◌≡◌, ℕ, ◌≤◌}
use Rattle.crossbeam_deque.specs.declared.handles.Worker.{Worker}
use Rattle.crossbeam_deque.specs.Handles.{worker_flavor, worker_index, worker_capacity, worker_view}
use Rattle.piece_deque.specs.declared.dealt.Dealt.{Dealt}
use Rattle.piece_deque.specs.Deals.{owner_pass}

module _ {T A P : Type 0} where
  -- nothing was pushed; it is first in, first out, and has room for `room` pieces
  pub record IsNew (room : ℕ) (owner : Worker T A Dealt P) : Type 0 where
    pub first_out : worker_flavor owner ≡ 0
    pub index : worker_index owner ≡ 0
    pub room_for : room ≤ worker_capacity owner
    pub pass : worker_view owner ≡ owner_pass
