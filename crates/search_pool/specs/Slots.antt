-- What the workers' slots are filled with. This is this project's own.
use Rattle.std.specs.Prelude.{◌≡◌, ℕ, ◌+◌, true, false, List, [], ◌∷◌}
use Rattle.std.specs.declared.alloc.Global.{Global}
use Rattle.crossbeam_deque.specs.Handles.{worker_deque, worker_flavor, worker_view}
use Rattle.crossbeam_deque.specs.declared.handles.Worker.{Worker}
use Rattle.proof_tree.specs.Piece.{Subproblem}
use Rattle.piece_deque.specs.declared.rule.EachOnce.{EachOnce}
use Rattle.piece_deque.specs.declared.dealt.Dealt.{Dealt}
use Rattle.piece_deque.specs.Deals.{thief_pass, one_more_out}
use Rattle.worker_results.specs.Joining.{StartWith}
use Rattle.worker_results.specs.Naming.{AreThieves, DequeId, Thief}
use Rattle.worker_results.specs.Passes.{IsRow, KnownPass, Owned, Row, all_taken}

-- the owner's end of a deque of pieces, under the rule that those pushed are those in it and those taken
abbrev pub Owner : Type 0
Owner = Worker Subproblem Global Dealt EachOnce

-- the owner's pass when these pieces were pushed, none was taken and `out` passes are out
abbrev pub ready : List Subproblem → ℕ → Dealt
ready pushed out = record { first = true; spent = false; out = out; pushed = pushed; taken = [] }

-- the ends of the deques from this number on, first in, first out, with the pieces that lie there at the start
abbrev pub AreOwners : (ℕ → DequeId) → (ℕ → List Subproblem) → ℕ → List Owner → Type 0
AreOwners deque start first [] = Unit {0}
AreOwners deque start first (owner ∷ owners) =
    (worker_deque owner ≡ deque first) × (worker_flavor owner ≡ 0) × (worker_view owner ≡ ready (start first) 0)
    × AreOwners deque start (first + 1) owners

-- the owners' ends of the workers' deques, and thieves at them; these pieces lie on them at the start
pub record AreDealt (deque : ℕ → DequeId) (start : ℕ → List Subproblem) (workers : ℕ) (pieces : List Subproblem)
    (owners : List Owner) (thieves : List Thief) : Type 0 where
  pub ends : AreOwners deque start 0 owners
  pub at_ends : AreThieves deque 0 thieves
  pub stocked : StartWith start workers pieces

-- this count of passes at its deque is out, and else all is as at the start
abbrev pub IsReady : (ℕ → List Subproblem) → ℕ → Owned → Type 0
IsReady start out own = own.knows ≡ ready (start own.worker) out

-- after a pass at its deque was lent
abbrev pub lent : Owned → Owned
lent own = record { worker = own.worker; knows = one_more_out own.knows }

-- the pass that was lent
abbrev pub lent_pass : Owned → KnownPass
lent_pass own = record { deque = own.worker; knows = thief_pass }

-- a pass at each deque, in order, of which none took anything
abbrev pub IsNewRow : ℕ → Row → Type 0
IsNewRow workers row = IsRow workers row × (all_taken row.items ≡ [])
