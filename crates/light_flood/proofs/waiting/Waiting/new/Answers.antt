use Rattle.std.proofs.Common.{ℕ}
use Rattle.std.specs.Global.{Vec}
use Rattle.light_flood.proofs.WaitingLemmas.{empty_push, all_empty}
use Rattle.light_flood.proofs.waiting.Waiting.new.Goals as goal

pub loop-preserved : goal.loop-preserved
loop-preserved c = rw c.in_ok-push.ensures.items
    (empty_push c.loop.counter c.loop.cells.items c.new.result c.loop.invariant c.new.ensures.items)

pub returns : goal.returns
returns c = all_empty (λ (v : Vec ℕ). v.items) c.loop.cells.items c.loop.invariant.empty
