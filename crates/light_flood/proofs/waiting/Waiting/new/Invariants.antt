use Rattle.light_flood.proofs.WaitingLemmas.{AreEmpty}
use Rattle.light_flood.proofs.waiting.Waiting.new.Given as goal

abbrev pub invariant-loop : goal.invariant-loop
invariant-loop l = AreEmpty l.counter l.cells.items
