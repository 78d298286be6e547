use Rattle.scan_core.specs.Faults.{name_fault}
use Rattle.scan_core.specs.Scan.{IsEntryState}
use Rattle.scan_core.proofs.EachLemmas.{AreTold}
use Rattle.scan_core.proofs.palette.states_of.Given as goal

abbrev pub invariant-loop-index : goal.invariant-loop-index
invariant-loop-index l = AreTold IsEntryState name_fault l.fn.entries l.index l.entries l.states.items
