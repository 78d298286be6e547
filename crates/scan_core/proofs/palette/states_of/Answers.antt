use Rattle.std.proofs.Common.{sym, subst, ◌+◌, List}
use Rattle.scan_core.specs.Faults.{name_fault}
use Rattle.scan_core.specs.Scan.{IsEntryState}
use Rattle.scan_core.specs.declared.state.BlockState.{BlockState}
use Rattle.scan_core.proofs.EachLemmas.{AreTold, told_more}
use Rattle.scan_core.proofs.palette.states_of.Goals as goal

pub loop-index-preserved : goal.loop-index-preserved
loop-index-preserved c =
    let told = c.in_ok-state_of.ensures c.in-Some.ensures.0 c.in-Some.ensures.2 in
    subst (λ (states : List BlockState). AreTold IsEntryState name_fault c.args.entries (c.loop-index.index + 1)
    c.next_fields.new.self states) (sym {A = List BlockState} c.in_ok-push.ensures.items)
    (told_more IsEntryState name_fault c.args.entries c.loop-index.index c.loop-index.entries c.loop-index.states.items
    c.loop-index.invariant c.in-Some.ensures.0 c.next_fields.new.self c.in_ok-state_of.field-0 c.in-Some.ensures.1
    told.0 told.1)
