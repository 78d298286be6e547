use Rattle.std.proofs.Common.{inl, sym}
use Rattle.scan_core.specs.Faults.{name_fault}
use Rattle.scan_core.specs.Scan.{IsEntryState}
use Rattle.scan_core.specs.declared.fault.Field.TheVariants as fields
use Rattle.scan_core.proofs.ListLemmas.{list_wrong, tells_list}
use Rattle.scan_core.proofs.palette.palette_of.Goals as goal

pub returns-in_default-compounds : goal.returns-in_default-compounds
returns-in_default-compounds c =
    inl (list_wrong fields.PaletteField name_fault c.args.found c.in-Some.value
    (sym c.in-Some.is) c.in_default-compounds.ensures)

pub returns : goal.returns
returns c =
    tells_list IsEntryState (λ states. states.items) fields.PaletteField name_fault
    c.args.found c.in-Some.value c.in-Some-compounds.entries c.states_of.result
    (sym c.in-Some.is) c.in-Some-compounds.ensures c.states_of.ensures
