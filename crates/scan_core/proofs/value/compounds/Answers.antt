use Rattle.std.proofs.Common.{sym, ◌∙◌}
use Rattle.scan_core.proofs.ValueLemmas.{compounds_read, compounds_not_read}
use Rattle.scan_core.proofs.value.compounds.Goals as goal

pub returns-then-are_compounds : goal.returns-then-are_compounds
returns-then-are_compounds c = compounds_read c.args.value.now c.in_ok-items.items c.in_ok-items.ensures
    (sym c.are_compounds.ensures ∙ c.if-are_compounds.true)

pub returns-else-are_compounds : goal.returns-else-are_compounds
returns-else-are_compounds c = compounds_not_read c.args.value.now c.in_ok-items.items c.in_ok-items.ensures
    (sym c.are_compounds.ensures ∙ c.if-are_compounds.false)
