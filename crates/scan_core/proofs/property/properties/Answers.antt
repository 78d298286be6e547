use Rattle.std.proofs.Common.{ap, ◌∙◌}
use Rattle.scan_core.specs.Named.{named_values}
use Rattle.scan_core.proofs.PropertyLemmas.{props_told}
use Rattle.scan_core.proofs.property.properties.Goals as goal

pub returns : goal.returns
returns c =
    c.from_vec-2.ensures ∙ c.reverse.ensures.items ∙ c.in_ok-props.ensures
    ∙ props_told c.args.found c.in-Some.value c.in-Some-entries.entries (named_values c.deref.result.now)
    c.in-Some.is c.in-Some-entries.ensures (ap named_values c.deref.ensures.value ∙ c.in_ok-members.ensures)
