use Rattle.plan_reading.proofs.MisfitLemmas.{no_dark, no_head}
use Rattle.plan_reading.proofs.ReadLemmas.{opened}
use Rattle.plan_reading.proofs.reading.open.Goals as goal

pub returns-in_default : goal.returns-in_default
returns-in_default c = no_head c.args.text.now c.in_default.ensures

pub returns-in_default-after_dark : goal.returns-in_default-after_dark
returns-in_default-after_dark c = no_dark c.args.text.now c.in-Some.rest.now c.in-Some.count c.in-Some.ensures.0
    c.in-Some.ensures.1 c.in_default-after_dark.ensures

pub returns : goal.returns
returns c = opened c.args.text.now c.in-Some.rest.now c.in-Some-after_dark.rest.now c.past_corner-lines.result.1.now
    c.in-Some.count c.in-Some-after_dark.ensures.0 c.past_corner-lines.result.0 c.in-Some.ensures.0
    c.in-Some.ensures.1 c.in-Some-after_dark.ensures.1 c.past_corner-lines.ensures
