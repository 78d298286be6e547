use Rattle.plan_reading.proofs.FieldLemmas.{no_hang, no_second, no_third}
use Rattle.plan_reading.proofs.lines.after_torch.Goals as goal

pub returns-in_default-number_before-2 : goal.returns-in_default-number_before-2
returns-in_default-number_before-2 c = no_second c.args.text.now c.in-Some.rest.now c.in-Some-number_before.rest.now
    c.in-Some-number_before.x c.in-Some.ensures c.in-Some-number_before.ensures
    c.in_default-number_before-2.ensures

pub returns-in_default-number_before-3 : goal.returns-in_default-number_before-3
returns-in_default-number_before-3 c = no_third c.args.text.now c.in-Some.rest.now c.in-Some-number_before.rest.now
    c.in-Some-number_before-2.rest.now c.in-Some-number_before.x c.in-Some-number_before-2.y c.in-Some.ensures
    c.in-Some-number_before.ensures c.in-Some-number_before-2.ensures c.in_default-number_before-3.ensures

pub returns-in-None : goal.returns-in-None
returns-in-None c = no_hang c.args.text.now c.in-Some.rest.now c.in-Some-number_before.rest.now
    c.in-Some-number_before-2.rest.now c.in-Some-number_before-3.rest.now c.in-Some-number_before.x
    c.in-Some-number_before-2.y c.in-Some-number_before-3.z c.in-Some.ensures c.in-Some-number_before.ensures
    c.in-Some-number_before-2.ensures c.in-Some-number_before-3.ensures c.in-None.ensures
