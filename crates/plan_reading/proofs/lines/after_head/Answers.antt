use Rattle.std.proofs.Common.{Some}
use Rattle.plan_reading.proofs.FieldLemmas.{floored, no_floor, no_least}
use Rattle.plan_reading.proofs.lines.after_head.Goals as goal

pub returns-in_default-after : goal.returns-in_default-after
returns-in_default-after c = no_floor c.args.text.now c.in-Some.rest.now c.in-Some-number_before-2.rest.now
    c.in-Some-number_before-2.count c.in-Some.ensures c.in_default-number_before.ensures
    c.in-Some-number_before-2.ensures c.in_default-after.ensures

pub returns-in-Some-number_before-3 : goal.returns-in-Some-number_before-3
returns-in-Some-number_before-3 c = (
  Some c.in-Some-number_before-3.field-0-0,
  floored c.args.text.now c.in-Some.rest.now c.in-Some-number_before-2.rest.now c.in-Some-after.rest.now
      c.in-Some-number_before-3.rest.now c.in-Some-number_before-2.count c.in-Some-number_before-3.field-0-0
      c.in-Some.ensures c.in-Some-number_before-2.ensures c.in-Some-after.ensures c.in-Some-number_before-3.ensures,
)

pub returns-in-None : goal.returns-in-None
returns-in-None c = no_least c.args.text.now c.in-Some.rest.now c.in-Some-number_before-2.rest.now
    c.in-Some-after.rest.now c.in-Some-number_before-2.count c.in-Some.ensures c.in_default-number_before.ensures
    c.in-Some-number_before-2.ensures c.in-Some-after.ensures c.in-None.ensures
