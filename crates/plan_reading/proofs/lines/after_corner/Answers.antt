use Rattle.plan_reading.proofs.FieldLemmas.{no_corner}
use Rattle.plan_reading.proofs.lines.after_corner.Goals as goal

pub returns-in-None : goal.returns-in-None
returns-in-None c = no_corner c.args.text.now c.in-Some.rest.now c.in-Some.ensures c.in-None.ensures
