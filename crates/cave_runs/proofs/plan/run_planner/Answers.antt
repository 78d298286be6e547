use Rattle.std.specs.Prelude.{option_copied}
use Rattle.std.proofs.lemmas.Result.{err_from_is_err_and}
use Rattle.cave_model.specs.RuleOf.{rule_of}
use Rattle.cave_runs.specs.Streams.{inputs, outputs, stream}
use Rattle.cave_runs.proofs.PlanRunLemmas.{plan_ended, plan_refused, plan_unread}
use Rattle.cave_runs.proofs.plan.run_planner.Goals as goal

pub returns-in_err-bytes : goal.returns-in_err-bytes
returns-in_err-bytes g c =
    let p = err_from_is_err_and c.from_residual.result c.from_residual.ensures.1 in
    rw (p.1, p.2) (plan_unread (inputs
    (stream (g.R.Read.remaining c.args.reader.now) (g.R.Read.remaining c.read_all.new.reader))
    (option_copied c.args.table) (rule_of c.args.rule)) c.args.planner.now.allowance c.in_err-bytes.field-0.0
    (g.W.Write.contents c.args.writer.now) (g.V.Write.contents c.args.proof.now)
    c.in_err-bytes.ensures.kinds c.in_err-bytes.ensures.too_long c.in_err-bytes.ensures.before)

pub returns-in_err-world : goal.returns-in_err-world
returns-in_err-world g c =
    let p = err_from_is_err_and c.from_residual-in_err-world.result c.from_residual-in_err-world.ensures.1 in
    rw (p.1, p.2) (plan_refused (inputs
    (stream (g.R.Read.remaining c.args.reader.now) (g.R.Read.remaining c.read_all.new.reader))
    (option_copied c.args.table) (rule_of c.args.rule)) c.args.planner.now.allowance c.in_ok-bytes.bytes.items
    c.in_ok-bytes.ensures.all c.in_ok-bytes.ensures.within c.in_ok-bytes.ensures.ended c.in_err-world.field-0.0
    (g.W.Write.contents c.args.writer.now) (g.V.Write.contents c.args.proof.now)
    (rw c.deref.ensures.value at c.in_err-world.ensures.fault) c.in_err-world.ensures.threads
    (rw c.deref.ensures.value at c.in_err-world.ensures.refused))

pub returns : goal.returns
returns g c =
    let found = rw c.deref.ensures.value at c.in_ok-world.ensures.found in
    plan_ended (inputs
    (stream (g.R.Read.remaining c.args.reader.now) (g.R.Read.remaining c.read_all.new.reader))
    (option_copied c.args.table) (rule_of c.args.rule)) c.args.planner.now.allowance c.in_ok-bytes.bytes.items
    c.in_ok-bytes.ensures.all c.in_ok-bytes.ensures.within c.in_ok-bytes.ensures.ended
    c.in_ok-world.world c.put_plan.result
    (outputs (stream (g.W.Write.contents c.args.writer.now) (g.W.Write.contents c.put_plan.new.writer))
    (stream (g.V.Write.contents c.args.proof.now) (g.V.Write.contents c.put_plan.new.proof)))
    found.0 (rw c.deref.ensures.value at c.in_ok-world.ensures.refused)
    c.put_plan.ensures.done c.put_plan.ensures.left
