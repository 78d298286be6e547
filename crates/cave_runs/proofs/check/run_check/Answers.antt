use Rattle.std.specs.Prelude.{option_copied}
use Rattle.std.proofs.lemmas.Result.{err_from_is_err_and}
use Rattle.cave_model.specs.RuleOf.{rule_of}
use Rattle.cave_runs.specs.Streams.{stream}
use Rattle.cave_runs.proofs.CheckRunLemmas.{run_ended, run_faulted, run_unread, run_unsaid, run_unwritten}
use Rattle.cave_runs.proofs.check.run_check.Goals as goal

pub returns-in_err-bytes : goal.returns-in_err-bytes
returns-in_err-bytes g c =
    let p = err_from_is_err_and c.from_residual.result c.from_residual.ensures.1 in
    rw (p.1, p.2) (run_unread (g.R.Read.remaining c.args.reader.now) (g.R.Read.remaining c.read_all.new.reader)
    (option_copied c.args.table) (rule_of c.args.rule) (g.C.Read.remaining c.args.certificate.now)
    c.in_err-bytes.field-0.0 (g.W.Write.contents c.args.writer.now)
    c.in_err-bytes.ensures.kinds c.in_err-bytes.ensures.too_long c.in_err-bytes.ensures.before)

pub returns-in_err-verdict : goal.returns-in_err-verdict
returns-in_err-verdict g c =
    let p = err_from_is_err_and c.from_residual-in_err-verdict.result c.from_residual-in_err-verdict.ensures.1 in
    rw (p.1, p.2) (run_faulted (g.R.Read.remaining c.args.reader.now) (g.R.Read.remaining c.read_all.new.reader)
    (option_copied c.args.table) (rule_of c.args.rule) (g.C.Read.remaining c.args.certificate.now)
    (g.C.Read.remaining c.check_from.new.certificate) c.in_ok-bytes.bytes.items c.in_ok-bytes.ensures.all
    c.in_err-verdict.field-0.0 (g.W.Write.contents c.args.writer.now)
    c.in_ok-bytes.ensures.within c.in_ok-bytes.ensures.ended
    (rw c.deref.ensures.value at c.in_err-verdict.ensures))

pub returns-in_err-line : goal.returns-in_err-line
returns-in_err-line g c =
    let p = err_from_is_err_and c.from_residual-in_err-line.result c.from_residual-in_err-line.ensures.1 in
    rw (p.1, p.2) (run_unsaid (g.R.Read.remaining c.args.reader.now) (g.R.Read.remaining c.read_all.new.reader)
    (option_copied c.args.table) (rule_of c.args.rule) (g.C.Read.remaining c.args.certificate.now)
    (g.C.Read.remaining c.check_from.new.certificate) c.in_ok-bytes.bytes.items c.in_ok-bytes.ensures.all
    c.in_ok-verdict.verdict c.in_ok-bytes.ensures.within (rw c.deref.ensures.value at c.in_ok-verdict.ensures)
    (g.W.Write.contents c.args.writer.now))

pub returns-in_err-put_all : goal.returns-in_err-put_all
returns-in_err-put_all g c =
    let p = err_from_is_err_and c.from_residual-in_err-put_all.result c.from_residual-in_err-put_all.ensures.1 in
    rw (p.1, p.2) (run_unwritten (g.R.Read.remaining c.args.reader.now)
    (g.R.Read.remaining c.read_all.new.reader)
    (option_copied c.args.table) (rule_of c.args.rule) (g.C.Read.remaining c.args.certificate.now)
    (g.C.Read.remaining c.check_from.new.certificate) c.in_ok-bytes.bytes.items c.in_ok-bytes.ensures.all
    c.in_ok-verdict.verdict c.in_ok-bytes.ensures.within (rw c.deref.ensures.value at c.in_ok-verdict.ensures)
    c.in_err-put_all.field-0.0 (stream (g.W.Write.contents c.args.writer.now) (g.W.Write.contents c.put_all.new.writer))
    c.in_err-put_all.ensures.err
    (rw (c.as_bytes.ensures.value, c.in_ok-line.ensures) at c.in_err-put_all.ensures.begun))

pub returns : goal.returns
returns g c =
    run_ended (g.R.Read.remaining c.args.reader.now) (g.R.Read.remaining c.read_all.new.reader)
    (option_copied c.args.table) (rule_of c.args.rule) (g.C.Read.remaining c.args.certificate.now)
    (g.C.Read.remaining c.check_from.new.certificate) c.in_ok-bytes.bytes.items c.in_ok-bytes.ensures.all
    c.in_ok-verdict.verdict c.in_ok-bytes.ensures.within (rw c.deref.ensures.value at c.in_ok-verdict.ensures)
    (stream (g.W.Write.contents c.args.writer.now) (g.W.Write.contents c.put_all.new.writer))
    (record { high = c.args.rule.one_or_two; needed = c.args.rule.one_or_eight })
    (rw (c.as_bytes.ensures.value, c.in_ok-line.ensures) at c.in_ok-put_all.ensures.ok)
