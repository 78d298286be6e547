use Rattle.std.proofs.Common.{List, Option, ℕ, string_bytes}
use Rattle.std.specs.Prelude.{option_copied}
use Rattle.std.proofs.lemmas.Result.{err_from_is_err_and}
use Rattle.cave_runs.specs.RowsRuns.{IsFaultOfRows, IsRowsTextOf}
use Rattle.cave_runs.specs.Streams.{stream}
use Rattle.cave_runs.specs.declared.fault.RunFault.{RunFault}
use Rattle.cave_runs.proofs.RowsRunLemmas.{rows_unwritten}
use Rattle.cave_runs.proofs.RunLemmas.{text_ended, text_refused, text_unread}
use Rattle.cave_runs.proofs.rows.run_rows.Goals as goal

-- what may be written of bytes, by this table, and which faults they have
abbrev texts : Option (List ℕ) → List ℕ → List ℕ → Type 0
texts table bytes text = IsRowsTextOf bytes table text

abbrev bad : Option (List ℕ) → List ℕ → RunFault → Type 0
bad table bytes fault = IsFaultOfRows bytes table fault

pub returns-in_err-bytes : goal.returns-in_err-bytes
returns-in_err-bytes g c =
    let p = err_from_is_err_and c.from_residual.result c.from_residual.ensures.1 in
    rw (p.1, p.2) (text_unread (texts (option_copied c.args.table))
    (bad (option_copied c.args.table))
    (stream (g.R.Read.remaining c.args.reader.now) (g.R.Read.remaining c.read_all.new.reader))
    c.in_err-bytes.field-0.0 (g.W.Write.contents c.args.writer.now)
    c.in_err-bytes.ensures.kinds c.in_err-bytes.ensures.too_long c.in_err-bytes.ensures.before)

pub returns-in_err-text : goal.returns-in_err-text
returns-in_err-text g c =
    let p = err_from_is_err_and c.from_residual-in_err-text.result c.from_residual-in_err-text.ensures.1 in
    rw (p.1, p.2) (text_refused (texts (option_copied c.args.table))
    (bad (option_copied c.args.table))
    (stream (g.R.Read.remaining c.args.reader.now) (g.R.Read.remaining c.read_all.new.reader)) c.in_ok-bytes.bytes.items
    c.in_ok-bytes.ensures.all c.in_ok-bytes.ensures.within c.in_ok-bytes.ensures.ended c.in_err-text.field-0.0
    (g.W.Write.contents c.args.writer.now) (rw c.deref.ensures.value at c.in_err-text.ensures.fault)
    (rows_unwritten c.in_ok-bytes.bytes.items (option_copied c.args.table) c.in_err-text.field-0.0)
    (rw c.deref.ensures.value at c.in_err-text.ensures.refused))

pub returns : goal.returns
returns g c = text_ended (texts (option_copied c.args.table))
    (bad (option_copied c.args.table))
    (stream (g.R.Read.remaining c.args.reader.now) (g.R.Read.remaining c.read_all.new.reader)) c.in_ok-bytes.bytes.items
    c.in_ok-bytes.ensures.all c.in_ok-bytes.ensures.within c.in_ok-bytes.ensures.ended (string_bytes c.in_ok-text.text)
    c.put_all.result (stream (g.W.Write.contents c.args.writer.now) (g.W.Write.contents c.put_all.new.writer))
    (rw c.deref.ensures.value at c.in_ok-text.ensures.done)
    (rw c.deref.ensures.value at c.in_ok-text.ensures.refused)
    (rw c.as_bytes.ensures.value at c.put_all.ensures.ok) c.put_all.ensures.err
    (rw c.as_bytes.ensures.value at c.put_all.ensures.begun)
