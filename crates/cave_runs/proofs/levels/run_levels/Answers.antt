use Rattle.std.proofs.Common.{List, Option, ℕ}
use Rattle.std.specs.Prelude.{option_copied}
use Rattle.std.proofs.lemmas.Result.{err_from_is_err_and}
use Rattle.cave_model.specs.Rule.{Rule}
use Rattle.cave_model.specs.RuleOf.{rule_of}
use Rattle.cave_runs.specs.LevelsRuns.{IsFaultOfLevels, IsLevelsTextOf}
use Rattle.cave_runs.specs.Streams.{stream}
use Rattle.cave_runs.specs.declared.fault.RunFault.{RunFault}
use Rattle.cave_runs.proofs.LevelsRunLemmas.{levels_unwritten}
use Rattle.cave_runs.proofs.RunLemmas.{text_ended, text_refused, text_unread}
use Rattle.cave_runs.proofs.levels.run_levels.Goals as goal

-- what may be written of bytes, by this table and rule and with this plan, and which faults they have
abbrev texts : Option (List ℕ) → Rule → Option (List ℕ) → List ℕ → List ℕ → Type 0
texts table rule plan bytes text = IsLevelsTextOf bytes table rule plan text

abbrev bad : Option (List ℕ) → Rule → Option (List ℕ) → List ℕ → RunFault → Type 0
bad table rule plan bytes fault = IsFaultOfLevels bytes table rule plan fault

pub returns-in_err-bytes : goal.returns-in_err-bytes
returns-in_err-bytes g c =
    let p = err_from_is_err_and c.from_residual.result c.from_residual.ensures.1 in
    rw (p.1, p.2) (text_unread (texts (option_copied c.args.table) (rule_of c.args.rule) (option_copied c.args.plan))
    (bad (option_copied c.args.table) (rule_of c.args.rule) (option_copied c.args.plan))
    (stream (g.R.Read.remaining c.args.reader.now) (g.R.Read.remaining c.read_all.new.reader))
    c.in_err-bytes.field-0.0 (g.W.Write.contents c.args.writer.now)
    c.in_err-bytes.ensures.kinds c.in_err-bytes.ensures.too_long c.in_err-bytes.ensures.before)

pub returns-in_err-text : goal.returns-in_err-text
returns-in_err-text g c =
    let p = err_from_is_err_and c.from_residual-in_err-text.result c.from_residual-in_err-text.ensures.1 in
    rw (p.1, p.2) (text_refused (texts (option_copied c.args.table) (rule_of c.args.rule) (option_copied c.args.plan))
    (bad (option_copied c.args.table) (rule_of c.args.rule) (option_copied c.args.plan))
    (stream (g.R.Read.remaining c.args.reader.now) (g.R.Read.remaining c.read_all.new.reader)) c.in_ok-bytes.bytes.items
    c.in_ok-bytes.ensures.all c.in_ok-bytes.ensures.within c.in_ok-bytes.ensures.ended c.in_err-text.field-0.0
    (g.W.Write.contents c.args.writer.now) (rw c.deref.ensures.value at c.in_err-text.ensures.fault)
    (levels_unwritten c.in_ok-bytes.bytes.items (option_copied c.args.table) (rule_of c.args.rule)
    (option_copied c.args.plan) c.in_err-text.field-0.0)
    (rw c.deref.ensures.value at c.in_err-text.ensures.refused))

pub returns : goal.returns
returns g c = text_ended (texts (option_copied c.args.table) (rule_of c.args.rule) (option_copied c.args.plan))
    (bad (option_copied c.args.table) (rule_of c.args.rule) (option_copied c.args.plan))
    (stream (g.R.Read.remaining c.args.reader.now) (g.R.Read.remaining c.read_all.new.reader)) c.in_ok-bytes.bytes.items
    c.in_ok-bytes.ensures.all c.in_ok-bytes.ensures.within c.in_ok-bytes.ensures.ended c.in_ok-text.text.items
    c.put_all.result (stream (g.W.Write.contents c.args.writer.now) (g.W.Write.contents c.put_all.new.writer))
    (rw c.deref.ensures.value at c.in_ok-text.ensures.done)
    (rw c.deref.ensures.value at c.in_ok-text.ensures.refused)
    (rw c.deref-2.ensures.value at c.put_all.ensures.ok) c.put_all.ensures.err
    (rw c.deref-2.ensures.value at c.put_all.ensures.begun)
