use Rattle.certificate_lines.proofs.Words.{word_found}
use Rattle.plan_reading.proofs.fields.after.Goals as goal

pub returns : goal.returns
returns c = word_found c.args.text.now c.args.word.now c.strip_prefix.result c.strip_prefix.ensures.cases
