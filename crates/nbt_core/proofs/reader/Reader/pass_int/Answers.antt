use Rattle.nbt_core.proofs.PlainLemmas.{int_skipped}
use Rattle.nbt_core.proofs.reader.Reader.pass_int.Goals as goal

pub returns-clause-read : goal.returns-clause-read
returns-clause-read c = λ _. record {
  name = c.in-Ok.field-0.now;
  payload = c.text.new.self.rest.now;
  named = c.in-Ok.ensures.read;
  whole = int_skipped c.args.self.now.end c.args.room c.text.new.self.rest.now c.skip_run.new.self.rest.now
      (rw c.in-Ok.ensures.end at c.in-Ok-skip_run.ensures.read);
}
