use Rattle.nbt_core.proofs.PlainLemmas.{ints_skipped}
use Rattle.nbt_core.proofs.reader.Reader.pass_ints.Goals as goal

pub returns-clause-read : goal.returns-clause-read
returns-clause-read c = λ _. record {
  name = c.in-Ok.field-0.now;
  payload = c.text.new.self.rest.now;
  named = c.in-Ok.ensures.read;
  whole = ints_skipped c.args.self.now.end c.args.room c.in-Some.count c.text.new.self.rest.now
      c.ints.new.self.rest.now c.skip_run.new.self.rest.now (rw c.in-Ok.ensures.end at c.in-Some.ensures.read)
      (rw (c.in-Some.ensures.end, c.in-Ok.ensures.end) at c.in-Ok-skip_run.ensures.read);
}
