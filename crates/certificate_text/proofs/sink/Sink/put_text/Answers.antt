use Rattle.std.proofs.Common.{string_bytes, rules}
use Rattle.std.proofs.lemmas.Result.{err_from_is_err_and}
use Rattle.certificate_text.proofs.SentLemmas.{front_longer, front_none, front_taken, asked_some}
use Rattle.certificate_text.proofs.sink.Sink.put_text.Goals.{then-len-ge-FULL+in_ok-flush, else-len-ge-FULL}
use Rattle.certificate_text.proofs.sink.Sink.put_text.Goals as goal

pub returns-in_err-flush : goal.returns-in_err-flush
returns-in_err-flush g c =
    let p = err_from_is_err_and c.from_residual.result c.from_residual.ensures.1 in
    rw p.1 (record {
      same = c.in_err-flush.ensures.same;
      taken = front_longer _ _ (string_bytes c.args.self.now.buffer.now) c.args.text.now c.in_err-flush.ensures.begun;
    })

pub returns-in_err-push_str : goal.returns-in_err-push_str
returns-in_err-push_str g c =
    let p = err_from_is_err_and c.from_residual-in_err-push_str.result c.from_residual-in_err-push_str.ensures.1 in
    let some = asked_some c.if-len-ge-FULL.self.buffer.now c.args.text.now c.in_err-push_str.ensures.full in
    rw p.1 (elim c.if-len-ge-FULL.branch [
      | then-len-ge-FULL+in_ok-flush w ↦ record {
        same = search rules;
        taken = rw w.self-is (front_taken _ _ (string_bytes c.args.self.now.buffer.now) c.args.text.now some
            w.in_ok-flush.ensures.done);
      }
      | else-len-ge-FULL w ↦ record {
        same = search rules;
        taken = rw w.self-is (front_none _ (string_bytes c.args.self.now.buffer.now) c.args.text.now some);
      }
    ])
