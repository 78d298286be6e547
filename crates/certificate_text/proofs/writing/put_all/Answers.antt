use Rattle.certificate_text.proofs.WritingLemmas.{put_more}
use Rattle.certificate_text.proofs.writing.put_all.Goals as goal

pub loop-rest-preserved : goal.loop-rest-preserved
loop-rest-preserved g c =
    rw c.split_at.ensures.back (put_more _ (g.W.Write.contents c.loop-rest.writer) _ c.args.text.now
    c.loop-rest.rest.now c.in-Ok.count c.loop-rest.invariant c.in-Ok.ensures.bytes)
