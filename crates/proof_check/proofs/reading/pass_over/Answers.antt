use Rattle.std.proofs.Common.{◌≡◌, ◌+◌, ◌-◌, ◌++◌, take, arith}
use Rattle.proof_check.proofs.ReadingLemmas.{read_more}
use Rattle.proof_check.proofs.reading.pass_over.Goals as goal

pub loop-preserved : goal.loop-preserved
loop-preserved g c = (
  c.loop.invariant.0 ++ take c.in_ok-count.count c.read_piece.new.buffer,
  (let fits = c.in_ok-count.ensures.fits in
      let e : c.loop.room - c.in_ok-count.count + c.in_ok-count.count ≡ c.loop.room = omega arith in
      read_more _ _ _ c.args.limit c.loop.room (c.loop.room - c.in_ok-count.count)
      c.in_ok-count.count c.loop.invariant.0 c.read_piece.new.buffer c.loop.invariant.1 c.in_ok-count.ensures e),
)
