use Rattle.std.proofs.Common.{◌≡◌, ◌+◌, ◌-◌, take, inl, inr, refl, arith}
use Rattle.std.proofs.lemmas.Result.{err_from_is_err_and}
use Rattle.proof_check.proofs.ReadingLemmas.{none_kinds, of_more, of_verdict, read_failed, read_too_long, read_within}
use Rattle.proof_check.proofs.reading.judge_from.Goals as goal

pub returns-in_err-count-clause-too_long : goal.returns-in_err-count-clause-too_long
returns-in_err-count-clause-too_long g c =
    let p = err_from_is_err_and c.from_residual-in_err-count.result c.from_residual-in_err-count.ensures.1 in
    rw (p.1, p.2) (read_too_long _ _ _ c.args.limit c.loop.room c.loop.invariant.bytes c.in_err-count.field-0.0
    c.loop.invariant.read c.in_err-count.ensures)

pub returns-in_err-count-clause-before : goal.returns-in_err-count-clause-before
returns-in_err-count-clause-before g c =
    let p = err_from_is_err_and c.from_residual-in_err-count.result c.from_residual-in_err-count.ensures.1 in
    rw (p.1, p.2) (read_failed _ _ _ c.args.limit c.loop.room c.loop.invariant.bytes c.in_err-count.field-0.0
    c.loop.invariant.read c.in_err-count.ensures)

pub returns-then-count-eq0-clause-whole : goal.returns-then-count-eq0-clause-whole
returns-then-count-eq0-clause-whole g c =
    of_verdict c.args.world.now _ _ _ c.args.limit c.loop.room c.loop.counter c.in_ok-count.count
    c.read_piece.new.buffer c.loop.trial c.in_ok-verdict.verdict c.loop.invariant c.in_ok-count.ensures
    c.if-count-eq0.true c.in_ok-verdict.ensures

pub returns-then-count-eq0-clause-within : goal.returns-then-count-eq0-clause-within
returns-then-count-eq0-clause-within g c =
    read_within _ _ _ c.args.limit c.loop.room c.in_ok-count.count c.loop.invariant.bytes c.read_piece.new.buffer
    c.loop.invariant.read c.in_ok-count.ensures c.if-count-eq0.true

pub loop-preserved : goal.loop-preserved
loop-preserved g c =
    let fits = c.in_ok-count.ensures.fits in
    let e : c.loop.room - c.in_ok-count.count + c.in_ok-count.count ≡ c.loop.room = omega arith in
    of_more c.args.world.now _ _ _ c.args.limit c.loop.room (c.loop.room - c.in_ok-count.count)
    c.loop.counter c.in_ok-count.count c.read_piece.new.buffer (take c.in_ok-count.count c.read_piece.new.buffer)
    c.loop.trial c.push.new.self c.loop.invariant c.in_ok-count.ensures (omega arith) e refl c.in_ok-push.ensures

pub returns-in_err-count-clause-kinds : goal.returns-in_err-count-clause-kinds
returns-in_err-count-clause-kinds g c =
    let p = err_from_is_err_and c.from_residual-in_err-count.result c.from_residual-in_err-count.ensures.1 in
    rw (p.1, p.2) (elim (none_kinds _ _ c.loop.room c.in_err-count.field-0.0 c.in_err-count.ensures) [
      | inl failed ↦ inl failed
      | inr long ↦ inr (inl long)
    ])
