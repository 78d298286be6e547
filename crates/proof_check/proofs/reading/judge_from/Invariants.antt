use Rattle.proof_check.proofs.ReadingLemmas.{IsReadOf}
use Rattle.proof_check.proofs.reading.judge_from.Given as goal

-- what was read and heard so far
abbrev pub invariant-loop : goal.invariant-loop
invariant-loop g l = IsReadOf l.world (g.C.Read.remaining l.initial.reader)
    (g.C.Read.remaining l.reader) l.limit l.room l.counter l.trial
