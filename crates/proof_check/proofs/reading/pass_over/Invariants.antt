use Rattle.std.proofs.Common.{ℕ, List}
use Rattle.proof_check.proofs.ReadingLemmas.{IsRead}
use Rattle.proof_check.proofs.reading.pass_over.Given as goal

-- what was read so far
abbrev pub invariant-loop : goal.invariant-loop
invariant-loop g l = (bytes : List ℕ) × IsRead (g.C.Read.remaining l.initial.reader)
    (g.C.Read.remaining l.reader) l.limit l.room bytes
