use Rattle.std.proofs.Common.{length}
use Rattle.proof_check.proofs.TrialLemmas.{Hearing}
use Rattle.proof_check.proofs.trial.Trial.push.Given as goal

abbrev pub invariant-loop-kind : goal.invariant-loop-kind
invariant-loop-kind l = Hearing l.world l.piece l.initial.self l.self l.rest

abbrev pub decreases-loop-kind : goal.decreases-loop-kind
decreases-loop-kind l = length l.rest
