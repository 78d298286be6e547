-- A status of refusal leaves the output as it was.
use Rattle.std.proofs.Common.{◌≢◌, ℕ, List, Option, Result, Ok, Err, inl, inr, subst, arith}
use Rattle.std.specs.Io.KnownBytes.{Keeps}
use Rattle.cave_runs.specs.Streams.{stream}
use Rattle.cave_runs.specs.declared.fault.RunFault.{RunFault}
use Rattle.cave_runs.specs.declared.fault.RunFault.TheVariants as faults
use Rattle.cave_runs.specs.declared.plan.Outcome.{Outcome}
use Rattle.cave_runs.specs.declared.plan.Outcome.TheVariants.{Done, Stopped}
use Rattle.proof_check.specs.declared.verdict.Verdict.{Verdict}
use Rattle.proof_check.specs.declared.verdict.Verdict.TheVariants.{Accepted, Rejected}
use Rattle.torch_plan.specs.Answers.{LeavesOutput, check_status, text_status, plan_status}
use Rattle.run_system.specs.Status.{IsRefused, status}

-- other statuses aren't such
no_refusal : (code : ℕ) → code ≢ 1 → code ≢ 2 → code ≢ 3 → code ≢ 7 → ¬ IsRefused code
no_refusal code a b c d (inl e) = a e
no_refusal code a b c d (inr (inl e)) = b e
no_refusal code a b c d (inr (inr (inl e))) = c e
no_refusal code a b c d (inr (inr (inr e))) = d e

refused_0 : ¬ IsRefused 0
refused_0 = no_refusal 0 (λ e. omega (arith, e)) (λ e. omega (arith, e)) (λ e. omega (arith, e)) (λ e. omega (arith, e))

refused_4 : ¬ IsRefused 4
refused_4 = no_refusal 4 (λ e. omega (arith, e)) (λ e. omega (arith, e)) (λ e. omega (arith, e)) (λ e. omega (arith, e))

refused_5 : ¬ IsRefused 5
refused_5 = no_refusal 5 (λ e. omega (arith, e)) (λ e. omega (arith, e)) (λ e. omega (arith, e)) (λ e. omega (arith, e))

refused_6 : ¬ IsRefused 6
refused_6 = no_refusal 6 (λ e. omega (arith, e)) (λ e. omega (arith, e)) (λ e. omega (arith, e)) (λ e. omega (arith, e))

-- a fault with such a status isn't one of writing
left_by : (old new : Option (List ℕ)) (fault : RunFault) → (fault ≢ faults.WriteFailed → Keeps old new)
    → IsRefused (status fault) → Keeps old new
left_by old new fault left refused =
    left (λ same. refused_6 (subst (λ (f : RunFault). IsRefused (status f)) same refused))

pub text_silent : (old new : Option (List ℕ)) (ended : Result (Unit {0}) RunFault) → LeavesOutput ended (stream old new)
    → IsRefused (text_status ended) → Keeps old new
text_silent old new (Ok done) left refused = absurd (refused_0 refused)
text_silent old new (Err fault) left refused = left_by old new fault left refused

pub plan_silent : (old new : Option (List ℕ)) (ended : Result Outcome RunFault) → LeavesOutput ended (stream old new)
    → IsRefused (plan_status ended) → Keeps old new
plan_silent old new (Ok (Done turns)) left refused = absurd (refused_0 refused)
plan_silent old new (Ok (Stopped turns)) left refused = absurd (refused_5 refused)
plan_silent old new (Err fault) left refused = left_by old new fault left refused

pub check_silent : (old new : Option (List ℕ)) (ended : Result Verdict RunFault) → LeavesOutput ended (stream old new)
    → IsRefused (check_status ended) → Keeps old new
check_silent old new (Ok (Accepted torches)) left refused = absurd (refused_0 refused)
check_silent old new (Ok (Rejected reason)) left refused = absurd (refused_4 refused)
check_silent old new (Err fault) left refused = left_by old new fault left refused
