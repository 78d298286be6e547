use Rattle.std.proofs.Common.{subst}
use Rattle.std.specs.Prelude.{Option}
use Rattle.proof_check.specs.Ending.{Ends}
use Rattle.proof_check.specs.declared.reason.Reason.{Reason}
use Rattle.proof_check.proofs.ConcludeLemmas.{concludes_misfit, concludes_box, concludes_reason, concludes_none}
use Rattle.proof_check.proofs.trial.Trial.finish.Goals as goal

pub returns-in-Some : goal.returns-in-Some
returns-in-Some c = concludes_misfit c.args.world.now c.args.self.now c.in-Some.line c.in-Some.ensures

pub returns-then-self : goal.returns-then-self
returns-then-self c = concludes_box c.args.world.now c.args.self.now c.in_default.ensures c.if-self.true

pub returns-in-Some-2 : goal.returns-in-Some-2
returns-in-Some-2 c = concludes_reason c.args.world.now c.args.self.now c.in-Some-2.reason c.in_default.ensures
    c.if-self.false
    (subst (λ (o : Option Reason). Ends c.args.world.now c.args.self.now.judge o) c.in-Some-2.is c.in_ok-reason.ensures)

pub returns-in-None : goal.returns-in-None
returns-in-None c = concludes_none c.args.world.now c.args.self.now c.in_default.ensures c.if-self.false
    (subst (λ (o : Option Reason). Ends c.args.world.now c.args.self.now.judge o) c.in-None.is c.in_ok-reason.ensures)
