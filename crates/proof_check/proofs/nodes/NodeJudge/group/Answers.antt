use Rattle.std.proofs.Common.{refl, sym, ap, subst, ◌∙◌, arith}
use Rattle.proof_check.specs.Judged.{idle}
use Rattle.proof_check.specs.Kept.{IsWeighing}
use Rattle.proof_check.specs.declared.weighing.Weighing as held
use Rattle.proof_check.proofs.GroupSteps.{group_idle, group_kept, group_last}
use Rattle.proof_check.proofs.nodes.NodeJudge.group.Goals as goal

pub returns-then-self-eq0-clause-group : goal.returns-then-self-eq0-clause-group
returns-then-self-eq0-clause-group c = group_idle c.args.lists.now c.args.group c.args.self.now c.if-self-eq0.true

pub returns-in_ok-weighted-clause-group : goal.returns-in_ok-weighted-clause-group
returns-in_ok-weighted-clause-group c =
    let told = c.replace-told.ensures.value in
    group_last c.args.lists.now c.args.group c.args.self.now c.replace-told.new.dest _ c.weighted.new.self
    c.deref.result.now c.replace-told.result.line refl
    (subst (λ (w : held.Weighing). IsWeighing w idle) (sym c.replace-told.ensures.after)
    (record { line = c.new.ensures.line; to_come = c.new.ensures.to_come; groups = c.new.ensures.none }))
    (omega (arith, c.if-self-eq0.false, c.if-self-eq0-2.true)) (ap (λ (w : held.Weighing). w.line) told)
    (c.deref.ensures.value ∙ ap (λ (w : held.Weighing). w.groups.items) told ∙ c.in_ok-push.ensures.items)
    c.in_ok-weighted.ensures.weighted

pub returns-else-self-eq0-2-clause-group : goal.returns-else-self-eq0-2-clause-group
returns-else-self-eq0-2-clause-group c = group_kept c.args.lists.now c.args.group c.args.self.now _ _ refl refl
    (omega (arith, c.if-self-eq0.false)) (omega (arith, c.if-self-eq0-2.false)) c.in_ok-push.ensures.items
