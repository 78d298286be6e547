use Rattle.proof_rules.proofs.OmitLemmas.{left_from, left_is_other, other_is_left}
use Rattle.node_judges.proofs.TestLemmas.{off_true}
use Rattle.node_judges.proofs.testing.is_left.Goals as goal

pub returns-then-has-clause-left : goal.returns-then-has-clause-left
returns-then-has-clause-left c = (
  λ t. absurd cc,
  λ h. absurd (left_is_other c.args.setting.now.omitted.now.items c.args.setting.now.region.now.items c.args.cell h
      (c.has.ensures.has.0 c.if-has.true)),
)

pub returns-clause-left : goal.returns-clause-left
returns-clause-left c = (
  λ t. other_is_left c.args.setting.now.omitted.now.items c.args.setting.now.region.now.items c.args.cell
      (c.has-2.ensures.has.0 t)
      (λ h. off_true c.has.result c.if-has.false (c.has.ensures.has.1 h)),
  λ h. c.has-2.ensures.has.1 (left_from c.args.setting.now.omitted.now.items
      c.args.setting.now.region.now.items c.args.cell h),
)
