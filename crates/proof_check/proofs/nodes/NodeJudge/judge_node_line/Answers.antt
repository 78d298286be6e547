use Rattle.std.proofs.Common.{sym, subst, arith}
use Rattle.certificate_lines.specs.declared.kind.LineKind.{LineKind}
use Rattle.proof_check.specs.Kept.{StepsOn}
use Rattle.proof_check.proofs.GroupSteps.{omit_nothing, omit_steps}
use Rattle.proof_check.proofs.StepLemmas.{dark_steps, torch_steps, leaf_nothing, leaf_steps, other_nothing, judged}
use Rattle.proof_check.proofs.nodes.NodeJudge.judge_node_line.Goals as goal

pub returns-in_ok-begin-in-Dark-clause-judges : goal.returns-in_ok-begin-in-Dark-clause-judges
returns-in_ok-begin-in-Dark-clause-judges c =
    judged c.args.lists.now c.args.kind c.args.numbers.now c.args.line c.args.self.now c.begin.new.self
    c.is_some.result c.is_some.ensures c.if-is_some.false
    (subst (λ (k : LineKind). StepsOn c.args.lists.now k c.args.numbers.now c.args.line c.args.self.now
    c.begin.new.self) (sym c.in-Dark.is)
    (dark_steps c.args.lists.now c.args.numbers.now c.args.line c.args.self.now c.begin.new.self c.requires.wide
    c.in_ok-begin-in-Dark.ensures.begins))

pub returns-in-Torches-clause-judges : goal.returns-in-Torches-clause-judges
returns-in-Torches-clause-judges c =
    judged c.args.lists.now c.args.kind c.args.numbers.now c.args.line c.args.self.now c.expect.new.self
    c.is_some.result c.is_some.ensures c.if-is_some.false
    (subst (λ (k : LineKind). StepsOn c.args.lists.now k c.args.numbers.now c.args.line c.args.self.now
    c.expect.new.self) (sym c.in-Torches.is)
    (torch_steps c.args.lists.now c.args.numbers.now c.args.line c.args.self.now c.expect.new.self c.expect.ensures))

pub returns-in_default : goal.returns-in_default
returns-in_default c = record {
  judges = judged c.args.lists.now c.args.kind c.args.numbers.now c.args.line c.args.self.now c.args.self.now
      c.is_some.result c.is_some.ensures c.if-is_some.false
      (other_nothing c.args.lists.now c.args.kind c.args.numbers.now c.args.line c.args.self.now
      c.in_default.not-Dark c.in_default.not-Torches c.in_default.not-Leaf c.in_default.not-Branch c.in_default.not-Bar
      c.in_default.not-Weighted c.in_default.not-Group c.in_default.not-Omit c.in_default.not-Pick);
  wide = c.requires.wide;
}

pub returns-in_default-numbers-clause-judges : goal.returns-in_default-numbers-clause-judges
returns-in_default-numbers-clause-judges c =
    judged c.args.lists.now c.args.kind c.args.numbers.now c.args.line c.args.self.now c.args.self.now
    c.is_some.result c.is_some.ensures c.if-is_some.false
    (subst (λ (k : LineKind). StepsOn c.args.lists.now k c.args.numbers.now c.args.line c.args.self.now
    c.args.self.now) (sym c.in-Leaf.is)
    (leaf_nothing c.args.lists.now c.args.numbers.now c.args.line c.args.self.now
    (omega (arith, c.in_default-numbers.len_below))))

pub returns-in_ok-leaf-in-Leaf-clause-judges : goal.returns-in_ok-leaf-in-Leaf-clause-judges
returns-in_ok-leaf-in-Leaf-clause-judges c =
    judged c.args.lists.now c.args.kind c.args.numbers.now c.args.line c.args.self.now c.leaf.new.self
    c.is_some.result c.is_some.ensures c.if-is_some.false
    (subst (λ (k : LineKind). StepsOn c.args.lists.now k c.args.numbers.now c.args.line c.args.self.now
    c.leaf.new.self) (sym c.in-Leaf.is)
    (leaf_steps c.args.lists.now c.args.numbers.now c.args.line c.args.self.now c.leaf.new.self
    (omega (arith, c.in-len1-up.len_at_least)) c.in_ok-leaf-in-Leaf.ensures.leaf))

pub returns-in_default-numbers-2-clause-judges : goal.returns-in_default-numbers-2-clause-judges
returns-in_default-numbers-2-clause-judges c =
    judged c.args.lists.now c.args.kind c.args.numbers.now c.args.line c.args.self.now c.args.self.now
    c.is_some.result c.is_some.ensures c.if-is_some.false
    (subst (λ (k : LineKind). StepsOn c.args.lists.now k c.args.numbers.now c.args.line c.args.self.now
    c.args.self.now) (sym c.in-Omit.is)
    (omit_nothing c.args.lists.now c.args.numbers.now c.args.line c.args.self.now
    (omega (arith, c.in_default-numbers-2.len_below))))

pub returns-in_ok-omit-in-Omit-clause-judges : goal.returns-in_ok-omit-in-Omit-clause-judges
returns-in_ok-omit-in-Omit-clause-judges c =
    judged c.args.lists.now c.args.kind c.args.numbers.now c.args.line c.args.self.now c.omit.new.self
    c.is_some.result c.is_some.ensures c.if-is_some.false
    (subst (λ (k : LineKind). StepsOn c.args.lists.now k c.args.numbers.now c.args.line c.args.self.now
    c.omit.new.self) (sym c.in-Omit.is)
    (omit_steps c.args.lists.now c.args.numbers.now c.args.line c.args.self.now c.omit.new.self
    (omega (arith, c.in-len1-up-numbers.len_at_least)) c.in_ok-omit-in-Omit.ensures.omission))
