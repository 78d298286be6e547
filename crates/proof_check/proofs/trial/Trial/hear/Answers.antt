use Rattle.std.proofs.Common.{ℕ, List, ◌∙◌, ◌+◌, sym, ap, subst, refl, arith}
use Rattle.std.proofs.lemmas.Bool.{true≢false}
use Rattle.proof_check.specs.Heard.{Hears}
use Rattle.proof_check.specs.Tried.{AgreesOn, torches_on}
use Rattle.proof_check.proofs.TrialLemmas.{catches_differing, catches_other, catches_line, behind_torches}
use Rattle.proof_check.proofs.TrialLemmas.{behind_regions, behind_sum}
use Rattle.proof_check.proofs.trial.Trial.hear.Goals as goal

pub returns-then-self-clause-catches : goal.returns-then-self-clause-catches
returns-then-self-clause-catches c = catches_differing c.args.world.now c.args.kind c.args.self.now c.if-self.true

pub returns-then-not-agrees-clause-catches : goal.returns-then-not-agrees-clause-catches
returns-then-not-agrees-clause-catches c = catches_other c.args.world.now c.args.kind c.args.self.now _ refl
    (λ a. true≢false (sym (c.if-not-agrees.ensures.1
    (subst (AgreesOn c.args.world.now c.args.kind) (sym c.numbers-numbers.ensures) a))))

pub overflow_add-self : goal.overflow_add-self
overflow_add-self c = (let s = behind_sum c.args.world.now c.args.self.now c.args.kind c.requires c.if-self.false in
    let e = ap (torches_on c.args.kind) c.numbers-numbers.ensures in omega (arith, c.torch_count.ensures))

pub judge_line-requires-clause-torches : goal.judge_line-requires-clause-torches
judge_line-requires-clause-torches c = behind_torches c.args.world.now c.args.self.now c.args.kind c.requires
    c.if-self.false

pub judge_line-requires-clause-regions : goal.judge_line-requires-clause-regions
judge_line-requires-clause-regions c = behind_regions c.args.world.now c.args.self.now c.args.kind c.requires
    c.if-self.false

pub returns-clause-catches : goal.returns-clause-catches
returns-clause-catches c = catches_line c.args.world.now c.args.kind c.taken.result c.args.self.now _
    c.if-self.false c.if-self.false
    (subst (AgreesOn c.args.world.now c.args.kind) c.numbers-numbers.ensures (c.if-not-agrees.ensures.0 refl))
    (ap (λ (n : ℕ). c.args.self.now.torches + n)
    (c.torch_count.ensures ∙ ap (torches_on c.args.kind) c.numbers-numbers.ensures))
    c.taken.ensures
    (subst (λ (ns : List ℕ). Hears c.args.kind ns c.taken.result c.args.self.now.judge c.judge_line.new.self)
    c.numbers-numbers.ensures c.in_ok-judge_line.ensures)
