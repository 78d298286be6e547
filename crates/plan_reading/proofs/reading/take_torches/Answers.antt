use Rattle.std.proofs.Common.{◌∙◌, ◌+◌, length, List, ℕ, subst, sym, ap, arith, refl}
use Rattle.std.proofs.lemmas.List.{length_push}
use Rattle.plan_reading.specs.Walked.{Took}
use Rattle.plan_reading.specs.declared.torch.ToldTorch.{ToldTorch}
use Rattle.plan_reading.proofs.ReadLemmas.{takes_all, takes_no_more, takes_torch}
use Rattle.plan_reading.proofs.reading.take_torches.Goals as goal

pub loop-index-init : goal.loop-index-init
loop-index-init c = (
  ap length c.new-torches.ensures.items,
  subst (λ (ts : List ToldTorch). Took c.args._text.now c.args.count c.args.lines ts c.args.start.now)
      (sym c.new-torches.ensures.items) c.requires,
)

pub returns-in_default-clause-fault : goal.returns-in_default-clause-fault
returns-in_default-clause-fault c = λ other. (
  c.args.lines + c.from.result + 1,
  takes_no_more c.args._text.now c.loop-index.rest.now c.args.count c.args.lines c.loop-index.torches.items
      (c.args.lines + c.from.result + 1) c.loop-index.invariant.1 c.in_default.ensures
      (omega (arith, c.loop-index.invariant.0, c.loop-index-test.true))
      (omega (arith, c.loop-index.invariant.0, c.from.ensures)),
  refl,
)

pub loop-index-preserved : goal.loop-index-preserved
loop-index-preserved c = (
  ap length c.in_ok-push.ensures.items ∙ length_push c.loop-index.torches.items c.in-Some.torch
      ∙ ap (λ (n : ℕ). n + 1) c.loop-index.invariant.0,
  subst (λ (ts : List ToldTorch). Took c.args._text.now c.args.count c.args.lines ts c.in-Some.after.now)
      (sym c.in_ok-push.ensures.items)
      (takes_torch c.args._text.now c.loop-index.rest.now c.in-Some.after.now c.args.count c.args.lines
      c.loop-index.torches.items c.in-Some.torch c.loop-index.invariant.1 c.in-Some.ensures),
)

pub returns-clause-found : goal.returns-clause-found
returns-clause-found c = takes_all c.args._text.now c.loop-index.rest.now c.args.count c.args.lines
    c.loop-index.torches.items c.loop-index.invariant.1
    (omega (arith, c.loop-index.invariant.0, c.loop-index-test.false, c.loop-index.auto))
