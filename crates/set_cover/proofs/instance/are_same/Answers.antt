use Rattle.std.proofs.Common.{[], refl, ◌∙◌, arith}
use Rattle.std.proofs.lemmas.List.{get_or_default, same_lists}
use Rattle.set_cover.proofs.instance.are_same.Goals as goal

pub returns : goal.returns
returns c = (
  λ t. same_lists c.args.rows.now c.args.others.now c.if-rows-others.false
      (λ k d lt. get_or_default c.args.rows.now k d [] lt
      ∙ c.loop-index.invariant k (omega (arith, lt, c.loop-index-test.false))
      ∙ get_or_default c.args.others.now k [] d (omega (arith, lt, c.if-rows-others.false))),
  λ e. refl,
)
