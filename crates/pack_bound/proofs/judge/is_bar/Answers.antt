use Rattle.std.proofs.Common.{sym, ◌∙◌}
use Rattle.std.proofs.lemmas.Bool.{true≢false}
use Rattle.set_cover.specs.Instance.{row_of}
use Rattle.pack_bound.proofs.JudgeLemmas.{bar_dominated, barred_parts, within_as}
use Rattle.pack_bound.proofs.judge.is_bar.Goals as goal

pub returns-then-may_give_way : goal.returns-then-may_give_way
returns-then-may_give_way c =
    let region = c.args.region.now in let state = c.args.node.now in
    let place = row_of region c.args.place in let by = row_of region c.args.by in
    let first = c.row_at.ensures.row in let second = c.row_at-then-may_give_way.ensures.row in (
      λ t. bar_dominated region state c.args.place c.args.by c.requires
          (c.may_give_way.ensures.0 c.if-may_give_way.true)
          (within_as place state.unlit by c.row_at.result.now c.unlit.result.now
          c.row_at-then-may_give_way.result.now first c.unlit.ensures second (c.is_within.ensures.0 t)),
      λ m. c.is_within.ensures.1
          (within_as c.row_at.result.now c.unlit.result.now c.row_at-then-may_give_way.result.now
          place state.unlit by (sym first) (sym c.unlit.ensures) (sym second)
          (barred_parts region state c.args.place c.args.by c.requires m).1),
    )

pub returns-else-may_give_way : goal.returns-else-may_give_way
returns-else-may_give_way c = (
  λ t. absurd (true≢false (sym t ∙ c.if-may_give_way.false)),
  λ m. c.may_give_way.ensures.1
      (barred_parts c.args.region.now c.args.node.now c.args.place c.args.by c.requires m).0,
)
