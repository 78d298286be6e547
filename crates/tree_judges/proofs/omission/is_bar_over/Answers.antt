use Rattle.std.proofs.Common.{refl, sym, ◌∙◌}
use Rattle.std.proofs.lemmas.Bool.{true≢false}
use Rattle.set_cover.specs.Instance.{row_of}
use Rattle.pack_bound.proofs.JudgeLemmas.{within_as}
use Rattle.tree_judges.proofs.omission.is_bar_over.Goals as goal

pub returns-then-may_give_way : goal.returns-then-may_give_way
returns-then-may_give_way c =
    let region = c.args.region.now in let left = c.args.left.now in
    let place = row_of region c.args.place in let by = row_of region c.args.by in
    let first = c.row_at.ensures.row in let second = c.row_at-then-may_give_way.ensures.row in (
      λ t. record {
        gives = c.may_give_way.ensures.0 c.if-may_give_way.true;
        within = within_as place left by c.row_at.result.now left c.row_at-then-may_give_way.result.now first refl
            second (c.is_within.ensures.0 t);
      },
      λ m. c.is_within.ensures.1 (within_as c.row_at.result.now left c.row_at-then-may_give_way.result.now place left
          by (sym first) refl (sym second) m.within),
    )

pub returns-else-may_give_way : goal.returns-else-may_give_way
returns-else-may_give_way c = (
  λ t. absurd (true≢false (sym t ∙ c.if-may_give_way.false)),
  λ m. c.may_give_way.ensures.1 m.gives,
)
