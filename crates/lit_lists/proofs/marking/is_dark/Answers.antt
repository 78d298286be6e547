use Rattle.std.proofs.Common.{sym, ◌∙◌, arith}
use Rattle.std.proofs.lemmas.Bool.{ltb-true}
use Rattle.lit_lists.proofs.MarkLemmas.{dark_where_dim, dim_where_dark}
use Rattle.lit_lists.proofs.marking.is_dark.Goals as goal

pub returns-then-levels-cell : goal.returns-then-levels-cell
returns-then-levels-cell c =
    let level = c.requires.levels.each c.args.cell c.requires.in_box in (
      λ spawn. dark_where_dim c.args.world.now c.args.cell _ level
          (omega (arith, c.need.ensures.need, c.if-levels-cell.true)) (sym c.is_spawnable.ensures ∙ spawn),
      λ dark. c.is_spawnable.ensures ∙ dark.spawnable,
    )

pub returns-else-levels-cell : goal.returns-else-levels-cell
returns-else-levels-cell c =
    let level = c.requires.levels.each c.args.cell c.requires.in_box in (
      λ t. (let lt = ltb-true _ _ t in absurd (omega (arith, c.if-levels-cell.false))),
      λ dark. (let dim = dim_where_dark c.args.world.now c.args.cell _
          (omega (arith, c.need.ensures.need, c.need.ensures.positive)) level dark in
          absurd (omega (arith, c.need.ensures.need, c.if-levels-cell.false))),
    )
