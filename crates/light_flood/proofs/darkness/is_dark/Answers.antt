use Rattle.std.proofs.Common.{sym, ◌∙◌, arith}
use Rattle.std.proofs.lemmas.Bool.{ltb-true}
use Rattle.light_flood.proofs.DarkLemmas.{dark_where_dim, dim_where_dark}
use Rattle.light_flood.proofs.darkness.is_dark.Goals as goal

pub returns-then-at-need : goal.returns-then-at-need
returns-then-at-need c =
    let level = c.requires.levels.each c.args.cell c.requires.in_box in (
      λ spawn. dark_where_dim c.args.world.now c.args.cell _ level
          (omega (arith, c.at.ensures, c.need.ensures.need, c.if-at-need.true)) (sym c.is_spawnable.ensures ∙ spawn),
      λ dark. c.is_spawnable.ensures ∙ dark.spawnable,
    )

pub returns-else-at-need : goal.returns-else-at-need
returns-else-at-need c =
    let level = c.requires.levels.each c.args.cell c.requires.in_box in (
      λ t. (let lt = ltb-true c.at.result c.need.result t in absurd (omega (arith, c.if-at-need.false))),
      λ dark. (let dim = dim_where_dark c.args.world.now c.args.cell _
          (omega (arith, c.need.ensures.need, c.need.ensures.positive)) level dark in
          absurd (omega (arith, c.at.ensures, c.need.ensures.need, c.if-at-need.false))),
    )
