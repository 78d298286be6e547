use Rattle.std.proofs.Common.{refl, arith}
use Rattle.set_cover.proofs.BitLemmas.{not_past}
use Rattle.tree_judges.proofs.omission.is_other.Goals as goal

pub returns-then-cell-omitted : goal.returns-then-cell-omitted
returns-then-cell-omitted c = (
  λ t. not_past c.args.omitted.now c.args.cell (omega (arith, c.if-cell-omitted.true)),
  λ n. refl,
)
