use Rattle.std.proofs.Common.{subst, sym, Contains}
use Rattle.std.specs.Prelude.{ℕ, Option, MatchOption}
use Rattle.set_cover.specs.Instance.{StandsAt}
use Rattle.set_cover.proofs.OrderLemmas.{found_by}
use Rattle.set_cover.proofs.search.find.Goals as goal

pub returns : goal.returns
returns c =
    subst (λ (o : Option ℕ). MatchOption o (Contains c.args.cells.now c.args.cell → ⊥)
    (λ index. StandsAt c.args.cells.now index c.args.cell)) (sym c.ok.ensures.value)
    (found_by c.args.cells.now c.args.cell c.binary_search.result c.requires.ascending c.binary_search.ensures.position)
