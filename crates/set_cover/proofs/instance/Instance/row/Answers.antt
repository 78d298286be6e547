use Rattle.std.proofs.Common.{List, ℕ, subst}
use Rattle.set_cover.specs.Instance.{StandsAt}
use Rattle.set_cover.proofs.instance.Instance.row.Goals as goal

pub returns-clause-row : goal.returns-clause-row
returns-clause-row c = record {
  index = c.in-Some.index;
  there = subst (λ (xs : List ℕ). StandsAt xs c.in-Some.index c.args.place) c.places.ensures.places c.in-Some.ensures;
  whole = c.row_at.ensures.row;
}
