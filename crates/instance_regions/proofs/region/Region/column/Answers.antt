use Rattle.std.proofs.Common.{◌<◌, ℕ, List, [], length, ap, arith}
use Rattle.std.proofs.lemmas.List.{get_or_default}
use Rattle.set_cover.specs.Instance.{Instance}
use Rattle.instance_regions.proofs.region.Region.column.Goals as goal

pub returns-clause-short : goal.returns-clause-short
returns-clause-short c =
    let columns = c.self.inside.columns.items in
    let lt : c.args.cell < length c.self.inside.instance.cells =
    omega (arith, c.requires.inside, ap (λ (i : Instance). length i.cells) c.self.view_is) in
    omega (
      arith,
      ap (λ (l : List ℕ). length l) c.index.ensures,
      ap (λ (l : List ℕ). length l)
          (get_or_default columns c.args.cell c.index.result.now [] (omega (arith, lt, c.self.invariant.1.whole))),
      (c.self.invariant.1.each c.args.cell lt).whole,
      c.self.invariant.2,
    )
