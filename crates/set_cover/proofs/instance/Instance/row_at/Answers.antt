use Rattle.std.proofs.Common.{◌<◌, [], length, sym, ap, ◌∙◌, arith}
use Rattle.std.proofs.lemmas.List.{get_or_default}
use Rattle.set_cover.specs.Instance.{Instance, row_of}
use Rattle.set_cover.proofs.PieceLemmas.{piece_at}
use Rattle.set_cover.proofs.instance.Instance.row_at.Goals as goal

pub returns-clause-row : goal.returns-clause-row
returns-clause-row c =
    let rows = c.self.inside.rows.items in
    let lt : c.args.index < length rows = omega (
      arith,
      c.requires.inside,
      ap (λ (i : Instance). length i.places) c.self.view_is,
      c.self.invariant.1.whole,
    ) in
    c.index.ensures ∙ get_or_default rows c.args.index c.index.result.now [] lt
    ∙ sym (piece_at c.self.inside.width rows c.args.index c.self.invariant.1.wide lt)
    ∙ ap (λ (i : Instance). row_of i c.args.index) c.self.view_is
