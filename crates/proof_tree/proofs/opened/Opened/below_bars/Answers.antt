use Rattle.std.proofs.Common.{sym}
use Rattle.proof_tree.proofs.KidLemmas.{below_is_piece}
use Rattle.proof_tree.proofs.opened.Opened.below_bars.Goals as goal

pub new-requires : goal.new-requires
new-requires c =
    rw (
      c.in_ok-region.ensures,
      c.region.ensures,
      c.in_ok-name.ensures,
      c.name.ensures,
      c.in_ok-chosen.ensures.items,
      c.chosen.ensures.chosen,
      c.in_ok-barred.ensures,
      c.barred.ensures.barred,
      c.bars.ensures.bars,
      c.piece-piece.ensures.piece,
    )
    (below_is_piece c.args.self.now.piece c.args.self.now.bars
    (rw (sym c.piece-piece.ensures.piece) c.chosen.ensures.kept) c.bars.ensures.kept.opens.dominated)
