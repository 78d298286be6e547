use Rattle.std.proofs.Common.{sym, ◌∙◌}
use Rattle.proof_tree.proofs.KidLemmas.{split_places}
use Rattle.proof_tree.proofs.opened.Opened.kids.Goals as goal

pub kids_on_cell-requires : goal.kids_on_cell-requires
kids_on_cell-requires c =
    rw (c.in_ok-piece.ensures, c.places.ensures.places)
    (split_places c.args.self.now c.in-Cell.field-0 c.places.ensures.kept (sym c.on.ensures.on ∙ c.in-Cell.is))
