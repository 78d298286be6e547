use Rattle.proof_tree.proofs.KidLemmas.{distinct_with, kid_is_piece}
use Rattle.proof_tree.proofs.kids.one_kid.Goals as goal

pub new-requires : goal.new-requires
new-requires c =
    rw (
      c.in_ok-region.ensures,
      c.region.ensures,
      c.in_ok-name.ensures,
      c.name.ensures,
      c.in_ok-chosen.ensures,
      c.chosen.ensures.chosen,
      c.in_ok-barred.ensures,
      c.barred.ensures.barred,
    )
    (kid_is_piece c.args.piece.now c.args.number (record { chosen = c.args.chosen.now; barred = c.args.barred.now })
    c.chosen.ensures.kept (distinct_with c.args.piece.now.chosen c.args.chosen.now c.chosen.ensures.kept.distinct
    c.requires.new.0 c.requires.new.1) c.requires.chosen c.requires.barred)
