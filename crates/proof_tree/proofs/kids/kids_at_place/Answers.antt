use Rattle.std.proofs.Common.{ℕ, Contains}
use Rattle.proof_tree.proofs.KidLemmas.{all_of_one, one_distinct}
use Rattle.proof_tree.proofs.kids.kids_at_place.Goals as goal

pub one_kid-requires-clause-new : goal.one_kid-requires-clause-new
one_kid-requires-clause-new c = (
  one_distinct c.args.place,
  all_of_one (λ (p : ℕ). ¬ Contains c.args.piece.now.chosen p) c.args.place c.requires.unchosen,
)
