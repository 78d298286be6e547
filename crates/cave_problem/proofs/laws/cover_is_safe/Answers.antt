use Rattle.cave_problem.proofs.CoverLemmas.{cover_is_safe}
use Rattle.cave_problem.proofs.laws.cover_is_safe.Goals as goal

pub returns : goal.returns
returns c = cover_is_safe
