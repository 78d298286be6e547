use Rattle.beacon.proofs.StepLemmas.{begins}
use Rattle.beacon.proofs.beacon.Beacon.open.Goals as goal

pub of_words-requires : goal.of_words-requires
of_words-requires c = begins c.args.size
