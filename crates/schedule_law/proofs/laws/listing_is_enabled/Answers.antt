use Rattle.schedule_law.proofs.LawLemmas.{law}
use Rattle.schedule_law.proofs.laws.listing_is_enabled.Goals as goal

pub returns : goal.returns
returns c = λ region first aim works left start j begins. law region first aim works left j start begins
