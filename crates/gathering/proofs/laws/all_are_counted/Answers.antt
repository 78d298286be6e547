use Rattle.gathering.proofs.LawLemmas.{counted}
use Rattle.gathering.proofs.laws.all_are_counted.Goals as goal

pub returns : goal.returns
returns c = λ region first aim works left gathered j g. counted region first aim works left j gathered g
