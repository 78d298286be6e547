use Rattle.schedule_law.proofs.LawLemmas.{single_name}
use Rattle.schedule_law.proofs.laws.no_name_stands_twice.Goals as goal

pub returns : goal.returns
returns c = λ region goal works left name j. single_name region goal works left j name
