use Rattle.cave_reading.proofs.ToldLemmas.{told_sound}
use Rattle.cave_reading.proofs.laws.told_caves_are_sound.Goals as goal

pub returns : goal.returns
returns c = told_sound
