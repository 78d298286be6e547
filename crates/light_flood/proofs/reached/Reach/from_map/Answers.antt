use Rattle.light_flood.proofs.ReachLemmas.{reached-from_entries}
use Rattle.light_flood.proofs.reached.Reach.from_map.Goals as goal

pub returns : goal.returns
returns c = λ cell. reached-from_entries c.args.levels.entries cell
