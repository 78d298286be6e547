use Rattle.std.proofs.Common.{◌-◌}
use Rattle.set_cover.specs.Rows.{AreWordsFrom}
use Rattle.set_cover.proofs.bit_row.BitRow.words_between.Given as goal

abbrev pub invariant-loop-index : goal.invariant-loop-index
invariant-loop-index l = AreWordsFrom l.self l.first (l.index - l.first) l.words.items
