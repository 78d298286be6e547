use Rattle.std.proofs.Common.{length}
use Rattle.set_cover.specs.Instance.{words_for}
use Rattle.instance_regions.specs.Restricting.{AreCopied}
use Rattle.instance_regions.proofs.copying.copy_rows.Given as goal

abbrev pub invariant-loop-place : goal.invariant-loop-place
invariant-loop-place l = AreCopied l.sparse l.own l.placed (words_for (length l.own)) l.place-index l.rows.items
