use Rattle.std.proofs.Common.{◌≡◌, map, take}
use Rattle.std.specs.Prelude.{flat_map}
use Rattle.block_rows.specs.Lines.{line_of, rows_in}
use Rattle.block_rows.proofs.shipped.rows_of_lines.Given as goal

abbrev pub invariant-loop-line : goal.invariant-loop-line
invariant-loop-line l = l.rows.items ≡ flat_map rows_in (map line_of (take l.line-index l.lines))
