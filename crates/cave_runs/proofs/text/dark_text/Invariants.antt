use Rattle.std.proofs.Common.{◌≡◌, ◌++◌, string_bytes, drop}
use Rattle.std.specs.List.{flat_map}
use Rattle.cave_base.specs.Box.{point}
use Rattle.cave_runs.specs.DarkText.{cell_line}
use Rattle.cave_runs.specs.DarkText as texts
use Rattle.cave_runs.proofs.text.dark_text.Given as goal

-- the text so far, and the lines of the cells that are left
abbrev pub invariant-loop-cell : goal.invariant-loop-cell
invariant-loop-cell l = string_bytes l.out
    ++ flat_map (cell_line (point l.size)) (drop l.cell-index l.cells) ≡ texts.dark_text (point l.size) l.cells
