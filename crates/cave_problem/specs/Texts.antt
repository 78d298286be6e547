-- What is printed of a fault. The texts are this project's own.
use Rattle.std.specs.Prelude.{ℕ, List, ◌++◌, codes}
use Rattle.std.specs.Fmt.{decimal}
use Rattle.cave_problem.specs.declared.fault.CoverFault.{CoverFault}
use Rattle.cave_problem.specs.declared.fault.CoverFault.TheVariants.{Unlightable, OutOfMemory}

-- what is printed of a fault: the cell that no place lights, or that memory was refused
abbrev pub fault_text : CoverFault → List ℕ
fault_text (Unlightable cell) = codes "unlightable " ++ decimal cell
fault_text OutOfMemory = codes "out of memory"
