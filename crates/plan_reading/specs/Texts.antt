-- What is printed of a plan that is refused: the words of docs/FORMATS.md.
use Rattle.std.specs.Prelude.{ℕ, List, ◌++◌, codes, decimal}
use Rattle.plan_reading.specs.declared.fault.TorchesFault.{TorchesFault}
use Rattle.plan_reading.specs.declared.fault.TorchesFault.TheVariants.{Syntax, Illegal, OutOfMemory}

-- the text of a fault
abbrev pub fault_text : TorchesFault → List ℕ
fault_text (Syntax line) = codes "plan: syntax line " ++ decimal line
fault_text (Illegal x y z) = codes "plan: illegal torch " ++ (decimal x ++ (codes " " ++ (decimal y ++ (codes " "
    ++ decimal z))))
fault_text OutOfMemory = codes "out of memory"
