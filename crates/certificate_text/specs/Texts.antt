-- What is printed of a fault. The texts are this project's own.
use Rattle.std.specs.Prelude.{ℕ, List, codes}
use Rattle.certificate_text.specs.declared.fault.WriteFault.{WriteFault}
use Rattle.certificate_text.specs.declared.fault.WriteFault.TheVariants.{WriteFailed, OutOfMemory}

-- what is printed of a fault of writing
abbrev pub fault_text : WriteFault → List ℕ
fault_text WriteFailed = codes "cannot write"
fault_text OutOfMemory = codes "out of memory"
