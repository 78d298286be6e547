-- What is printed of an input in front of its fault. The words are this project's own.
use Rattle.std.specs.Prelude.{ℕ, List, codes}
use Rattle.cave_runs.specs.declared.fault.Input.{Input}
use Rattle.cave_runs.specs.declared.fault.Input.TheVariants.{StructureInput, TableInput, PlanInput, ProofInput}

-- the name of an input, as it is printed
abbrev pub input_text : Input → List ℕ
input_text StructureInput = codes "structure"
input_text TableInput = codes "table"
input_text PlanInput = codes "plan"
input_text ProofInput = codes "proof"
