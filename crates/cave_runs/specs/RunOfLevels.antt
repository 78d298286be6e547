-- How a run of levels ends. This is this project's own.
use Rattle.std.specs.Prelude.{ℕ, List, Option, Result}
use Rattle.cave_runs.specs.LevelsRuns.{IsFaultOfLevels, IsLevelsTextOf}
use Rattle.cave_runs.specs.Streams.{Inputs, Stream}
use Rattle.cave_runs.specs.TextRuns.{IsRunOfText}
use Rattle.cave_runs.specs.declared.fault.RunFault.{RunFault}

-- how it ends with the text of a plan, where there is one: what it answers, and what its writer holds
abbrev pub IsRunOfLevels : Inputs → Option (List ℕ) → Result (Unit {0}) RunFault → Stream → Type 0
IsRunOfLevels inputs plan result writer = IsRunOfText
    (λ bytes text. IsLevelsTextOf bytes inputs.table inputs.rule plan text)
    (λ bytes fault. IsFaultOfLevels bytes inputs.table inputs.rule plan fault) inputs.structure result writer
