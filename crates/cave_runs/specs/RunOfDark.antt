-- How a run of dark cells ends. This is this project's own.
use Rattle.std.specs.Prelude.{Result}
use Rattle.cave_runs.specs.Runs.{IsDarkTextOf, IsFaultOfBytes}
use Rattle.cave_runs.specs.Streams.{Inputs, Stream}
use Rattle.cave_runs.specs.TextRuns.{IsRunOfText}
use Rattle.cave_runs.specs.declared.fault.RunFault.{RunFault}

-- how it ends: what it answers, and what its writer holds
abbrev pub IsRunOfDark : Inputs → Result (Unit {0}) RunFault → Stream → Type 0
IsRunOfDark inputs result writer = IsRunOfText (λ bytes text. IsDarkTextOf bytes inputs.table inputs.rule text)
    (λ bytes fault. IsFaultOfBytes bytes inputs.table fault) inputs.structure result writer
