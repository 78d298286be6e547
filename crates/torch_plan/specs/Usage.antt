-- With which exit status words are explained in place of a run. The statuses are this project's own.
use Rattle.std.specs.Prelude.{◌≡◌, ◌⊎◌, ℕ, List}
use Rattle.clap.specs.Words.{Text}
use Rattle.clap.specs.declared.error.kind.ErrorKind.{ErrorKind}
use Rattle.clap.specs.declared.error.kind.ErrorKind.TheVariants.{DisplayHelp, DisplayVersion}
use Rattle.command_words.specs.Mistakes.{AreExplainedBy}

-- 0 where help or the version was asked for, and 2 for a mistake in usage
abbrev pub explained_status : ErrorKind → ℕ
explained_status DisplayHelp = 0
explained_status DisplayVersion = 0
explained_status _ = 2

-- the status of words that are explained: memory was refused, or there is a reason, and its status, or that of a failed
-- write
abbrev pub IsExplained : List Text → ℕ → Type 0
IsExplained words code = (code ≡ 7)
    ⊎ ((kind : ErrorKind) × AreExplainedBy words kind × ((code ≡ explained_status kind) ⊎ (code ≡ 6)))
