-- Which words are explained in place of a run, and why. Which words the parser of the command line refuses is clap's
-- (`fault_of`); that a rule has to be known, and that a proof goes to a file, is this project's own.
use Rattle.std.specs.Prelude.{◌≡◌, ◌⊎◌, List, []}
use Rattle.clap.specs.Words.{Text, IsAmong, fault_of}
use Rattle.clap.specs.declared.error.kind.ErrorKind.{ErrorKind}
use Rattle.clap.specs.declared.error.kind.ErrorKind.TheVariants.{InvalidValue}
use Rattle.command_words.specs.Options.{torchplan}
use Rattle.command_words.specs.Requests.{IsAsked}
use Rattle.command_words.specs.declared.request.Request.{Request}

-- the words have the form that the commands and their options want
abbrev pub AreWellFormed : List Text → Type 0
AreWellFormed words = fault_of torchplan words ≡ []

-- they ask for nothing: the rule that they name is none, or what they name for a proof is no file
abbrev pub AskNothing : List Text → Type 0
AskNothing words = (request : Request) → ¬ IsAsked words request

-- why the words are explained: help or the version is asked for or their form is a mistake, by the kinds of the parser;
-- or their form is right, and a value of theirs is the mistake
abbrev pub AreExplainedBy : List Text → ErrorKind → Type 0
AreExplainedBy words kind = IsAmong kind (fault_of torchplan words)
    ⊎ ((kind ≡ InvalidValue) × AreWellFormed words × AskNothing words)
