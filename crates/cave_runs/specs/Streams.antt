-- What a run reads and what it writes. This is this project's own.
use Rattle.std.specs.Prelude.{ℕ, List, Option}
use Rattle.std.specs.Io.KnownBytes.{Appends, Keeps}
use Rattle.cave_model.specs.Rule.{Rule}
use Rattle.certificate_text.specs.Writing.{AppendsFront, AppendsPart}

-- what is known of a stream's bytes before a run and after it: of a reader those to come, of a writer those it holds
pub record Stream : Type 0 where
  pub before : Option (List ℕ)
  pub after : Option (List ℕ)

abbrev pub stream : Option (List ℕ) → Option (List ℕ) → Stream
stream before after = record { before = before; after = after }

-- what tells a run its cave: a structure, the user's rows, where there are any, and the rule
pub record Inputs : Type 0 where
  pub structure : Stream
  pub table : Option (List ℕ)
  pub rule : Rule

abbrev pub inputs : Stream → Option (List ℕ) → Rule → Inputs
inputs structure table rule = record { structure = structure; table = table; rule = rule }

-- where a plan's text goes, and its certificate
pub record Outputs : Type 0 where
  pub text : Stream
  pub proof : Stream

abbrev pub outputs : Stream → Stream → Outputs
outputs text proof = record { text = text; proof = proof }

-- the writer is as it was
abbrev pub IsKept : Stream → Type 0
IsKept writer = Keeps writer.before writer.after

-- both are
abbrev pub AreKept : Outputs → Type 0
AreKept out = IsKept out.text × IsKept out.proof

-- the writer took this text, and nothing else
abbrev pub Takes : Stream → List ℕ → Type 0
Takes writer text = Appends writer.before writer.after text

-- the writer took a beginning of this text, and not all of it
abbrev pub TakesFront : Stream → List ℕ → Type 0
TakesFront writer text = AppendsFront writer.before writer.after text

-- the writer took a beginning of this text, or all of it
abbrev pub TakesPart : Stream → List ℕ → Type 0
TakesPart writer text = AppendsPart writer.before writer.after text
