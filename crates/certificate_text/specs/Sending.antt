-- What is on its way to a sink's writer. This is this project's own.
use Rattle.std.specs.Prelude.{◌≡◌, ℕ, List, ◌++◌, Option, Result, MatchResult, string_bytes}
use Rattle.certificate_text.specs.declared.sink.Sink.{Sink}
use Rattle.certificate_text.specs.Writing.{AppendsFront, Passes}

-- the writer and the buffer are those that the sink had
pub record IsSameSink {W : Type 0} (old new : Sink W) : Type 0 where
  pub writer : new.writer.ghost_name ≡ old.writer.ghost_name
  pub buffer : new.buffer.ghost_name ≡ old.buffer.ghost_name

-- the text is on its way; contents says what a writer took
pub record SendsAll {W : Type 0} (contents : W → Option (List ℕ)) (old new : Sink W) (text : List ℕ) : Type 0 where
  pub same : IsSameSink old new
  pub passed : Passes (contents old.writer.now) (string_bytes old.buffer.now) (contents new.writer.now)
      (string_bytes new.buffer.now) text

-- of what the buffer had and the text a beginning was taken, and not all
pub record SendsPart {W : Type 0} (contents : W → Option (List ℕ)) (old new : Sink W) (text : List ℕ) : Type 0 where
  pub same : IsSameSink old new
  pub taken : AppendsFront (contents old.writer.now) (contents new.writer.now) (string_bytes old.buffer.now ++ text)

-- the text is on its way, or a beginning of what the buffer had and the text was taken, and not all
abbrev pub IsSent : {W X E : Type 0} → (W → Option (List ℕ)) → Result X E → Sink W → Sink W → List ℕ → Type 0
IsSent contents r old new text = MatchResult r (λ _. SendsAll contents old new text)
    (λ _. SendsPart contents old new text)
