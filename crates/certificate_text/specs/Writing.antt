-- What a writer took, with a buffer in front of it or without. This is this project's own.
use Rattle.std.specs.Prelude.{◌≡◌, ℕ, ◌<◌, List, ◌++◌, length, Option}
use Rattle.std.specs.Io.KnownBytes.{Appends}

-- known bytes grow by a beginning of the text, and not by all of it
abbrev pub AppendsFront : Option (List ℕ) → Option (List ℕ) → List ℕ → Type 0
AppendsFront old new text = (front rest : List ℕ) × (0 < length rest) × (text ≡ front ++ rest) × Appends old new front

-- known bytes grow by a beginning of the text, or by all of it
abbrev pub AppendsPart : Option (List ℕ) → Option (List ℕ) → List ℕ → Type 0
AppendsPart old new text = (front rest : List ℕ) × (text ≡ front ++ rest) × Appends old new front

-- what the writer took and the buffer has now is what the buffer had and the text
pub record Passes (old : Option (List ℕ)) (had : List ℕ) (new : Option (List ℕ)) (has text : List ℕ) : Type 0 where
  pub front : List ℕ
  pub taken : Appends old new front
  pub parts : had ++ text ≡ front ++ has
