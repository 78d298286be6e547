-- What taking a line does.
use Rattle.std.specs.Prelude.{◌≡◌, ℕ, ◌+◌, List}
use Rattle.certificate_lines.specs.Steps.{Takes}
use Rattle.certificate_lines.specs.Decides.{IsJust, IsNone, IsLineOf}
use Rattle.certificate_lines.specs.Kinds.{word_of, kind_at}
use Rattle.certificate_lines.specs.declared.kind.LineKind.{LineKind}
use Rattle.certificate_lines.specs.declared.stage.Stage.{Stage}

-- the line fits, and this is the one stage that it leads to
pub record Fits (text : List ℕ) (kind : LineKind) (numbers : List ℕ) (old new : Stage)
    (taken now_taken : ℕ) : Type 0 where
  pub one : IsJust (Takes old text) new
  -- it is of the kind that may come there
  pub fits_stage : kind ≡ kind_at old text
  -- it has the word of its kind, and these numbers
  pub said : IsLineOf text (word_of kind) numbers
  pub counted : now_taken ≡ taken + 1

-- the line doesn't fit, and neither the stage nor the count of lines changes
pub record FitsNot (text : List ℕ) (old new : Stage) (taken now_taken : ℕ) : Type 0 where
  pub none : IsNone (Takes old text)
  pub stays : new ≡ old
  pub counted : now_taken ≡ taken
