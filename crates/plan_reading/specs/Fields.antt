-- What the parts of a line are read as, from the front of a text.
use Rattle.std.specs.Prelude.{◌≡◌, ◌<◌, ◌⊎◌, ℕ, List, ◌∷◌, ◌++◌, decimal, Option, IfSome}
use Rattle.certificate_lines.specs.Cuts.{HasNoFeed}
use Rattle.certificate_lines.specs.Numbers.{IsSmall}
use Rattle.cave_model.specs.declared.hang.Hang.{Hang}
use Rattle.cave_plan.specs.PlanText.{hang_word}
use Rattle.plan_reading.specs.PlanLines.{IsNear, corner_line, dark_line, head_line, torch_line}
use Rattle.plan_reading.specs.declared.torch.ToldTorch.{ToldTorch}

-- the byte is no digit
abbrev pub IsNoDigit : ℕ → Type 0
IsNoDigit byte = (byte < 48) ⊎ (57 < byte)

-- the text begins with this small number and this byte
pub record BeginsWithNumber (text : List ℕ) (end number : ℕ) (rest : List ℕ) : Type 0 where
  pub small : IsSmall number
  pub is : text ≡ decimal number ++ end ∷ rest

-- it begins with no small number and this byte
abbrev pub HasNoNumber : List ℕ → ℕ → Type 0
HasNoNumber text end = (number : ℕ) → (rest : List ℕ) → ¬ BeginsWithNumber text end number rest

-- the text begins with the word of this hang on the rest of a line
abbrev pub BeginsWithHang : List ℕ → Hang → List ℕ → Type 0
BeginsWithHang text hang rest = text ≡ hang_word hang ++ 10 ∷ rest

-- it begins with no such word
abbrev pub HasNoHang : List ℕ → Type 0
HasNoHang text = (hang : Hang) → (rest : List ℕ) → ¬ BeginsWithHang text hang rest

-- the text begins with the line of a torch
pub record BeginsWithTorch (text : List ℕ) (torch : ToldTorch) (rest : List ℕ) : Type 0 where
  pub near : IsNear torch
  pub is : text ≡ torch_line torch ++ 10 ∷ rest

-- it begins with no such line
abbrev pub HasNoTorch : List ℕ → Type 0
HasNoTorch text = (torch : ToldTorch) → (rest : List ℕ) → ¬ BeginsWithTorch text torch rest

-- the text begins with the line of `count` torches
pub record BeginsWithHead (text : List ℕ) (count : ℕ) (floor : Option ℕ) (rest : List ℕ) : Type 0 where
  pub small : IsSmall count
  pub floored : IfSome floor IsSmall
  pub is : text ≡ head_line count floor ++ 10 ∷ rest

-- it begins with no such line
abbrev pub HasNoHead : List ℕ → Type 0
HasNoHead text = (count : ℕ) → (floor : Option ℕ) → (rest : List ℕ) → ¬ BeginsWithHead text count floor rest

-- the text begins with the line of `dark` dark cells
pub record BeginsWithDark (text : List ℕ) (dark : ℕ) (rest : List ℕ) : Type 0 where
  pub small : IsSmall dark
  pub is : text ≡ dark_line dark ++ 10 ∷ rest

-- it begins with no such line
abbrev pub HasNoDark : List ℕ → Type 0
HasNoDark text = (dark : ℕ) → (rest : List ℕ) → ¬ BeginsWithDark text dark rest

-- the text begins with the line of a corner
pub record BeginsWithCorner (text corner rest : List ℕ) : Type 0 where
  pub clean : HasNoFeed corner
  pub is : text ≡ corner_line corner ++ 10 ∷ rest

-- it begins with no such line
abbrev pub HasNoCorner : List ℕ → Type 0
HasNoCorner text = (corner rest : List ℕ) → ¬ BeginsWithCorner text corner rest
