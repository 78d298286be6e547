-- What keeping more of a line does.
use Rattle.std.specs.Prelude.{◌≡◌, ℕ, ◌+◌, ◌<◌, List, ◌++◌, length, Some}
use Rattle.certificate_lines.specs.Held.{HeldText}
use Rattle.certificate_lines.specs.Numbers.{longest_line}

-- the bytes stand at the end of the line
pub record IsKeptOn (text : List ℕ) (old new : HeldText) : Type 0 where
  pub last : new.last ≡ old.last ++ text
  pub stage : new.stage ≡ old.stage
  pub taken : new.taken ≡ old.taken
  pub misfit : new.misfit ≡ old.misfit

-- with them the line is longer than any that fits
pub record IsOverlong (text : List ℕ) (old new : HeldText) : Type 0 where
  pub long : longest_line < length old.last + length text
  pub misfit : new.misfit ≡ Some (old.taken + 1)
