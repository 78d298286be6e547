-- The least number of a kind.
use Rattle.std.specs.Prelude.{ℕ, ◌≤◌}

-- a number of the kind, and none of the kind is less
pub record IsLeast (Kind : ℕ → Type 0) (least : ℕ) : Type 0 where
  pub is : Kind least
  pub first : (n : ℕ) → Kind n → least ≤ n
