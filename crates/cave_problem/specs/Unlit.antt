-- The first of some cells whose bit isn't set. This is this project's own.
use Rattle.std.specs.Prelude.{◌<◌, ℕ, List, length, Option, MatchOption}
use Rattle.set_cover.specs.Bits.{Has}
use Rattle.set_cover.specs.Instance.{StandsAt}

-- the first of these cells whose bit, by its index, isn't set
pub record IsFirstUnlit (covered cells : List ℕ) (cell : ℕ) : Type 0 where
  pub index : ℕ
  pub stands : StandsAt cells index cell
  pub unlit : ¬ Has covered index
  pub before : (other : ℕ) → other < index → Has covered other

-- the bits of all cells are set
pub record AreLit (covered cells : List ℕ) : Type 0 where
  pub each : (index : ℕ) → index < length cells → Has covered index

-- the first of these cells whose bit isn't set, or none where the bits of all are
abbrev pub FindsUnlit : List ℕ → List ℕ → Option ℕ → Type 0
FindsUnlit covered cells found = MatchOption found (AreLit covered cells) (IsFirstUnlit covered cells)
