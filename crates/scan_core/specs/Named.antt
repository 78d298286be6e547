-- Names that lie in the bytes, with their values.
use Rattle.std.specs.Prelude.{ℕ, List, map}
use Rattle.std.specs.Borrow.{Bor}
use Rattle.nbt_core.specs.Value.{Nbt}

-- the names apart from where they lie
abbrev pub named_values : List (Bor (List ℕ) × Nbt) → List (List ℕ × Nbt)
named_values members = map (λ m. (m.0.now, m.1)) members
