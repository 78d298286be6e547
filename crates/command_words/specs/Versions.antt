-- The least light that keeps mobs away, by the version of the game that the user names.
-- Source: Minecraft Wiki, "Spawn"; that 1.18 stands for all from then on is this project's own.
use Rattle.std.specs.Prelude.{◌≡◌, ◌⊎◌, ℕ, List, Option, Some, None, codes}

-- what is needed in the version that is named: 1 in 1.18, which stands where none is named, and 8 in 1.17
abbrev pub IsNeedFor : Option (List ℕ) → ℕ → Type 0
IsNeedFor None need = need ≡ 1
IsNeedFor (Some version) need = ((version ≡ codes "1.18") × (need ≡ 1)) ⊎ ((version ≡ codes "1.17") × (need ≡ 8))
