-- The rule of spawning.
-- Source: Minecraft Wiki, "Spawn": from 1.18 on most hostile mobs spawn at block light 0 alone, before at up to 7.
use Rattle.std.specs.Prelude.{ℕ, ◌||◌, Bool, nat_eq, IsTrue}

-- how high a mob is, and the light that keeps it away
pub record Rule : Type 0 where
  -- how many cells above its ground a mob takes up
  pub headroom : ℕ
  -- the least light that keeps mobs away
  pub need : ℕ

-- a mob is one cell high or two, which is this project's own
abbrev pub is_headroom : ℕ → Bool
is_headroom headroom = nat_eq headroom 1 || nat_eq headroom 2

-- light 1 keeps mobs away from 1.18 on, and 8 before
abbrev pub is_need : ℕ → Bool
is_need need = nat_eq need 1 || nat_eq need 8

-- what every rule keeps
pub record IsRule (rule : Rule) : Type 0 where
  pub high : IsTrue (is_headroom rule.headroom)
  pub needed : IsTrue (is_need rule.need)
