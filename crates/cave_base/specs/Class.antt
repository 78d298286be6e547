-- What a cell is, for light, mobs and torches. These classes are this project's own.
use Rattle.cave_base.specs.declared.class.Class.{Class}
use Rattle.std.specs.Prelude.{◌≡◌, ◌≤◌, Bool, true, false, not, ◌&&◌, ◌||◌, nat_eq, IsTrue}

-- a cell of which nothing is told, and all that lies outside
abbrev pub void : Class
void = record { opacity = 15; emission = 0; free = false; stand = false; put = false; top = false; side = false }

-- a torch, on the floor or on a wall
abbrev pub new_torch : Class
new_torch = record { opacity = 0; emission = 14; free = true; stand = false; put = false; top = false; side = false }

-- levels go up to 15, and what gives way to a torch is as air
pub record IsSoundClass (class : Class) : Type 0 where
  pub thin : class.opacity ≤ 15
  pub faint : class.emission ≤ 15
  pub clear : IsTrue class.put → class.opacity ≡ 0
  pub unlit : IsTrue class.put → class.emission ≡ 0
  pub roomy : IsTrue class.put → class.free ≡ true
  pub no_ground : IsTrue class.put → class.stand ≡ false
  pub no_top : IsTrue class.put → class.top ≡ false
  pub no_side : IsTrue class.put → class.side ≡ false

-- the test of it: what gives way to a torch is as air
abbrev pub gives_way_as_air : Class → Bool
gives_way_as_air class = not class.put
    || (nat_eq class.opacity 0 && nat_eq class.emission 0 && class.free && not class.stand
    && not class.top && not class.side)
