-- What the values of an NBT text are, apart from where they lie in memory.
-- Source: Minecraft Wiki, "NBT format". That the last of two entries counts is this project's own.
use Rattle.std.specs.Prelude.{ℕ, suc, ℤ, pos, negsuc, List, [], ◌∷◌, Option, Some, None, if◌then◌else◌}
use Rattle.std.specs.Str.{bytes_eq}
use Rattle.std.specs.Option.{option_or}

-- a value that holds no other values; Float and Double are kept as their bytes
pub data Leaf : Type 0 where
  byte : ℤ → Leaf
  short : ℤ → Leaf
  int : ℤ → Leaf
  long : ℤ → Leaf
  float : List ℕ → Leaf
  double : List ℕ → Leaf
  byte_array : List ℤ → Leaf
  text : List ℕ → Leaf
  int_array : List ℤ → Leaf
  long_array : List ℤ → Leaf

mutual
  -- a value: one that holds no others, a list of values, or named values in the order of the bytes
  pub data Nbt : Type 0 where
    leaf : Leaf → Nbt
    list : Items → Nbt
    compound : Members → Nbt

  -- the values of a list
  pub data Items : Type 0 where
    no_items : Items
    item : Nbt → Items → Items

  -- the values of a compound, each with its name
  pub data Members : Type 0 where
    no_members : Members
    member : List ℕ → Nbt → Members → Members

-- how many items there are
abbrev pub count_of : Items → ℕ
count_of no_items = 0
count_of (item t ts) = suc (count_of ts)

-- a count below 0 counts nothing
abbrev pub natural : ℤ → ℕ
natural (pos n) = n
natural (negsuc n) = 0

-- the last member of this name: one among the others, or else this one
abbrev pub last_named : List ℕ → Members → Option Nbt
last_named name no_members = None
last_named name (member key t ms) = option_or (last_named name ms) (if bytes_eq key name then Some t else None)

-- the last entry of this name in a compound
abbrev pub field : List ℕ → Nbt → Option Nbt
field name (leaf v) = None
field name (list ts) = None
field name (compound ms) = last_named name ms

-- the items of a list, from the first to the last
abbrev pub items_of : List Nbt → Items
items_of [] = no_items
items_of (t ∷ ts) = item t (items_of ts)

-- the items as a list of values
abbrev pub listed : Items → List Nbt
listed no_items = []
listed (item t ts) = t ∷ listed ts

-- the members of a compound, from the first to the last
abbrev pub members_of : List (List ℕ × Nbt) → Members
members_of [] = no_members
members_of (m ∷ ms) = member m.0 m.1 (members_of ms)
