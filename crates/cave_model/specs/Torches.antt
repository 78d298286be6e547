-- Where new torches may go, and what they light.
-- Source: Minecraft Wiki, "Torch"; a torch of some facing hangs on the block behind it.
use Rattle.std.specs.Prelude.{ℕ, Bool, ◌&&◌, IsTrue, List, [], ◌∷◌, Option, find}
use Rattle.cave_model.specs.Cells.{Face, west, east, north, south, below}
use Rattle.cave_base.specs.declared.class.Class.{Class}
use Rattle.cave_model.specs.Cave.{Cave, class_at, class_beyond}
use Rattle.cave_model.specs.Light.{BringsFrom}
use Rattle.cave_model.specs.Listing.{ListsAll}
use Rattle.cave_model.specs.declared.hang.Hang.{Hang}
use Rattle.cave_model.specs.declared.hang.Hang.TheVariants.{Floor, North, East, South, West}

-- the face at which the torch is held
abbrev pub held_at : Hang → Face
held_at Floor = below
held_at North = south
held_at East = west
held_at South = north
held_at West = east

-- whether a block of this class holds a torch that hangs so
abbrev pub can_hold : Hang → Class → Bool
can_hold Floor class = class.top
can_hold North class = class.side
can_hold East class = class.side
can_hold South class = class.side
can_hold West class = class.side

-- whether a new torch may go there and hang so
abbrev pub is_legal : Cave → ℕ → Hang → Bool
is_legal cave cell hang = (class_at cave cell).put && can_hold hang (class_beyond cave (held_at hang) cell)

-- a cell with a legal hang
abbrev pub IsPlace : Cave → ℕ → Type 0
IsPlace cave cell = (hang : Hang) × IsTrue (is_legal cave cell hang)

-- these are the places of the cave, ascending
abbrev pub ArePlaces : Cave → List ℕ → Type 0
ArePlaces cave places = ListsAll (IsPlace cave) places

-- the first legal hang. The order is this project's own.
abbrev pub hang_of : Cave → ℕ → Option Hang
hang_of cave cell = find (is_legal cave cell) (Floor ∷ North ∷ East ∷ South ∷ West ∷ [])

-- the light of a torch
abbrev pub torch_light : ℕ
torch_light = 14

-- a torch at the place brings what is needed to the cell
abbrev pub Lights : Cave → ℕ → ℕ → Type 0
Lights cave place cell = BringsFrom cave place torch_light cell cave.rule.need
