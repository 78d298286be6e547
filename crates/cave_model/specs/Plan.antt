-- Plans that keep mobs away, and the fewest torches of one. These are this project's own.
use Rattle.std.specs.Prelude.{◌≡◌, ◌≢◌, ◌≤◌, ℕ, IsTrue, List, [], ◌∷◌, length, map, set, All, AllPairs, Contains}
use Rattle.std.specs.Prelude.{unwrap_or}
use Rattle.cave_base.specs.declared.class.Class.{Class}
use Rattle.cave_base.specs.Class.{new_torch}
use Rattle.cave_model.specs.Cave.{Cave}
use Rattle.cave_model.specs.Light.{Brings}
use Rattle.cave_model.specs.Spawn.{is_spawnable, IsDark}
use Rattle.cave_model.specs.Torches.{is_legal, hang_of, Lights}
use Rattle.cave_model.specs.declared.hang.Hang.{Hang}
use Rattle.cave_model.specs.declared.hang.Hang.TheVariants.{Floor}

-- a torch in a cell, and how it hangs there
pub record Torch : Type 0 where
  pub cell : ℕ
  pub hang : Hang

-- the cells of the torches
abbrev pub cells_of : List Torch → List ℕ
cells_of torches = map (λ torch. torch.cell) torches

-- the places as torches, each with its first legal hang
abbrev pub hung : Cave → List ℕ → List Torch
hung cave places = map (λ place. record { cell = place; hang = unwrap_or (hang_of cave place) Floor }) places

-- the classes where each of the cells holds a new torch
abbrev pub classes_with : List Class → List ℕ → List Class
classes_with classes [] = classes
classes_with classes (cell ∷ cells) = set (classes_with classes cells) cell new_torch

-- the cave in which each of the cells holds a new torch
abbrev pub cave_with : Cave → List ℕ → Cave
cave_with cave cells = record cave { classes = classes_with cave.classes cells }

-- no cell stands twice in the list
abbrev pub AreDistinct : List ℕ → Type 0
AreDistinct cells = AllPairs (λ a b. a ≢ b) cells

-- each torch may go where it is
abbrev pub AreLegal : Cave → List Torch → Type 0
AreLegal cave torches = All (λ torch. IsTrue (is_legal cave torch.cell torch.hang)) torches

-- legal torches at distinct cells, with which each spawnable cell has the light that is needed
pub record IsSafe (cave : Cave) (torches : List Torch) : Type 0 where
  pub legal : AreLegal cave torches
  pub distinct : AreDistinct (cells_of torches)
  pub lit : (cell : ℕ) → IsTrue (is_spawnable (cave_with cave (cells_of torches)) cell)
      → Brings (cave_with cave (cells_of torches)) cell cave.rule.need

-- legal torches at distinct cells that light each dark cell
pub record LightsDarkness (cave : Cave) (torches : List Torch) : Type 0 where
  pub legal : AreLegal cave torches
  pub distinct : AreDistinct (cells_of torches)
  pub covered : (cell : ℕ) → IsDark cave cell → (place : ℕ) × Contains (cells_of torches) place × Lights cave place cell

-- `count` torches are enough, and no fewer
pub record IsFewest (cave : Cave) (count : ℕ) : Type 0 where
  pub enough : (torches : List Torch) × IsSafe cave torches × (length torches ≡ count)
  pub least : (torches : List Torch) → IsSafe cave torches → count ≤ length torches
