-- The instance of a cave, and why there is none. This is this project's own.
use Rattle.std.specs.Prelude.{◌≡◌, ◌↔◌, ◌≤◌, ℕ}
use Rattle.cave_model.specs.Cave.{Cave}
use Rattle.cave_model.specs.Spawn.{IsDark, AreDarkCells}
use Rattle.cave_model.specs.Torches.{IsPlace, ArePlaces, Lights}
use Rattle.set_cover.specs.Sparse.{Sparse, IsSparse, ListsIn}
use Rattle.cave_problem.specs.declared.fault.CoverFault.{CoverFault}
use Rattle.cave_problem.specs.declared.fault.CoverFault.TheVariants.{Unlightable}

-- the dark cells and the places of the cave, and which of these lights which of those
pub record IsProblemOf (cave : Cave) (problem : Sparse) : Type 0 where
  pub kept : IsSparse problem
  pub dark : AreDarkCells cave problem.cells
  pub legal : ArePlaces cave problem.places
  pub lit : (place cell : ℕ) → ListsIn problem place cell ↔ (IsPlace cave place × IsDark cave cell
      × Lights cave place cell)

-- a dark cell that no legal place lights
pub record IsUnlightable (cave : Cave) (cell : ℕ) : Type 0 where
  pub dark : IsDark cave cell
  pub alone : (place : ℕ) → IsPlace cave place → Lights cave place cell → ⊥

-- the fault names the least such cell
abbrev pub IsUnlightableFault : Cave → CoverFault → Type 0
IsUnlightableFault cave fault = (cell : ℕ) × IsUnlightable cave cell
    × ((other : ℕ) → IsUnlightable cave other → cell ≤ other) × (fault ≡ Unlightable cell)
