-- What is asked of the trees that are joined.
use Rattle.std.specs.Prelude.{◌≡◌, ℕ}
use Rattle.proof_tree.specs.declared.branching.Branching.{Branching}
use Rattle.proof_tree.specs.declared.branching.Branching.TheVariants.{Cell, Place}

-- on a cell any number, at a place two
abbrev pub HasTreesFor : Branching → ℕ → Type 0
HasTreesFor (Cell cell) count = Unit {0}
HasTreesFor (Place place) count = count ≡ 2
