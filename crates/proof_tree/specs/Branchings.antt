-- What a piece is opened on, told apart by its code.
use Rattle.std.specs.Prelude.{◌≡◌, ℕ, Bool, true, false, refl}
use Rattle.std.specs.Coded.{Coded, code_by, coded×, coded_ℕ, coded_bool}
use Rattle.proof_tree.specs.declared.branching.Branching.{Branching}
use Rattle.proof_tree.specs.declared.branching.Branching.TheVariants.{Cell, Place}

-- whether it is a cell, and its number
abbrev pub parts_of : Branching → Bool × ℕ
parts_of (Cell cell) = (true, cell)
parts_of (Place place) = (false, place)

-- and back
abbrev pub of_parts : Bool × ℕ → Branching
of_parts (true, cell) = Cell cell
of_parts (false, place) = Place place

-- which is the same
pub parts_back : (on : Branching) → of_parts (parts_of on) ≡ on
parts_back (Cell cell) = refl
parts_back (Place place) = refl

-- the code by which they are told apart, made of those of their parts
abbrev pub branching_coded : Coded Branching
branching_coded = code_by (Bool × ℕ) (coded× coded_bool coded_ℕ) parts_of of_parts parts_back
