-- The cells of a group as numbers, each before its weight. This is this project's own.
use Rattle.std.specs.Prelude.{◌≡◌, ℕ, ◌+◌, ◌<◌, ◌≤◌, List, [], ◌∷◌, All}
use Rattle.proof_rules.specs.declared.groups.Group.{Group}
use Rattle.proof_rules.specs.Groups.{most_weight, cells_of, IsGroup}
use Rattle.certificate_lines.specs.Nodes.{group_numbers, first_cell}

-- cells of a box of `count` cells, which ascend from `from` on, each with a weight of at least 1
abbrev pub AreSharesIn : ℕ → ℕ → List ℕ → Type 0
AreSharesIn count from [] = Unit {0}
AreSharesIn count from (cell ∷ []) = ⊥
AreSharesIn count from (cell ∷ weight ∷ more) = (from ≤ cell) × (cell < count) × (0 < weight) × (weight ≤ most_weight)
    × AreSharesIn count (cell + 1) more

-- the numbers are those of a group in a box of `count` cells, whose first cell is `cell`, which is at least `from`
pub record IsGroupFrom (count from : ℕ) (numbers : List ℕ) (cell : ℕ) : Type 0 where
  pub group : Group
  pub is : numbers ≡ group_numbers group
  pub form : IsGroup group
  pub below : All (λ cell. cell < count) (cells_of group.shares)
  pub first : cell ≡ first_cell group
  pub least : from ≤ cell

-- the numbers are those of no such group
pub record IsNoGroup (count from : ℕ) (numbers : List ℕ) : Type 0 where
  pub none : (cell : ℕ) → IsGroupFrom count from numbers cell → ⊥
