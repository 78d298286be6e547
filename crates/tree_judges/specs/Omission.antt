-- Cells that are left out, and trees that speak of none of them. This is this project's own.
use Rattle.std.specs.Prelude.{ℕ, List, All}
use Rattle.set_cover.specs.Bits.{Has, IsRowOf, IsWithin}
use Rattle.set_cover.specs.Instance.{Instance, of_indices, row_of}
use Rattle.proof_rules.specs.declared.groups.Share.{Share}
use Rattle.proof_rules.specs.declared.groups.Group.{Group}
use Rattle.proof_rules.specs.Tree.{Tree, Forest, leaf, weighted, branch, bar, omit, pick, none, more}
use Rattle.proof_rules.specs.Omitted.{left_without}
use Rattle.proof_rules.specs.Good.{Good}
use Rattle.pack_bound.specs.Indices.{cell_indices}
use Rattle.pack_bound.specs.Judged.{MayGiveWay}
use Rattle.pack_bound.specs.Nodes.{NodeState}

-- none of the cells is in the row
abbrev pub CellsAvoid : List ℕ → List ℕ → Type 0
CellsAvoid omitted cells = All (λ cell. ¬ Has omitted cell) cells

-- none of the shares is of a cell in the row
abbrev pub SharesAvoid : List ℕ → List Share → Type 0
SharesAvoid omitted shares = All (λ share. ¬ Has omitted share.cell) shares

-- none of the groups has such a share
abbrev pub GroupsAvoid : List ℕ → List Group → Type 0
GroupsAvoid omitted groups = All (λ group. SharesAvoid omitted group.shares) groups

abbrev mutual
  -- the tree speaks of no cell in the row: at no leaf, no branch and no omission; bars and picks speak of none
  pub Avoids : List ℕ → Tree → Type 0
  Avoids omitted (leaf cells) = CellsAvoid omitted cells
  Avoids omitted (weighted groups) = GroupsAvoid omitted groups
  Avoids omitted (branch cell kids) = (¬ Has omitted cell) × AllAvoid omitted kids
  Avoids omitted (bar place by kid) = Avoids omitted kid
  Avoids omitted (omit cells kid) = CellsAvoid omitted cells × Avoids omitted kid
  Avoids omitted (pick place with without) = Avoids omitted with × Avoids omitted without

  -- each of the trees does so
  pub AllAvoid : List ℕ → Forest → Type 0
  AllAvoid omitted none = Unit {0}
  AllAvoid omitted (more tree trees) = Avoids omitted tree × AllAvoid omitted trees

-- the place may give way, and the other lights all that it lights of the cells of the row
pub record MayBeBarredOver (region : Instance) (state : NodeState) (left : List ℕ) (place by : ℕ) : Type 0 where
  pub gives : MayGiveWay region state place by
  pub within : IsWithin (row_of region place) left (row_of region by)

-- the tree closes what is left without the cells of the row, whichever way these and the barred places are listed
pub record ClosesWithout (region : Instance) (state : NodeState) (omitted : List ℕ) (floor : ℕ) (tree : Tree) : Type 0
  where
    pub good : (barred these : List ℕ) → IsRowOf barred state.barred → IsRowOf these omitted
        → Good (of_indices region) (left_without these (cell_indices region)) state.chosen barred floor tree
