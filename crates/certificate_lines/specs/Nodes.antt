-- What a line of a tree may be, and what comes after it. This is this project's own.
use Rattle.std.specs.Prelude.{◌≡◌, ℕ, zero, suc, ◌+◌, ◌<◌, ◌≤◌, List, [], ◌∷◌, length, flat_map, All, slice_index}
use Rattle.proof_rules.specs.declared.groups.Group.{Group}
use Rattle.proof_rules.specs.Groups.{cells_of, IsGroup}
use Rattle.proof_rules.specs.Certificate.{AreListed}
use Rattle.certificate_lines.specs.declared.stage.Stage.{Stage}
use Rattle.certificate_lines.specs.declared.stage.Stage.TheVariants as stage

-- the stage where as many trees are still to come as the last argument says
abbrev pub after_node : ℕ → ℕ → ℕ → ℕ → Stage
after_node version count to_come zero = stage.Region version count to_come
after_node version count to_come (suc p) = stage.Node version count to_come (suc p)

-- the stage where `left` groups of a weighted leaf are still to come, whose first cells are at least `from`, and then
-- `pending` trees
abbrev pub after_group : ℕ → ℕ → ℕ → ℕ → ℕ → ℕ → Stage
after_group version count to_come pending zero from = after_node version count to_come pending
after_group version count to_come pending (suc left) from =
    stage.Group version count to_come (suc pending) (suc left) from

-- the numbers of a group: its capacity, how many cells it has, and each cell with its weight
abbrev pub group_numbers : Group → List ℕ
group_numbers group = group.capacity ∷ length group.shares
    ∷ flat_map (λ share. share.cell ∷ share.weight ∷ []) group.shares

-- the first cell of a group
abbrev pub first_cell : Group → ℕ
first_cell group = slice_index (cells_of group.shares) 0

-- ---- what the numbers of a line mean

-- how many cells a leaf has, and these, ascending, of the box; one tree less is to come
abbrev pub LeafMeans : ℕ → ℕ → ℕ → ℕ → List ℕ → Stage → Type 0
LeafMeans version count to_come pending numbers next = (p : ℕ) × (cells : List ℕ) × (pending ≡ p + 1)
    × (numbers ≡ length cells ∷ cells) × AreListed count cells × (next ≡ after_node version count to_come p)

-- a cell of the box and how many kids the branch has, no more than the box has cells; the kids' trees come in its place
abbrev pub BranchMeans : ℕ → ℕ → ℕ → ℕ → List ℕ → Stage → Type 0
BranchMeans version count to_come pending numbers next = (p cell kids : ℕ) × (pending ≡ p + 1)
    × (numbers ≡ cell ∷ kids ∷ []) × (cell < count) × (kids ≤ count)
    × (next ≡ after_node version count to_come (kids + p))

-- a place to leave out and another, both in the box, from the second version on; as many trees are to come as before
abbrev pub BarMeans : ℕ → ℕ → ℕ → ℕ → List ℕ → Stage → Type 0
BarMeans version count to_come pending numbers next = (p place by : ℕ) × (2 ≤ version) × (pending ≡ p + 1)
    × (numbers ≡ place ∷ by ∷ []) × (place < count) × (by < count) × (next ≡ stage.Node version count to_come pending)

-- how many cells to leave out, some, and these, ascending, of the box, from the third version on; as many trees are to
-- come as before
abbrev pub OmitMeans : ℕ → ℕ → ℕ → ℕ → List ℕ → Stage → Type 0
OmitMeans version count to_come pending numbers next = (p : ℕ) × (cells : List ℕ) × (3 ≤ version) × (pending ≡ p + 1)
    × (numbers ≡ length cells ∷ cells) × (0 < length cells) × AreListed count cells
    × (next ≡ stage.Node version count to_come pending)

-- a place of the box to choose or to bar, from the fourth version on; two trees come in its place
abbrev pub PickMeans : ℕ → ℕ → ℕ → ℕ → List ℕ → Stage → Type 0
PickMeans version count to_come pending numbers next = (p place : ℕ) × (4 ≤ version) × (pending ≡ p + 1)
    × (numbers ≡ place ∷ []) × (place < count) × (next ≡ stage.Node version count to_come (pending + 1))

-- how many groups a weighted leaf has, some, no more than the box has cells, from the third version on; they come next
abbrev pub WeightedMeans : ℕ → ℕ → ℕ → ℕ → List ℕ → Stage → Type 0
WeightedMeans version count to_come pending numbers next = (groups : ℕ) × (3 ≤ version) × (numbers ≡ groups ∷ [])
    × (0 < groups) × (groups ≤ count) × (next ≡ stage.Group version count to_come pending groups 0)

-- a group with cells of the box, of which the first is at least `from` and leaves greater ones for the groups to come;
-- one group less is to come, and one tree less after the last group
abbrev pub GroupMeans : ℕ → ℕ → ℕ → ℕ → ℕ → ℕ → List ℕ → Stage → Type 0
GroupMeans version count to_come pending left from numbers next = (p l : ℕ) × (group : Group) × (pending ≡ p + 1)
    × (left ≡ l + 1) × (numbers ≡ group_numbers group) × IsGroup group
    × All (λ cell. cell < count) (cells_of group.shares) × (from ≤ first_cell group)
    × (first_cell group + left ≤ count) × (next ≡ after_group version count to_come p l (first_cell group + 1))
