-- What a certificate says, apart from its text. This is this project's own.
use Rattle.std.specs.Prelude.{◌≡◌, ℕ, ◌<◌, ◌≤◌, ◌⊎◌, List, length, All, IsTrue, map}
use Rattle.std.specs.List.Sorted.{IsStrictlyIncreasing}
use Rattle.cave_base.specs.Box.{Point, cell_count, is_small}
use Rattle.cave_model.specs.Regions.{all_cells}
use Rattle.proof_rules.specs.declared.groups.Group.{Group}
use Rattle.proof_rules.specs.Groups.{all_cells_of, AreGroups}
use Rattle.proof_rules.specs.Tree.{Tree, Forest, leaf, weighted, branch, bar, omit, pick, none, more, tree_count}

-- a region, its torches, and a tree that proves them the fewest
pub record Section : Type 0 where
  pub cells : List ℕ
  pub torches : List ℕ
  pub tree : Tree

-- which version of the text it has: the first speaks of no need and no place left out, the second of no weights and no
-- cells left out, the third of no pick
pub data Version : Type 0 where
  first : Version
  second : ℕ → Version
  third : ℕ → Version
  fourth : ℕ → Version

-- its number
abbrev pub version_number : Version → ℕ
version_number first = 1
version_number (second need) = 2
version_number (third need) = 3
version_number (fourth need) = 4

-- the level that is needed
abbrev pub need_of : Version → ℕ
need_of first = 1
need_of (second need) = need
need_of (third need) = need
need_of (fourth need) = need

-- the version of its text, the box and headroom of its cave, and a section for each region
pub record Certificate : Type 0 where
  pub version : Version
  pub size : Point
  pub headroom : ℕ
  pub sections : List Section

-- the cells of each section, a list for each
abbrev pub regions_of : Certificate → List (List ℕ)
regions_of certificate = map (λ section. section.cells) certificate.sections

-- the torches of each section, a list for each
abbrev pub torch_lists : List Section → List (List ℕ)
torch_lists sections = map (λ section. section.torches) sections

-- the torches of all sections, one section after another
abbrev pub torches_of : List Section → List ℕ
torches_of sections = all_cells (torch_lists sections)

-- ---- ranges

-- ascending cells of a box of `count` cells
pub record AreListed (count : ℕ) (cells : List ℕ) : Type 0 where
  pub ascending : IsStrictlyIncreasing cells
  pub below : All (λ cell. cell < count) cells

-- groups of cells of a box of `count` cells, in their one form
pub record AreGroupsIn (count : ℕ) (groups : List Group) : Type 0 where
  pub groups_are : AreGroups groups
  pub below : All (λ cell. cell < count) (all_cells_of groups)

abbrev mutual
  -- all its numbers are cells of a box of `count` cells, those of a leaf and those left out ascend, and no branch has
  -- more than `count` kids
  pub IsTreeIn : ℕ → Tree → Type 0
  IsTreeIn count (leaf cells) = AreListed count cells
  IsTreeIn count (weighted groups) = AreGroupsIn count groups
  IsTreeIn count (branch cell kids) = (cell < count) × (tree_count kids ≤ count) × AreTreesIn count kids
  IsTreeIn count (bar place by kid) = (place < count) × (by < count) × IsTreeIn count kid
  IsTreeIn count (omit cells kid) = AreListed count cells × (0 < length cells) × IsTreeIn count kid
  IsTreeIn count (pick place with without) = (place < count) × IsTreeIn count with × IsTreeIn count without

  -- each of the trees is such
  pub AreTreesIn : ℕ → Forest → Type 0
  AreTreesIn count none = Unit {0}
  AreTreesIn count (more tree trees) = IsTreeIn count tree × AreTreesIn count trees

abbrev mutual
  -- the version with this number knows each node of the tree: bars from the second on, weighted leaves and omissions
  -- from the third on, picks from the fourth on
  pub IsKnownTo : ℕ → Tree → Type 0
  IsKnownTo version (leaf cells) = Unit {0}
  IsKnownTo version (weighted groups) = 3 ≤ version
  IsKnownTo version (branch cell kids) = AreKnownTo version kids
  IsKnownTo version (bar place by kid) = (2 ≤ version) × IsKnownTo version kid
  IsKnownTo version (omit cells kid) = (3 ≤ version) × IsKnownTo version kid
  IsKnownTo version (pick place with without) = (4 ≤ version) × IsKnownTo version with × IsKnownTo version without

  -- it knows those of each of the trees
  pub AreKnownTo : ℕ → Forest → Type 0
  AreKnownTo version none = Unit {0}
  AreKnownTo version (more tree trees) = IsKnownTo version tree × AreKnownTo version trees

-- the version can speak of these sections: it knows their nodes, and has a need of 1 or 8
pub record IsVersionOf (sections : List Section) (version : Version) : Type 0 where
  pub known : All (λ section. IsKnownTo (version_number version) section.tree) sections
  pub needed : (need_of version ≡ 1) ⊎ (need_of version ≡ 8)

-- ascending cells and ascending torches of a box of `count` cells, some of each, and a tree in it
pub record IsSectionIn (count : ℕ) (section : Section) : Type 0 where
  pub dark : AreListed count section.cells
  pub filled : 0 < length section.cells
  pub lit_by : AreListed count section.torches
  pub some : 0 < length section.torches
  pub proof : IsTreeIn count section.tree

-- a small box, a headroom of 1 or 2, sections in the box, no more than it has cells, and a version for them
pub record IsInRange (certificate : Certificate) : Type 0 where
  pub small : IsTrue (is_small certificate.size)
  pub ruled : (certificate.headroom ≡ 1) ⊎ (certificate.headroom ≡ 2)
  pub versioned : IsVersionOf certificate.sections certificate.version
  pub few : length certificate.sections ≤ cell_count certificate.size
  pub each : All (IsSectionIn (cell_count certificate.size)) certificate.sections
