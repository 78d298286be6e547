-- The text of a certificate, line by line. This is this project's own.
use Rattle.std.specs.Prelude.{◌≡◌, ℕ, ◌+◌, List, [], ◌∷◌, ◌++◌, length, codes, decimal, map}
use Rattle.std.specs.Prelude.{flat_map}
use Rattle.proof_rules.specs.declared.groups.Group.{Group}
use Rattle.proof_rules.specs.Tree.{Tree, Forest, leaf, weighted, branch, bar, omit, pick, none, more, tree_count}
use Rattle.proof_rules.specs.Certificate.{Section, Version, first, second, third, fourth, Certificate, IsInRange}

-- a word, and numbers, each after a space
abbrev pub line : List ℕ → List ℕ → List ℕ
line word numbers = word ++ flat_map (λ n. codes " " ++ decimal n) numbers

-- the line of a group: its capacity, how many cells it has, and each cell with its weight
abbrev pub group_line : Group → List ℕ
group_line group = line (codes "G")
    (group.capacity ∷ length group.shares ∷ flat_map (λ share. share.cell ∷ share.weight ∷ []) group.shares)

abbrev mutual
  -- a line for each node, a node before its kids, and the kids in order; after that of a weighted leaf one for each of
  -- its groups; after that of a pick the tree with its place chosen, then that with it barred
  pub tree_lines : Tree → List (List ℕ)
  tree_lines (leaf cells) = line (codes "L") (length cells ∷ cells) ∷ []
  tree_lines (weighted groups) = line (codes "W") (length groups ∷ []) ∷ map group_line groups
  tree_lines (branch cell kids) = line (codes "B") (cell ∷ tree_count kids ∷ []) ∷ forest_lines kids
  tree_lines (bar place by kid) = line (codes "E") (place ∷ by ∷ []) ∷ tree_lines kid
  tree_lines (omit cells kid) = line (codes "D") (length cells ∷ cells) ∷ tree_lines kid
  tree_lines (pick place with without) = line (codes "P") (place ∷ []) ∷ (tree_lines with ++ tree_lines without)

  -- the lines of the trees, one tree after another
  pub forest_lines : Forest → List (List ℕ)
  forest_lines none = []
  forest_lines (more tree trees) = tree_lines tree ++ forest_lines trees

-- the lines of a region: how many cells and torches it has, its cells, its torches, and its tree
abbrev pub section_lines : Section → List (List ℕ)
section_lines section = line (codes "region") (length section.cells ∷ length section.torches ∷ [])
    ∷ line (codes "D") section.cells
    ∷ line (codes "T") section.torches
    ∷ tree_lines section.tree

-- the first lines, up to the headroom and what is needed
abbrev pub head_lines : Version → List ℕ → List ℕ → List (List ℕ)
head_lines first box headroom = codes "torchproof 1" ∷ box ∷ headroom ∷ []
head_lines (second need) box headroom = codes "torchproof 2" ∷ box ∷ headroom ∷ line (codes "need") (need ∷ []) ∷ []
head_lines (third need) box headroom = codes "torchproof 3" ∷ box ∷ headroom ∷ line (codes "need") (need ∷ []) ∷ []
head_lines (fourth need) box headroom = codes "torchproof 4" ∷ box ∷ headroom ∷ line (codes "need") (need ∷ []) ∷ []

-- all lines of a certificate: the first ones, how many regions there are, those of each region, and `end`
abbrev pub lines_of : Certificate → List (List ℕ)
lines_of certificate = head_lines certificate.version
    (line (codes "box") (certificate.size.x ∷ certificate.size.y ∷ certificate.size.z ∷ []))
    (line (codes "headroom") (certificate.headroom ∷ []))
    ++ line (codes "regions") (length certificate.sections ∷ [])
    ∷ (flat_map section_lines certificate.sections ++ codes "end" ∷ [])

-- lines, each with the line feed that ends it
abbrev pub ended : List (List ℕ) → List ℕ
ended lines = flat_map (λ text. text ++ 10 ∷ []) lines

-- the bytes are the text of this certificate
pub record IsTextOf (bytes : List ℕ) (certificate : Certificate) : Type 0 where
  pub in_range : IsInRange certificate
  pub text : bytes ≡ ended (lines_of certificate)

-- some certificate begins with these lines
abbrev pub AreFirstLines : List (List ℕ) → Type 0
AreFirstLines lines = (certificate : Certificate) × IsInRange certificate × (more : List (List ℕ))
    × (lines_of certificate ≡ lines ++ more)

-- the first line that doesn't fit: no certificate begins with the lines up to this one, but some does with those
-- before it
pub record IsFirstMisfit (bytes : List ℕ) (number : ℕ) : Type 0 where
  pub before : List (List ℕ)
  pub rest : List ℕ
  pub parts : bytes ≡ ended before ++ rest
  pub counted : number ≡ length before + 1
  pub fits : AreFirstLines before
  pub breaks : (next later : List ℕ) → rest ≡ next ++ 10 ∷ later → ¬ AreFirstLines (before ++ next ∷ [])
  pub unfinished : (certificate : Certificate) → ¬ IsTextOf bytes certificate
