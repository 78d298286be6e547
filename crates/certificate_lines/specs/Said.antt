-- The lines of a certificate as kinds and numbers. This is this project's own.
use Rattle.std.specs.Prelude.{ℕ, List, [], ◌∷◌, ◌++◌, length, map, flat_map}
use Rattle.proof_rules.specs.Tree.{Tree, Forest, leaf, weighted, branch, bar, omit, pick, none, more, tree_count}
use Rattle.proof_rules.specs.declared.groups.Share.{Share}
use Rattle.proof_rules.specs.declared.groups.Group.{Group}
use Rattle.proof_rules.specs.Certificate.{Section, Version, first, second, third, fourth, Certificate}
use Rattle.proof_rules.specs.Text.{line}
use Rattle.certificate_lines.specs.Kinds.{word_of}
use Rattle.certificate_lines.specs.Decides.{IsLineOf}
use Rattle.certificate_lines.specs.declared.kind.LineKind.{LineKind}
use Rattle.certificate_lines.specs.declared.kind.LineKind.TheVariants as kind

-- what a line says
pub record Said : Type 0 where
  pub kind : LineKind
  pub numbers : List ℕ

-- a line of this kind with these numbers
abbrev pub said : LineKind → List ℕ → Said
said k numbers = record { kind = k; numbers = numbers }

-- the line's text: the word of its kind, and its numbers, each after a space
abbrev pub text_of : Said → List ℕ
text_of s = line (word_of s.kind) s.numbers

-- the shares as numbers, each a cell and its weight
abbrev pub share_numbers : List Share → List ℕ
share_numbers shares = flat_map (λ share. share.cell ∷ share.weight ∷ []) shares

-- what the line of a group says: its capacity, how many cells it has, and each cell with its weight
abbrev pub group_said : Group → Said
group_said group = said kind.Group (group.capacity ∷ length group.shares ∷ share_numbers group.shares)

abbrev mutual
  -- what the lines of a tree say, a node before its kids, and the kids in order
  pub tree_said : Tree → List Said
  tree_said (leaf cells) = said kind.Leaf (length cells ∷ cells) ∷ []
  tree_said (branch cell kids) = said kind.Branch (cell ∷ tree_count kids ∷ []) ∷ forest_said kids
  tree_said (bar place by kid) = said kind.Bar (place ∷ by ∷ []) ∷ tree_said kid
  tree_said (weighted groups) = said kind.Weighted (length groups ∷ []) ∷ map group_said groups
  tree_said (omit cells kid) = said kind.Omit (length cells ∷ cells) ∷ tree_said kid
  tree_said (pick place with without) = said kind.Pick (place ∷ []) ∷ (tree_said with ++ tree_said without)

  -- what the lines of the trees say, one tree after another
  pub forest_said : Forest → List Said
  forest_said none = []
  forest_said (more tree trees) = tree_said tree ++ forest_said trees

-- what the lines of a region say: how many cells and torches it has, its cells, its torches, and its tree
abbrev pub section_said : Section → List Said
section_said section = said kind.Region (length section.cells ∷ length section.torches ∷ [])
    ∷ said kind.Dark section.cells
    ∷ said kind.Torches section.torches
    ∷ tree_said section.tree

-- what the first lines say, up to the headroom and what is needed
abbrev pub head_said : Version → Said → Said → List Said
head_said first box headroom = said kind.Version (1 ∷ []) ∷ box ∷ headroom ∷ []
head_said (second need) box headroom = said kind.Version (2 ∷ []) ∷ box ∷ headroom ∷ said kind.Need (need ∷ []) ∷ []
head_said (third need) box headroom = said kind.Version (3 ∷ []) ∷ box ∷ headroom ∷ said kind.Need (need ∷ []) ∷ []
head_said (fourth need) box headroom = said kind.Version (4 ∷ []) ∷ box ∷ headroom ∷ said kind.Need (need ∷ []) ∷ []

-- what the lines of a certificate say
abbrev pub said_of : Certificate → List Said
said_of certificate = head_said certificate.version
    (said kind.Size (certificate.size.x ∷ certificate.size.y ∷ certificate.size.z ∷ []))
    (said kind.Headroom (certificate.headroom ∷ []))
    ++ said kind.Regions (length certificate.sections ∷ [])
    ∷ (flat_map section_said certificate.sections ++ said kind.End [] ∷ [])

-- these lines say just this
abbrev pub AreSaid : List (List ℕ) → List Said → Type 0
AreSaid [] [] = Unit {0}
AreSaid [] (s ∷ all) = ⊥
AreSaid (text ∷ lines) [] = ⊥
AreSaid (text ∷ lines) (s ∷ all) = IsLineOf text (word_of s.kind) s.numbers × AreSaid lines all
