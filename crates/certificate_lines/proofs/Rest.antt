-- What is left of a certificate at each stage.
use Rattle.std.proofs.Common.{◌≡◌, ℕ, ◌+◌, ◌<◌, List, [], ◌∷◌, ◌++◌, length, map, All}
use Rattle.std.specs.Prelude.{codes, flat_map}
use Rattle.proof_rules.specs.declared.groups.Group.{Group}
use Rattle.proof_rules.specs.Groups.{all_cells_of, first_cells, IsGroup}
use Rattle.proof_rules.specs.Tree.{Forest, tree_count}
use Rattle.proof_rules.specs.Certificate.{Section, AreListed, AreTreesIn, IsKnownTo, AreKnownTo, IsSectionIn}
use Rattle.proof_rules.specs.Text.{line, group_line, forest_lines, section_lines}
use Rattle.certificate_lines.proofs.ShareLemmas.{AscendFrom}
use Rattle.certificate_lines.specs.declared.stage.Stage.{Stage}
use Rattle.certificate_lines.specs.declared.stage.Stage.TheVariants as stage

pub record SectionsRest (version count to_come : ℕ) (lines : List (List ℕ)) : Type 0 where
  pub sections : List Section
  pub many : length sections ≡ to_come
  pub each : All (IsSectionIn count) sections
  pub known : All (λ section. IsKnownTo version section.tree) sections
  pub is : lines ≡ flat_map section_lines sections ++ codes "end" ∷ []

pub record NodesRest (version count to_come pending : ℕ) (lines : List (List ℕ)) : Type 0 where
  pub trees : Forest
  pub many : tree_count trees ≡ pending
  pub each : AreTreesIn count trees
  pub known : AreKnownTo version trees
  pub after : List (List ℕ)
  pub rest : SectionsRest version count to_come after
  pub is : lines ≡ forest_lines trees ++ after

pub record GroupsRest (version count to_come pending left from : ℕ) (lines : List (List ℕ)) : Type 0 where
  pub groups : List Group
  pub many : length groups ≡ left
  pub form : All IsGroup groups
  pub below : All (λ cell. cell < count) (all_cells_of groups)
  pub ordered : AscendFrom from (first_cells groups)
  pub after : List (List ℕ)
  pub fewer : ℕ
  pub one_less : pending ≡ fewer + 1
  pub rest : NodesRest version count to_come fewer after
  pub is : lines ≡ map group_line groups ++ after

pub record TorchesRest (version count to_come t : ℕ) (lines : List (List ℕ)) : Type 0 where
  pub torches : List ℕ
  pub listed : AreListed count torches
  pub many : length torches ≡ t
  pub after : List (List ℕ)
  pub rest : NodesRest version count to_come 1 after
  pub is : lines ≡ line (codes "T") torches ∷ after

pub record DarkRest (version count to_come n t : ℕ) (lines : List (List ℕ)) : Type 0 where
  pub cells : List ℕ
  pub listed : AreListed count cells
  pub many : length cells ≡ n
  pub after : List (List ℕ)
  pub rest : TorchesRest version count to_come t after
  pub is : lines ≡ line (codes "D") cells ∷ after

abbrev pub Rest : Stage → List (List ℕ) → Type 0
Rest (stage.Region version count to_come) lines = SectionsRest version count to_come lines
Rest (stage.Dark version count to_come n t) lines = DarkRest version count to_come n t lines
Rest (stage.Torches version count to_come t) lines = TorchesRest version count to_come t lines
Rest (stage.Node version count to_come pending) lines = NodesRest version count to_come pending lines
Rest (stage.Group version count to_come pending left from) lines =
    GroupsRest version count to_come pending left from lines
Rest stage.Done lines = lines ≡ []
Rest s lines = Unit {0}
