-- The certificate of a plan: its regions, each with its torches and its tree. This is this project's own.
use Rattle.std.specs.Prelude.{ℕ, max, nat_eq, nat_le, List, [], ◌∷◌, length, map, All, if◌then◌else◌}
use Rattle.cave_model.specs.Cave.{Cave}
use Rattle.cave_model.specs.Coverage.{of_cave, Agrees}
use Rattle.cave_model.specs.Regions.{AreRegions}
use Rattle.set_cover.specs.Instance.{Instance, of_instance}
use Rattle.proof_rules.specs.Tree.{Tree, Forest, leaf, weighted, branch, bar, omit, pick, none, more}
use Rattle.proof_rules.specs.Good.{Good}
use Rattle.proof_rules.specs.Certificate.{Section, Version, first, second, third, fourth, Certificate}
use Rattle.proof_rules.specs.Text.{ended, lines_of}
use Rattle.instance_regions.specs.Cover.{IsCoverOfRegion}
use Rattle.instance_regions.specs.Region.{IsRegion}
use Rattle.proof_tree.specs.Order.{in_order, ordered_tree}

-- a region with a cover of it, and a tree
pub record Plan : Type 0 where
  pub region : Instance
  pub torches : List ℕ
  pub tree : Tree

abbrev mutual
  -- the number of the first version that knows each node of the tree
  pub version_for : Tree → ℕ
  version_for (leaf cells) = 1
  version_for (weighted groups) = 3
  version_for (branch cell kids) = versions_for kids
  version_for (bar place by kid) = max (version_for kid) 2
  version_for (omit cells kid) = max (version_for kid) 3
  version_for (pick place with without) = 4

  -- the number of the first version that knows each node of the trees
  pub versions_for : Forest → ℕ
  versions_for none = 1
  versions_for (more tree trees) = max (version_for tree) (versions_for trees)

-- the number of the first version that knows each node of the plans' trees
abbrev pub plans_version : List Plan → ℕ
plans_version [] = 1
plans_version (plan ∷ plans) = max (version_for plan.tree) (plans_version plans)

-- the number of the first version that speaks of this need
abbrev pub need_version : ℕ → ℕ
need_version need = if nat_eq need 1 then 1 else 2

-- the number of the first version that can say all
abbrev pub version_needed : ℕ → List Plan → ℕ
version_needed need plans = max (need_version need) (plans_version plans)

-- the version with this number, under this need
abbrev pub version_at : ℕ → ℕ → Version
version_at need version = if nat_le 4 version then fourth need
    else (if nat_le 3 version then third need else (if nat_le 2 version then second need else first))

-- the version for these plans under this need: the first that can say all
abbrev pub version_of : ℕ → List Plan → Version
version_of need plans = version_at need (version_needed need plans)

-- the section of a plan: its cells, its torches in order, and its tree with the cells of each leaf in order
abbrev pub section_of : Plan → Section
section_of plan = record { cells = plan.region.cells; torches = in_order plan.torches; tree = ordered_tree plan.tree }

-- the certificate of a cave's plans: its box, its rule, and a section for each of the plans
abbrev pub certificate_of : Cave → List Plan → Certificate
certificate_of cave plans = record {
  version = version_of cave.rule.need plans;
  size = cave.size;
  headroom = cave.rule.headroom;
  sections = map section_of plans;
}

-- the text of that certificate, all its lines ended
abbrev pub certificate_text : Cave → List Plan → List ℕ
certificate_text cave plans = ended (lines_of (certificate_of cave plans))

-- a region that agrees with the cave, a cover of it, and a tree that proves no cover smaller
pub record IsBestOf (cave : Cave) (plan : Plan) : Type 0 where
  pub kept : IsRegion plan.region
  pub agrees : Agrees (of_instance plan.region) (of_cave cave) plan.region.cells
  pub cover : IsCoverOfRegion plan.region plan.torches
  pub good : Good (of_instance plan.region) plan.region.cells [] [] (length plan.torches) plan.tree

-- a best plan for each of the cave's regions
pub record AreBestOf (cave : Cave) (plans : List Plan) : Type 0 where
  pub regions : AreRegions cave (map (λ plan. plan.region.cells) plans)
  pub each : All (IsBestOf cave) plans
