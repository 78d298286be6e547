-- When a certificate proves that its torches are the fewest of a cave. This is this project's own.
use Rattle.std.specs.Prelude.{◌≡◌, ℕ, List, [], length, All}
use Rattle.cave_model.specs.Cave.{Cave}
use Rattle.cave_model.specs.Spawn.{IsDark}
use Rattle.cave_model.specs.Torches.{IsPlace}
use Rattle.cave_model.specs.Plan.{Torch, cells_of, AreDistinct, IsSafe, IsFewest}
use Rattle.cave_model.specs.Regions.{AreRegions}
use Rattle.cave_model.specs.Coverage.{of_cave}
use Rattle.cave_model.specs.Coverage.{IsLitBy}
use Rattle.proof_rules.specs.Good.{Good}
use Rattle.proof_rules.specs.Certificate.{Section, Certificate, need_of, regions_of, torches_of}
use Rattle.proof_rules.specs.Text.{IsTextOf}

-- it speaks of this box and this rule
pub record IsOfCave (cave : Cave) (certificate : Certificate) : Type 0 where
  pub box : certificate.size ≡ cave.size
  pub headroom : certificate.headroom ≡ cave.rule.headroom
  pub need : need_of certificate.version ≡ cave.rule.need

-- distinct places
pub record AreDistinctPlaces (cave : Cave) (cells : List ℕ) : Type 0 where
  pub legal : All (IsPlace cave) cells
  pub distinct : AreDistinct cells

-- each dark cell is lit by one of them
abbrev pub LeaveNoneDark : Cave → List ℕ → Type 0
LeaveNoneDark cave places = (cell : ℕ) → IsDark cave cell → IsLitBy (of_cave cave) places cell

-- each tree proves the floor of its section, with nothing chosen or barred
abbrev pub AreProved : Cave → (Section → ℕ) → List Section → Type 0
AreProved cave floor sections = All (λ section. Good (of_cave cave) section.cells [] []
    (floor section) section.tree) sections

-- it speaks of this cave, its torches are distinct places that leave no cell dark, its regions are the cave's, and each
-- tree proves that no cover of its region has fewer places than that has torches
pub record Proves (cave : Cave) (certificate : Certificate) : Type 0 where
  pub of_cave : IsOfCave cave certificate
  pub places : AreDistinctPlaces cave (torches_of certificate.sections)
  pub lit : LeaveNoneDark cave (torches_of certificate.sections)
  pub regions : AreRegions cave (regions_of certificate)
  pub trees : AreProved cave (λ section. length section.torches) certificate.sections

-- the bytes are a certificate, and it proves this of the cave
pub record Accepts (cave : Cave) (bytes : List ℕ) (certificate : Certificate) : Type 0 where
  pub text : IsTextOf bytes certificate
  pub proves : Proves cave certificate

-- torches at these cells are safe, and no safe ones are fewer
pub record IsBestPlan (cave : Cave) (cells : List ℕ) : Type 0 where
  pub hung : (torches : List Torch) × (cells_of torches ≡ cells) × IsSafe cave torches
  pub fewest : IsFewest cave (length cells)
