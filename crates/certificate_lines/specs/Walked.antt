-- The lines taken so far.
use Rattle.std.specs.Prelude.{◌≡◌, ℕ, ◌+◌, ◌*◌, ◌≤◌, List, ◌++◌, length}
use Rattle.cave_base.specs.Box.{most_cells}
use Rattle.proof_rules.specs.Text.{ended}
use Rattle.certificate_lines.specs.Cuts.{AreClean}
use Rattle.certificate_lines.specs.Steps.{Leads}
use Rattle.certificate_lines.specs.Sound.{IsSoundStage, pending_of}
use Rattle.certificate_lines.specs.declared.stage.Stage.{Stage}
use Rattle.certificate_lines.specs.declared.stage.Stage.TheVariants as stage

-- `taken` lines were taken, which lead from the start to this stage alone
pub record Walked (bytes : List ℕ) (s : Stage) (taken : ℕ) (rest : List ℕ) : Type 0 where
  pub before : List (List ℕ)
  pub parts : bytes ≡ ended before ++ rest
  pub clean : AreClean before
  pub counted : taken ≡ length before
  pub leads : Leads before stage.Start s
  pub only : (other : Stage) → Leads before stage.Start other → other ≡ s
  pub sound : IsSoundStage s
  pub few : pending_of s ≤ most_cells * taken
  pub within : taken + length rest ≤ length bytes
