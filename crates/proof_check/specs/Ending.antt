-- What the judge says at the end of a certificate of this cave's box and rule. This is this project's own.
use Rattle.std.specs.Prelude.{ℕ, Option, Some, None, MatchOption}
use Rattle.cave_model.specs.Cave.{Cave}
use Rattle.certificate_lines.specs.Said.{said_of}
use Rattle.proof_rules.specs.Certificate.{Certificate, IsInRange}
use Rattle.proof_check.specs.Accepted.{IsOfCave, Proves}
use Rattle.proof_check.specs.Heard.{IsAfter}
use Rattle.proof_check.specs.Refused.{IsReasonOf}
use Rattle.proof_check.specs.declared.judge.Judge.{Judge}
use Rattle.proof_check.specs.declared.reason.Reason.{Reason}
use Rattle.proof_check.specs.declared.reason.Reason.TheVariants.{BadNode, TooWeak}

-- of the first bad node and the first weak leaf
abbrev pub node_reason : Option ℕ → Option ℕ → Option Reason
node_reason (Some line) weak = Some (BadNode line)
node_reason None (Some line) = Some (TooWeak line)
node_reason None None = None

-- the reason, or none where it proves its torches the fewest; of whatever certificate the judge has heard
pub record Ends (cave : Cave) (judge : Judge) (result : Option Reason) : Type 0 where
  pub each : (certificate : Certificate) → IsInRange certificate → IsOfCave cave certificate
      → IsAfter cave judge (said_of certificate)
      → MatchOption result (Proves cave certificate) (IsReasonOf cave certificate)
