-- What bytes have told so far, given piece by piece. This is this project's own.
use Rattle.std.specs.Prelude.{◌≡◌, ℕ, ◌+◌, ◌<◌, ◌⊎◌, ◌^◌, List, [], ◌∷◌, ◌++◌, length, Option, Some, None, MatchOption}
use Rattle.proof_rules.specs.Certificate.{Certificate}
use Rattle.proof_rules.specs.Text.{IsTextOf, IsFirstMisfit}
use Rattle.certificate_lines.specs.Cuts.{HasNoFeed, IsCutLine}
use Rattle.certificate_lines.specs.Decides.{IsNone}
use Rattle.certificate_lines.specs.Numbers.{longest_line}
use Rattle.certificate_lines.specs.Orders.{AreInOrder}
use Rattle.certificate_lines.specs.Said.{Said, said, said_of, AreSaid}
use Rattle.certificate_lines.specs.Steps.{Takes}
use Rattle.certificate_lines.specs.Walked.{Walked}
use Rattle.certificate_lines.specs.declared.kind.LineKind.{LineKind}
use Rattle.certificate_lines.specs.declared.stage.Stage.{Stage}

-- what is kept of a text: what the next line has to be, how many lines were taken, the beginning of the next one,
-- the first line that doesn't fit, and the numbers of the last line that was taken
pub record HeldText : Type 0 where
  pub stage : Stage
  pub taken : ℕ
  pub last : List ℕ
  pub misfit : Option ℕ
  pub numbers : List ℕ

-- all lines that have ended fit and say this, and the last one hasn't ended
pub record Going (bytes : List ℕ) (all : List Said) (s : Stage) (taken : ℕ) (last : List ℕ) : Type 0 where
  pub walked : Walked bytes s taken last
  pub clean : HasNoFeed last
  pub says : AreSaid walked.before all
  pub order : AreInOrder s all

-- a line doesn't fit
pub record Stuck (bytes : List ℕ) (number : ℕ) : Type 0 where
  pub s : Stage
  pub taken : ℕ
  pub rest : List ℕ
  pub text : List ℕ
  pub after : List ℕ
  pub walked : Walked bytes s taken rest
  pub cut : IsCutLine rest text after
  pub no_next : IsNone (Takes s text)
  pub counted : number ≡ taken + 1

-- a line is longer than any that fits
pub record Overlong (bytes : List ℕ) (number : ℕ) : Type 0 where
  pub s : Stage
  pub taken : ℕ
  pub rest : List ℕ
  pub front : List ℕ
  pub after : List ℕ
  pub walked : Walked bytes s taken rest
  pub parts : rest ≡ front ++ after
  pub clean : HasNoFeed front
  pub long : longest_line < length front
  pub counted : number ≡ taken + 1

-- without a misfit all lines so far fit; with one, this line doesn't fit or is longer than any that fits
abbrev pub HoldsOr : List ℕ → List Said → HeldText → Option ℕ → Type 0
HoldsOr bytes all kept None = Going bytes all kept.stage kept.taken kept.last
HoldsOr bytes all kept (Some number) = Stuck bytes number ⊎ Overlong bytes number

-- this is kept of the bytes, whose lines say that
abbrev pub Holds : List ℕ → List Said → HeldText → Type 0
Holds bytes all kept = HoldsOr bytes all kept kept.misfit

-- a line that ends in the piece was taken, and this is what comes after it
pub record TakesLine (piece after : List ℕ) (k : LineKind) (old new : HeldText) : Type 0 where
  pub front : List ℕ
  pub parts : piece ≡ front ++ after
  pub some : 0 < length front
  pub each : (bytes : List ℕ) (all : List Said) → Holds bytes all old
      → Holds (bytes ++ front) (all ++ said k new.numbers ∷ []) new
  pub going : new.misfit ≡ None
  pub counted : new.taken ≡ old.taken + 1

-- no line was taken, and the piece is done
pub record EndsPiece (piece : List ℕ) (old new : HeldText) : Type 0 where
  pub each : (bytes : List ℕ) (all : List Said) → Holds bytes all old → Holds (bytes ++ piece) all new

-- with room for `more` bytes
pub record HasRoom (kept : HeldText) (more : ℕ) : Type 0 where
  pub bytes : List ℕ
  pub all : List Said
  pub holds : Holds bytes all kept
  pub room : length bytes + more < 2 ^ 64

-- the bytes are a certificate, and this is what the lines of each such say
pub record IsWhole (bytes : List ℕ) (all : List Said) : Type 0 where
  pub certificate : Certificate
  pub text : IsTextOf bytes certificate
  pub says : (other : Certificate) → IsTextOf bytes other → all ≡ said_of other

-- at the end: what the bytes are, and what they say
pub record Tells (kept : HeldText) (result : Option ℕ) : Type 0 where
  pub each : (bytes : List ℕ) (all : List Said) → Holds bytes all kept → MatchOption result
      (IsWhole bytes all) (λ line. IsFirstMisfit bytes line)
