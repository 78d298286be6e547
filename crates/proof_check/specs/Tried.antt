-- What a trial has heard of the bytes of a certificate. This is this project's own.
use Rattle.std.specs.Prelude.{◌≡◌, ℕ, ◌+◌, ◌<◌, ◌^◌, List, [], ◌∷◌, ◌++◌, length, All}
use Rattle.std.specs.Prelude.{Contains, MatchBool, None}
use Rattle.cave_model.specs.Cave.{Cave}
use Rattle.cave_model.specs.Regions.{all_cells}
use Rattle.certificate_lines.specs.Held.{Holds}
use Rattle.certificate_lines.specs.Said.{Said, said}
use Rattle.certificate_lines.specs.declared.kind.LineKind.{LineKind}
use Rattle.certificate_lines.specs.declared.kind.LineKind.TheVariants as kind
use Rattle.proof_check.specs.Heard.{IsAfter, torch_parts}
use Rattle.proof_check.specs.Verdict.{IsVerdictOf}
use Rattle.proof_check.specs.declared.judge.Judge.{Judge}
use Rattle.proof_check.specs.declared.trial.Trial.{Trial}
use Rattle.proof_check.specs.declared.verdict.Verdict.{Verdict}

-- a line of this kind with these numbers speaks of the cave's box and rule, or of neither; the first version of the
-- text stands for a need of 1
abbrev pub AgreesOn : Cave → LineKind → List ℕ → Type 0
AgreesOn cave kind.Version numbers = numbers ≡ 1 ∷ [] → cave.rule.need ≡ 1
AgreesOn cave kind.Size numbers = numbers ≡ cave.size.x ∷ cave.size.y ∷ cave.size.z ∷ []
AgreesOn cave kind.Headroom numbers = numbers ≡ cave.rule.headroom ∷ []
AgreesOn cave kind.Need numbers = numbers ≡ cave.rule.need ∷ []
AgreesOn cave other numbers = Unit {0}

-- the line speaks of the cave's box and rule, or of neither
abbrev pub AgreesWithSaid : Cave → Said → Type 0
AgreesWithSaid cave s = AgreesOn cave s.kind s.numbers

-- how many torches such a line has
abbrev pub torches_on : LineKind → List ℕ → ℕ
torches_on kind.Torches numbers = length numbers
torches_on other numbers = 0

-- some line speaks of another box or another rule
pub record Differs (cave : Cave) (all : List Said) : Type 0 where
  pub line : Said
  pub there : Contains all line
  pub other : ¬ AgreesWithSaid cave line

-- none does, and all were judged
pub record IsHeard (cave : Cave) (judge : Judge) (torches : ℕ) (all : List Said) : Type 0 where
  pub agrees : All (AgreesWithSaid cave) all
  pub after : IsAfter cave judge all
  pub counted : torches ≡ length (all_cells (torch_parts all))

-- what the trial has told of these lines: one differs from the cave, or none does and all were judged
abbrev pub Follows : Cave → Trial → List Said → Type 0
Follows cave t all = MatchBool t.differs (Differs cave all) (IsHeard cave t.judge t.torches all)

-- these are the bytes so far
pub record Tried (cave : Cave) (bytes : List ℕ) (t : Trial) : Type 0 where
  pub all : List Said
  pub holds : Holds bytes all t.pieces
  pub follows : Follows cave t all

-- with room for `more` bytes
pub record HasRoom (cave : Cave) (t : Trial) (more : ℕ) : Type 0 where
  pub bytes : List ℕ
  pub tried : Tried cave bytes t
  pub room : length bytes + more < 2 ^ 64

-- the pieces have taken a line more than was heard
pub record IsBehind (cave : Cave) (t : Trial) (k : LineKind) : Type 0 where
  pub bytes : List ℕ
  pub all : List Said
  pub holds : Holds bytes (all ++ said k t.pieces.numbers ∷ []) t.pieces
  pub follows : Follows cave t all
  pub fits : length bytes < 2 ^ 64
  pub going : t.pieces.misfit ≡ None

-- that line is heard
pub record Catches (cave : Cave) (k : LineKind) (old new : Trial) : Type 0 where
  pub each : (all : List Said) → old.pieces.taken ≡ length all + 1 → Follows cave old all
      → Follows cave new (all ++ said k old.pieces.numbers ∷ [])

-- the front of a piece was heard, and this is what comes after it
pub record HearsTo (cave : Cave) (piece after : List ℕ) (old new : Trial) : Type 0 where
  pub front : List ℕ
  pub parts : piece ≡ front ++ after
  pub some : 0 < length front
  pub each : (bytes : List ℕ) → Tried cave bytes old → Tried cave (bytes ++ front) new

-- the whole piece was heard
pub record HearsAll (cave : Cave) (piece : List ℕ) (old new : Trial) : Type 0 where
  pub each : (bytes : List ℕ) → Tried cave bytes old → Tried cave (bytes ++ piece) new

-- the verdict, and no other is right
pub record IsTheVerdict (cave : Cave) (bytes : List ℕ) (verdict : Verdict) : Type 0 where
  pub is : IsVerdictOf cave bytes verdict
  pub only : (other : Verdict) → IsVerdictOf cave bytes other → verdict ≡ other

-- the verdict on whatever bytes the trial has tried, and no other is right
pub record Concludes (cave : Cave) (t : Trial) (verdict : Verdict) : Type 0 where
  pub each : (bytes : List ℕ) → Tried cave bytes t → IsTheVerdict cave bytes verdict
