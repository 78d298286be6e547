-- What is known of the files that a run may open. This is this project's own.
use Rattle.std.specs.Prelude.{◌≡◌, ◌≢◌, ◌⊎◌, ℕ, Bool, true, false, List, Option, Some, None}
use Rattle.std.specs.Prelude.{IsTrue, IsFalse, MatchResult, Result, bytes_eq, codes}
use Rattle.cave_runs.specs.declared.fault.Input.TheVariants.{PlanInput, TableInput}
use Rattle.cave_runs.specs.declared.fault.RunFault.{RunFault}
use Rattle.cave_runs.specs.declared.fault.RunFault.TheVariants as faults

-- what is known of the bytes of files by their names, and which names are known to have no file; what is known of
-- standard input; of the bytes of a file that is made by a name, before it is written to; whether writing to one file
-- would write over another (`-` is standard input); and whether it would write over standard output
pub record Sources : Type 0 where
  pub files : List ℕ → Option (List ℕ)
  pub missing : List ℕ → Bool
  pub input : Option (List ℕ)
  pub made : List ℕ → Option (List ℕ)
  pub same : List ℕ → List ℕ → Option Bool
  pub over : List ℕ → Option Bool

-- what is known of the file for a proof when it is made, where one is named
abbrev pub made_in : Sources → Option (List ℕ) → Option (List ℕ)
made_in sources None = None
made_in sources (Some out) = sources.made out

-- the structure is known to have no file: standard input is there
abbrev pub LacksStructure : Sources → List ℕ → Type 0
LacksStructure sources file = IsFalse (bytes_eq file (codes "-")) × IsTrue (sources.missing file)

-- a file is named, and known to be missing
abbrev pub LacksNamed : Sources → Option (List ℕ) → Type 0
LacksNamed sources None = ⊥
LacksNamed sources (Some path) = IsTrue (sources.missing path)

-- reading failed, the table is too long, or memory ran out
abbrev pub IsUnread : {X : Type 0} → Result X RunFault → Type 0
IsUnread result = MatchResult result (λ _. ⊥) (λ fault. (fault ≡ faults.ReadFailed)
    ⊎ (fault ≡ faults.TooLong TableInput) ⊎ (fault ≡ faults.OutOfMemory))

-- reading failed, the table or the plan is too long, or memory ran out
abbrev pub AreUnread : {X : Type 0} → Result X RunFault → Type 0
AreUnread result = MatchResult result (λ _. ⊥) (λ fault. (fault ≡ faults.ReadFailed)
    ⊎ (fault ≡ faults.TooLong TableInput) ⊎ (fault ≡ faults.TooLong PlanInput) ⊎ (fault ≡ faults.OutOfMemory))

-- for all that is known, it is so
abbrev pub MayBe : Option Bool → Type 0
MayBe known = known ≢ Some false

-- for all that is known, it is not so
abbrev pub MayNotBe : Option Bool → Type 0
MayNotBe known = known ≢ Some true

-- writing to OUT may write over the structure, the table or standard output
abbrev pub MayOverwrite : Sources → Option (List ℕ) → List ℕ → Option (List ℕ) → Type 0
MayOverwrite sources None file table = ⊥
MayOverwrite sources (Some out) file None = MayBe (sources.over out) ⊎ MayBe (sources.same out file)
MayOverwrite sources (Some out) file (Some rows) =
    MayBe (sources.over out) ⊎ MayBe (sources.same out file) ⊎ MayBe (sources.same out rows)

-- and it may write over none of them
abbrev pub MayStandApart : Sources → Option (List ℕ) → List ℕ → Option (List ℕ) → Type 0
MayStandApart sources None file table = Unit {0}
MayStandApart sources (Some out) file None = MayNotBe (sources.over out) × MayNotBe (sources.same out file)
MayStandApart sources (Some out) file (Some rows) =
    MayNotBe (sources.over out) × MayNotBe (sources.same out file) × MayNotBe (sources.same out rows)
