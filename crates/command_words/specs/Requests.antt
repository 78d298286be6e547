-- What the words of a command line ask for. That 2 is the headroom, 1 the number of workers, and no limit that of turns
-- unless told is this project's own, and that no proof goes to a stream.
use Rattle.std.specs.Prelude.{◌≡◌, ◌≢◌, ◌<◌, ◌^◌, ℕ, Bool, true, false, List, Option, Some, None, codes}
use Rattle.std.specs.Prelude.{nat_eq, option_copied, unwrap_or, if◌then◌else◌}
use Rattle.std.specs.Str.Parse.{IsNumeral, digits_value, without_leading_plus}
use Rattle.clap.specs.Words.{Row, Text, first_of, one_of, subcommand_of}
use Rattle.cave_model.specs.Rule.{Rule}
use Rattle.cave_model.specs.RuleOf.{rule_of}
use Rattle.command_words.specs.Options.{torchplan}
use Rattle.command_words.specs.Versions.{IsNeedFor}
use Rattle.command_words.specs.declared.request.Request.{Request}
use Rattle.command_words.specs.declared.request.Request.TheVariants.{Dark, Plan, Check, Levels, Rows}

-- the text is a number of `bits` bits in decimal digits, after a plus or without one
abbrev pub IsNumber : ℕ → Text → Type 0
IsNumber bits text = IsNumeral 10 (without_leading_plus text) × (digits_value 10 (without_leading_plus text) < 2 ^ bits)

-- the number of `bits` bits that the text spells, if it does
abbrev pub Reads : ℕ → Text → Option ℕ → Type 0
Reads bits text (Some n) = IsNumber bits text × (n ≡ digits_value 10 (without_leading_plus text))
Reads bits text None = ¬ IsNumber bits text

-- the number that is told, if one is
abbrev pub Tells : ℕ → Option Text → Option ℕ → Type 0
Tells bits None told = told ≡ None
Tells bits (Some text) told = Reads bits text told

-- headroom 1 where that is told, and else 2
abbrev pub headroom_by : Option ℕ → ℕ
headroom_by None = 2
headroom_by (Some told) = if nat_eq told 1 then 1 else 2

-- the headroom and the need that the matches tell
pub record IsRuleOf (rows : List Row) (rule : Rule) : Type 0 where
  pub told : Option ℕ
  pub tells : Tells 8 (one_of (codes "headroom") rows) told
  pub headroom : rule.headroom ≡ headroom_by told
  pub need : IsNeedFor (first_of (codes "rule") rows) rule.need

-- as many workers as the matches tell, and else one
pub record IsCrewOf (rows : List Row) (workers : ℕ) : Type 0 where
  pub told : Option ℕ
  pub tells : Tells 8 (one_of (codes "workers") rows) told
  pub are : workers ≡ unwrap_or told 1

-- the file that the matches name for a proof, where they name one: `-` is no file
pub record IsProofOf (rows : List Row) (proof : Option Text) : Type 0 where
  pub told : first_of (codes "proof") rows ≡ proof
  pub is_file : proof ≢ Some (codes "-")

-- set where the matches say so, and not where they say nothing
pub record IsFlagOf (value : Option Text) (is_set : Bool) : Type 0 where
  pub told : value ≡ Some (codes "true") → is_set ≡ true
  pub untold : value ≡ None → is_set ≡ false
  pub denied : value ≡ Some (codes "false") → is_set ≡ false

-- what the matches of the command of this name ask for
abbrev pub IsAskedBy : Text → List Row → Request → Type 0
IsAskedBy name rows (Dark file table rule progress) = (name ≡ codes "dark")
    × (first_of (codes "FILE") rows ≡ Some file.now) × (first_of (codes "table") rows ≡ option_copied table)
    × IsRuleOf rows (rule_of rule) × IsFlagOf (one_of (codes "progress") rows) progress
IsAskedBy name rows (Plan file table opts proof progress) = (name ≡ codes "plan")
    × (first_of (codes "FILE") rows ≡ Some file.now) × (first_of (codes "table") rows ≡ option_copied table)
    × IsRuleOf rows (rule_of opts.rule) × IsCrewOf rows opts.workers.number
    × Tells 64 (one_of (codes "turns") rows) opts.turns × IsProofOf rows (option_copied proof)
    × IsFlagOf (one_of (codes "progress") rows) progress
IsAskedBy name rows (Check file proof table rule) = (name ≡ codes "check")
    × (first_of (codes "FILE") rows ≡ Some file.now) × (first_of (codes "PROOF") rows ≡ Some proof.now)
    × (first_of (codes "table") rows ≡ option_copied table) × IsRuleOf rows (rule_of rule)
IsAskedBy name rows (Levels file plan table rule progress) = (name ≡ codes "levels")
    × (first_of (codes "FILE") rows ≡ Some file.now) × (first_of (codes "PLAN") rows ≡ option_copied plan)
    × (first_of (codes "table") rows ≡ option_copied table) × IsRuleOf rows (rule_of rule)
    × IsFlagOf (one_of (codes "progress") rows) progress
IsAskedBy name rows (Rows file table) = (name ≡ codes "rows") × (first_of (codes "FILE") rows ≡ Some file.now)
    × (first_of (codes "table") rows ≡ option_copied table)

-- the matches of the command of this name ask for nothing
abbrev pub NoneIsAskedBy : Text → List Row → Type 0
NoneIsAskedBy name rows = (request : Request) → ¬ IsAskedBy name rows request

-- what they ask for, or that this is nothing
abbrev pub IsFoundBy : Text → List Row → Option Request → Type 0
IsFoundBy name rows (Some request) = IsAskedBy name rows request
IsFoundBy name rows None = NoneIsAskedBy name rows

-- what the command with these matches asks for
pub record IsEntered (entered : Option (Text × List Row)) (request : Request) : Type 0 where
  pub name : Text
  pub rows : List Row
  pub is : entered ≡ Some (name, rows)
  pub asked : IsAskedBy name rows request

-- what the words ask for, of which the first is the program's name
abbrev pub IsAsked : List Text → Request → Type 0
IsAsked words request = IsEntered (subcommand_of torchplan words) request
