-- Matches of a command that ask for nothing.
use Rattle.std.proofs.Common.{◌≡◌, ◌≢◌, ◌∙◌, ℕ, false, List, Option, Some, None, nat_eq, slice_index}
use Rattle.std.proofs.Common.{refl, sym, ap, subst, rules}
use Rattle.std.specs.Prelude.{IfNone, MatchOption, codes, option_copied, option_map}
use Rattle.clap.specs.Words.{Row, Text, first_of, subcommand_name_of, subcommand_rows_of}
use Rattle.clap.specs.declared.parser.matches.ArgMatches.{ArgMatches}
use Rattle.cave_model.specs.Rule.{Rule}
use Rattle.cave_model.specs.RuleOf.{rule_of}
use Rattle.plan_options.specs.declared.workers.Workers.{Workers}
use Rattle.command_words.specs.Requests.{IsAskedBy, IsCrewOf, IsEntered, IsFoundBy, IsProofOf}
use Rattle.command_words.specs.Requests.{IsRuleOf, NoneIsAskedBy, Reads, Tells}
use Rattle.command_words.specs.declared.request.Request.{Request}
use Rattle.command_words.specs.declared.request.Request.TheVariants.{Dark, Plan, Check, Levels, Rows}
use Rattle.command_words.proofs.WordLemmas.{named_as}

-- what holds in any case
pub if_none : {X : Type 0} (r : Option X) (A : Type 0) → A → IfNone r A
if_none None A h = h
if_none (Some x) A h = tt

-- nothing is found where nothing is asked for
pub none_found : (name : Text) (rows : List Row) (r : Option Request) → NoneIsAskedBy name rows → r ≡ None
    → IsFoundBy name rows r
none_found name rows r none is = rw is none

-- what holds where there is no value
pub none_of : {X : Type 0} (r : Option X) (A C : Type 0) (B : X → Type 0) → (A → C) → MatchOption r A B → IfNone r C
none_of None A C B weaker h = weaker h
none_of (Some x) A C B weaker h = tt

-- a text spells one number at most
reads_once : (bits : ℕ) (text : Text) (a b : Option ℕ) → Reads bits text a → Reads bits text b → a ≡ b
reads_once bits text None None h k = refl
reads_once bits text None (Some m) h k = absurd (h k.0)
reads_once bits text (Some n) None h k = absurd (k h.0)
reads_once bits text (Some n) (Some m) h k = ap Some (h.1 ∙ sym k.1)

-- and an option tells one
pub tells_once : (bits : ℕ) (text : Option Text) (a b : Option ℕ) → Tells bits text a → Tells bits text b → a ≡ b
tells_once bits None a b h k = h ∙ sym k
tells_once bits (Some text) a b h k = reads_once bits text a b h k

-- two texts with different beginnings
apart : (s t : Text) → nat_eq (slice_index s 0) (slice_index t 0) ≡ false → s ≢ t
apart s t differ e = let same = ap (λ (x : Text). slice_index x 0) e in search rules

-- no structure is named
pub no_file : (name : Text) (rows : List Row) → first_of (codes "FILE") rows ≡ None → NoneIsAskedBy name rows
no_file name rows none (Dark file table rule progress) is = absurd (let e = is.1 in cc)
no_file name rows none (Plan file table opts proof progress) is = absurd (let e = is.1 in cc)
no_file name rows none (Check file proof table rule) is = absurd (let e = is.1 in cc)
no_file name rows none (Levels file plan table rule progress) is = absurd (let e = is.1 in cc)
no_file name rows none (Rows file table) is = absurd (let e = is.1 in cc)

-- the rule that is named is none, for a command that takes one
pub no_rule : (name : Text) (rows : List Row) → nat_eq (slice_index name 0) (slice_index (codes "rows") 0) ≡ false
    → ((rule : Rule) → ¬ IsRuleOf rows rule) → NoneIsAskedBy name rows
no_rule name rows other none (Dark file table rule progress) is = none (rule_of rule) is.3
no_rule name rows other none (Plan file table opts proof progress) is = none (rule_of opts.rule) is.3
no_rule name rows other none (Check file proof table rule) is = none (rule_of rule) is.4
no_rule name rows other none (Levels file plan table rule progress) is = none (rule_of rule) is.4
no_rule name rows other none (Rows file table) is = absurd (apart name (codes "rows") other is.0)

-- the number of workers that is named isn't one from 1 to 64
pub no_crew : (rows : List Row) → ((workers : Workers) → ¬ IsCrewOf rows workers.number)
    → NoneIsAskedBy (codes "plan") rows
no_crew rows none (Dark file table rule progress) is = absurd (apart (codes "plan") (codes "dark") refl is.0)
no_crew rows none (Plan file table opts proof progress) is = none opts.workers is.4
no_crew rows none (Check file proof table rule) is = absurd (apart (codes "plan") (codes "check") refl is.0)
no_crew rows none (Levels file plan table rule progress) is =
    absurd (apart (codes "plan") (codes "levels") refl is.0)
no_crew rows none (Rows file table) is = absurd (apart (codes "plan") (codes "rows") refl is.0)

-- the proof would go to no file
pub no_file_for_proof : (rows : List Row) → ((proof : Option Text) → ¬ IsProofOf rows proof)
    → NoneIsAskedBy (codes "plan") rows
no_file_for_proof rows none (Dark file table rule progress) is =
    absurd (apart (codes "plan") (codes "dark") refl is.0)
no_file_for_proof rows none (Plan file table opts proof progress) is = none (option_copied proof) is.6
no_file_for_proof rows none (Check file proof table rule) is = absurd (apart (codes "plan") (codes "check") refl is.0)
no_file_for_proof rows none (Levels file plan table rule progress) is =
    absurd (apart (codes "plan") (codes "levels") refl is.0)
no_file_for_proof rows none (Rows file table) is = absurd (apart (codes "plan") (codes "rows") refl is.0)

-- no certificate is named
pub no_proof : (rows : List Row) → first_of (codes "PROOF") rows ≡ None → NoneIsAskedBy (codes "check") rows
no_proof rows none (Dark file table rule progress) is = absurd (apart (codes "check") (codes "dark") refl is.0)
no_proof rows none (Plan file table opts proof progress) is = absurd (apart (codes "check") (codes "plan") refl is.0)
no_proof rows none (Check file proof table rule) is = absurd (let e = is.2 in cc)
no_proof rows none (Levels file plan table rule progress) is =
    absurd (apart (codes "check") (codes "levels") refl is.0)
no_proof rows none (Rows file table) is = absurd (apart (codes "check") (codes "rows") refl is.0)

-- one value in both
same_of : {X : Type 0} (x y : X) → Some x ≡ Some y → x ≡ y
same_of x y e = cc

-- what was entered under this name asks for nothing
pub unasked_by : (m : ArgMatches) (name : Text) (rows : List Row) (asked : Option Request)
    → subcommand_name_of m ≡ Some name → option_map (λ p. p.1) (subcommand_rows_of m) ≡ Some rows
    → IsFoundBy name rows asked
    → IfNone asked ((request : Request) → ¬ IsEntered (subcommand_rows_of m) request)
unasked_by m name rows (Some request) named has h = tt
unasked_by m name rows None named has h = λ request e.
    let names = same_of e.name name (sym (named_as m e.name e.rows e.is) ∙ named) in
    let matches = same_of e.rows rows (sym (ap (option_map (λ (p : Text × List Row). p.1)) e.is) ∙ has) in
    h request (subst (λ (r : List Row). IsAskedBy name r request) matches
    (subst (λ (n : Text). IsAskedBy n e.rows request) names e.asked))
