-- What the matches of a command tell.
use Rattle.std.proofs.Common.{◌≡◌, ◌∙◌, ◌||◌, ℕ, Bool, false, List, Option, Some, None, Result, Ok, Err}
use Rattle.std.proofs.Common.{refl, sym, ap, ap₂, subst}
use Rattle.std.specs.Prelude.{Box, IfSome, MatchOption, option_copied, option_map}
use Rattle.std.specs.Box.{box_value}
use Rattle.std.specs.Borrow.{Bor}
use Rattle.std.specs.Str.Parse.{ParsesUnsigned}
use Rattle.clap.specs.Matches.{ReadsOne}
use Rattle.clap.specs.Words.{AddsArg, App, Rule, with_rule}
use Rattle.clap.specs.Words.{Row, Text, first_of, first_value, one_of, one_text, rows_of}
use Rattle.clap.specs.Words.{subcommand_name_of, subcommand_rows, subcommand_rows_of}
use Rattle.clap.specs.declared.builder.arg.Arg.{Arg}
use Rattle.clap.specs.declared.builder.command.Command.{Command}
use Rattle.clap.specs.declared.parser.matches.ArgMatches.{ArgMatches}
use Rattle.clap.specs.declared.parser.matches.ArgMatches.TheViews.{out-ArgMatches, out-SubCommand}
use Rattle.clap.specs.declared.parser.matches.Found.{Found}
use Rattle.clap.specs.declared.parser.matches.SubCommand.{SubCommand}
use Rattle.clap.proofs.WalkLemmas.{first_value-rows, one_text-rows}
use Rattle.command_words.specs.Options.{IsArg, IsCommand, IsGrownBy}
use Rattle.command_words.specs.Requests.{IsEntered, IsFoundBy, Reads, Tells}
use Rattle.command_words.specs.declared.request.Request.{Request}

-- neither of two
pub neither : (a b : Bool) → a ≡ false → b ≡ false → (a || b) ≡ false
neither a b no_a no_b = rw (no_a, no_b) refl

-- a command with one more argument
pub one_more : (app : App) (rule : Rule) (old new : Command) (a : Arg)
    → IsCommand app old → IsArg rule a → AddsArg old a new → IsCommand (with_rule app rule) new
one_more app rule old new a is arg adds = record {
  shape = adds.shape arg.alone ∙ ap₂ with_rule is.shape arg.told;
  local = adds.globals ∙ neither _ _ is.local arg.alone;
}

-- and one more behind those that were added
pub grown_more : (grown : App → App) (rule : Rule) (first old new : Command) (a : Arg) → IsGrownBy grown first old
    → IsArg rule a → AddsArg old a new → IsGrownBy (λ app. with_rule (grown app) rule) first new
grown_more grown rule first old new a is arg adds = record {
  shape = adds.shape arg.alone ∙ ap₂ with_rule is.shape arg.told;
  local = λ none. adds.globals ∙ neither _ _ (is.local none) arg.alone;
}

-- a command that has grown
pub grown_command : (app : App) (grown : App → App) (before after : Command)
    → IsCommand app before → IsGrownBy grown before after → IsCommand (grown app) after
grown_command app grown before after is by = record {
  shape = by.shape ∙ ap grown is.shape;
  local = by.local is.local;
}

-- what a parse of the text gives
reads : {E : Type 0} (gives : List ℕ → Result ℕ E → Type 0) (bits : ℕ)
    → ((text : List ℕ) (r : Result ℕ E) → gives text r → ParsesUnsigned bits 10 text r)
    → (text : List ℕ) (told : Option ℕ) → ReadsOne gives text told → Reads bits text told
reads gives bits weaker text (Some n) h = weaker text (Ok n) h
reads gives bits weaker text None h = weaker text (Err h.0) h.1

-- what is told, by the text where there is one
tells : (bits : ℕ) (text : Option Text) (told : Option ℕ) → (text ≡ None → told ≡ None)
    → ((t : Text) → text ≡ Some t → Reads bits t told) → Tells bits text told
tells bits None told none some = none refl
tells bits (Some text) told none some = some text refl

-- the number that an option tells
pub told_by : {E : Type 0} (gives : List ℕ → Result ℕ E → Type 0) (bits : ℕ)
    → ((text : List ℕ) (r : Result ℕ E) → gives text r → ParsesUnsigned bits 10 text r)
    → (f : Found) (id : Text) (told : Option ℕ) → (one_text f id ≡ None → told ≡ None)
    → ((t : Text) → one_text f id ≡ Some t → ReadsOne gives t told) → Tells bits (one_of id (rows_of f)) told
told_by gives bits weaker f id told none value =
    subst (λ (text : Option Text). Tells bits text told) (one_text-rows f id)
    (tells bits (one_text f id) told none (λ t e. reads gives bits weaker t told (value t e)))

-- a pair of which both parts are known
both_parts : {A B : Type 0} (s : Option (A × B)) (a : A) (b : B) → option_map (λ p. p.0) s ≡ Some a
    → option_map (λ p. p.1) s ≡ Some b → s ≡ Some (a, b)
both_parts None a b first second = absurd (cc)
both_parts (Some p) a b first second = let e : p.0 ≡ a = cc in let f : p.1 ≡ b = cc in
    ap₂ (λ x y. Some (x, y)) e f

-- the name under which a command was entered is that of its matches
name_of : {Z : Type 0} (o : Option (Box SubCommand Z)) → option_map (λ b. (out-SubCommand (box_value b)).name.now) o
    ≡ option_map (λ p. p.0) (subcommand_rows o)
name_of None = refl
name_of (Some b) = refl

-- the name of what was entered
pub named_as : (m : ArgMatches) (name : Text) (rows : List Row) → subcommand_rows_of m ≡ Some (name, rows)
    → subcommand_name_of m ≡ Some name
named_as m name rows is = name_of (out-ArgMatches m).subcommand ∙ ap (option_map (λ p. p.0)) is

-- a command of this name was entered, with these matches
pub entered_as : (m : ArgMatches) (name : Text) (rows : List Row) → subcommand_name_of m ≡ Some name
    → option_map (λ p. p.1) (subcommand_rows_of m) ≡ Some rows → subcommand_rows_of m ≡ Some (name, rows)
entered_as m name rows named has =
    both_parts (subcommand_rows_of m) name rows (sym (name_of (out-ArgMatches m).subcommand) ∙ named) has

-- what a reference leads to, if there is one
pub copied : (r : Option (Bor Text)) → option_map (λ s. s.now) r ≡ option_copied r
copied None = refl
copied (Some s) = refl

-- the text of an option
pub text_of : (f : Found) (id : Text) (r : Option (Bor Text)) → option_map (λ s. s.now) r ≡ first_value f id
    → first_of id (rows_of f) ≡ option_copied r
text_of f id r e = sym (first_value-rows f id) ∙ sym e ∙ copied r

-- what holds of the value, if there is one
pub some_of : {X : Type 0} (r : Option X) (none : Type 0) (A B : X → Type 0) → ((x : X) → A x → B x)
    → MatchOption r none A → IfSome r B
some_of None none A B weaker h = tt
some_of (Some x) none A B weaker h = weaker x h

-- what was entered under this name asks for this
pub entered_by : (m : ArgMatches) (name : Text) (rows : List Row) (asked : Option Request)
    → subcommand_name_of m ≡ Some name → option_map (λ p. p.1) (subcommand_rows_of m) ≡ Some rows
    → IsFoundBy name rows asked → IfSome asked (IsEntered (subcommand_rows_of m))
entered_by m name rows None named has h = tt
entered_by m name rows (Some request) named has h =
    record { name = name; rows = rows; is = entered_as m name rows named has; asked = h }
