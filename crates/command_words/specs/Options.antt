-- The command line: the commands, their arguments, and options with values in their ranges. This is this project's own.
use Rattle.std.specs.Prelude.{◌≡◌, true, false, Some, codes, pos}
use Rattle.clap.specs.Words.{App, Rule, Text, app_of, new_app, new_rule, rule_of, with_rule, with_subcommand}
use Rattle.clap.specs.declared.builder.arg.Arg.{Arg}
use Rattle.clap.specs.declared.builder.command.Command.{Command}
use Rattle.clap.specs.declared.builder.command.Command.TheViews.{out-Command as fields_of}
use Rattle.clap.specs.declared.builder.action.ArgAction.TheVariants.{Set, SetTrue}
use Rattle.clap.specs.declared.builder.value_parser.ValueParser.TheVariants.{Signed, Unsigned}

-- an argument that has to be there, by its place among the words
abbrev pub placed : Text → Rule
placed name = record (new_rule name) { action = Some Set; required = true }

-- one that may be left out
abbrev pub optional : Text → Rule
optional name = record (new_rule name) { action = Some Set }

-- an option with a value
abbrev pub valued : Text → Rule
valued name = record (new_rule name) { long = Some name; action = Some Set; value_names = 1 }

-- an option without one
abbrev pub flag : Text → Rule
flag name = record (new_rule name) { long = Some name; action = Some SetTrue }

-- 1 or 2
abbrev pub headroom : Rule
headroom = record (valued (codes "headroom")) { parser = Some (Signed (pos 1) (pos 2)) }

-- 1 to 64
abbrev pub workers : Rule
workers = record (valued (codes "workers")) { parser = Some (Signed (pos 1) (pos 64)) }

-- 1 to 1,000,000,000
abbrev pub turns : Rule
turns = record (valued (codes "turns")) { parser = Some (Unsigned 1 1000000000) }

-- with a table
abbrev pub tabled : App → App
tabled app = with_rule app (valued (codes "table"))

-- with the rule of spawning, and a table
abbrev pub ruled : App → App
ruled app = tabled (with_rule (with_rule app headroom) (valued (codes "rule")))

-- a command on a structure file, with these options
abbrev pub on_file : Text → App
on_file name = ruled (with_rule (new_app name) (placed (codes "FILE")))

-- the command `dark`
abbrev pub dark : App
dark = with_rule (on_file (codes "dark")) (flag (codes "progress"))

-- the command `plan`
abbrev pub plan : App
plan = with_rule (with_rule (with_rule (with_rule (on_file (codes "plan")) (valued (codes "proof"))) workers) turns)
    (flag (codes "progress"))

-- the command `check`, on a structure file and a proof
abbrev pub check : App
check = ruled (with_rule (with_rule (new_app (codes "check")) (placed (codes "FILE"))) (placed (codes "PROOF")))

-- the command `levels`, on a structure file and a plan, which may be left out
abbrev pub levels : App
levels = with_rule (ruled (with_rule (with_rule (new_app (codes "levels")) (placed (codes "FILE")))
    (optional (codes "PLAN")))) (flag (codes "progress"))

-- the command `rows`, on a structure file
abbrev pub rows : App
rows = tabled (with_rule (new_app (codes "rows")) (placed (codes "FILE")))

-- the program without its commands; it has a version, and one of the commands is asked for
abbrev pub bare : App
bare = record (new_app (codes "torchplan")) {
  top = record (new_app (codes "torchplan")).top {
    has_version = true;
    subcommand_required = true;
    arg_required_else_help = true;
  };
}

-- the program
abbrev pub torchplan : App
torchplan = with_subcommand (with_subcommand (with_subcommand (with_subcommand (with_subcommand bare dark.top) plan.top)
    check.top) levels.top) rows.top

-- the command is built as that, and none of its arguments is global
pub record IsCommand (app : App) (command : Command) : Type 0 where
  pub shape : app_of command ≡ app
  pub local : (fields_of command).has_globals ≡ false

-- the argument goes by that rule, and isn't global
pub record IsArg (rule : Rule) (arg : Arg) : Type 0 where
  pub told : rule_of arg ≡ rule
  pub alone : arg.global ≡ false

-- the command is that with more arguments, none of which is global
pub record IsGrownBy (grown : App → App) (before after : Command) : Type 0 where
  pub shape : app_of after ≡ grown (app_of before)
  pub local : (fields_of before).has_globals ≡ false → (fields_of after).has_globals ≡ false
