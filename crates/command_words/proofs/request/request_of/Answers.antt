use Rattle.std.proofs.Common.{◌≡◌, ◌∙◌, ◌⊎◌, inl, inr, List, [], Option, ap, map, refl, subst, sym, true}
use Rattle.std.proofs.lemmas.Result.{err_from_is_err_and}
use Rattle.std.specs.Prelude.{string_bytes}
use Rattle.clap.specs.Words.{App, HasKind, HasMatchesOf, IsAmong, Row, Text, fault_of, is_simple, is_simple_and_free}
use Rattle.clap.specs.Words.{kind_of, subcommand_of, subcommand_rows_of}
use Rattle.clap.specs.declared.error.Error.{Error}
use Rattle.clap.specs.declared.error.kind.ErrorKind.TheVariants.{OutOfMemory}
use Rattle.clap.specs.declared.parser.matches.ArgMatches.{ArgMatches}
use Rattle.clap.proofs.OnLiterals.{clap_on_literals}
use Rattle.command_words.specs.Options.{torchplan}
use Rattle.command_words.specs.Requests.{IsEntered}
use Rattle.command_words.specs.Mistakes.{AreExplainedBy, AreWellFormed}
use Rattle.command_words.proofs.request.request_of.Goals as goal

-- the command is one of which the words give the matches
simple : is_simple torchplan ≡ true
unfolding clap_on_literals
simple = refl

-- and the kinds of its errors
free : is_simple_and_free torchplan ≡ true
unfolding clap_on_literals
free = refl

-- what the words enter
entered : (app : App) (words : List Text) (m : ArgMatches) → app ≡ torchplan → HasMatchesOf app words m
    → subcommand_rows_of m ≡ subcommand_of torchplan words
entered app words m shape has =
    (has (ap is_simple shape ∙ simple)).1 ∙ ap (λ (a : App). subcommand_of a words) shape

-- that their form is right
formed : (app : App) (words : List Text) → app ≡ torchplan → (is_simple_and_free app ≡ true → fault_of app words ≡ [])
    → AreWellFormed words
formed app words shape kinds =
    sym (ap (λ (a : App). fault_of a words) shape) ∙ kinds (ap is_simple_and_free shape ∙ free)

-- why the parser refuses them
explained : (app : App) (words : List Text) (e : Error) → app ≡ torchplan → HasKind (fault_of app words) e
    → (kind_of e ≡ OutOfMemory) ⊎ AreExplainedBy words (kind_of e)
explained app words e shape (inl memory) = inl memory
explained app words e shape (inr among) =
    inr (inl (subst (λ (a : App). IsAmong (kind_of e) (fault_of a words)) shape among))

pub returns-in-Some-clause-formed : goal.returns-in-Some-clause-formed
returns-in-Some-clause-formed c = formed _ (map (λ word. string_bytes word) c.args.words.now)
    c.in_ok-command.ensures.shape c.in_ok-matches.ensures.kinds

pub returns-in-Some-clause-asked : goal.returns-in-Some-clause-asked
returns-in-Some-clause-asked c =
    let words = map (λ word. string_bytes word) c.args.words.now in
    let is = entered _ words c.in_ok-matches.matches c.in_ok-command.ensures.shape c.in_ok-matches.ensures.ok.2 in
    subst (λ (e : Option (Text × List Row)). IsEntered e c.in-Some.request) is c.in-Some.ensures.some

pub returns-in_err-matches-clause-refused : goal.returns-in_err-matches-clause-refused
returns-in_err-matches-clause-refused c =
    let shape = c.in_ok-command.ensures.shape in
    let words = map (λ word. string_bytes word) c.args.words.now in
    let p = err_from_is_err_and c.from_residual-in_err-matches.result c.from_residual-in_err-matches.ensures.1 in
    rw (p.1, p.2) (explained _ words c.in_err-matches.field-0.0 shape
    (c.in_err-matches.ensures.kinds (ap is_simple_and_free shape ∙ free)))

pub returns-clause-refused : goal.returns-clause-refused
returns-clause-refused c =
    let words = map (λ word. string_bytes word) c.args.words.now in
    let is = entered _ words c.in_ok-matches.matches c.in_ok-command.ensures.shape c.in_ok-matches.ensures.ok.2 in
    let form = formed _ words c.in_ok-command.ensures.shape c.in_ok-matches.ensures.kinds in
    inr (inr (
      c.in_ok-error-in-None.ensures.kind,
      form,
      λ request asks. c.in-None.ensures.none request
          (subst (λ (e : Option (Text × List Row)). IsEntered e request) (sym is) asks),
    ))
