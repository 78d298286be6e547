use Rattle.std.proofs.Common.{◌≡◌, ◌∙◌, ℕ, Option, ap, codes, rules, sym}
use Rattle.std.specs.Prelude.{unwrap_or}
use Rattle.std.specs.Str.Parse.{ParsesUnsigned, ExplainsUnsignedError, HasUnsignedDigitsIfOk}
use Rattle.clap.specs.Words.{found_of}
use Rattle.command_words.proofs.UnaskedLemmas.{none_of, tells_once}
use Rattle.command_words.proofs.WordLemmas.{some_of, told_by}
use Rattle.command_words.proofs.request.workers_of.Goals as goal

pub returns-clause-some : goal.returns-clause-some
returns-clause-some c =
    let f = found_of c.args.matches.now in
    some_of c.new.result _ _ _ (λ w e. record {
      told = c.get_one-told.result;
      tells = told_by (λ bs r. ParsesUnsigned 8 10 bs r × ExplainsUnsignedError 10 bs r × HasUnsignedDigitsIfOk bs r) 8
          (λ text r g. g.0) f (codes "workers") c.get_one-told.result c.get_one-told.ensures.none
          c.get_one-told.ensures.value;
      are = e ∙ c.from.ensures ∙ c.unwrap_or.ensures;
    }) c.new.ensures

pub returns-clause-none : goal.returns-clause-none
returns-clause-none c =
    let f = found_of c.args.matches.now in
    let tells = told_by (λ bs r. ParsesUnsigned 8 10 bs r × ExplainsUnsignedError 10 bs r × HasUnsignedDigitsIfOk bs r)
    8 (λ text r g. g.0) f (codes "workers") c.get_one-told.result c.get_one-told.ensures.none
    c.get_one-told.ensures.value in
    none_of c.new.result _ _ _ (λ outside workers crew.
    let told = tells_once 8 _ crew.told c.get_one-told.result crew.tells tells in
    let number : workers.number ≡ c.from.result =
    crew.are ∙ ap (λ (t : Option ℕ). unwrap_or t 1) told ∙ sym c.unwrap_or.ensures ∙ sym c.from.ensures in
    let some = workers.some in
    absurd (search rules)) c.new.ensures
