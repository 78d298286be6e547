use Rattle.std.proofs.Common.{◌∙◌, codes, rules, sym}
use Rattle.clap.specs.Words.{found_of}
use Rattle.command_words.proofs.WordLemmas.{text_of}
use Rattle.command_words.proofs.request.proof_of.Goals as goal

pub returns-then-is_stream-clause-none : goal.returns-then-is_stream-clause-none
returns-then-is_stream-clause-none c = λ proof is.
    let f = found_of c.args.matches.now in
    let text = text_of f (codes "proof") c.get_str-told.result c.get_str-told.ensures in
    is.is_file (sym is.told ∙ text ∙ c.is_stream.ensures.0 (search rules))

pub returns-clause-some : goal.returns-clause-some
returns-clause-some c =
    let f = found_of c.args.matches.now in
    record {
      told = text_of f (codes "proof") c.get_str-told.result c.get_str-told.ensures;
      is_file = λ e. let is = c.is_stream.ensures.1 e in absurd (search rules);
    }
