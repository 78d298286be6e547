use Rattle.std.proofs.Common.{codes, refl}
use Rattle.clap.specs.Words.{found_of, rows_of}
use Rattle.command_words.proofs.UnaskedLemmas.{unasked_by}
use Rattle.command_words.proofs.WordLemmas.{entered_by}
use Rattle.command_words.proofs.request.asked.Goals as goal

pub returns-in-Some-clause-some : goal.returns-in-Some-clause-some
returns-in-Some-clause-some c =
    entered_by c.args.matches.now (codes "dark") (rows_of (found_of c.in-Some.dark.now)) c.dark_of.result
    (c.in-Some.ensures.found.0 refl) c.in-Some.ensures.rows c.dark_of.ensures

pub returns-in-Some-clause-none : goal.returns-in-Some-clause-none
returns-in-Some-clause-none c =
    unasked_by c.args.matches.now (codes "dark") (rows_of (found_of c.in-Some.dark.now)) c.dark_of.result
    (c.in-Some.ensures.found.0 refl) c.in-Some.ensures.rows c.dark_of.ensures
