use Rattle.set_cover.proofs.PartLemmas.{apart_span, with_apart_span}
use Rattle.set_cover.proofs.by_row.add_apart.Goals as goal

pub returns-clause-apart : goal.returns-clause-apart
returns-clause-apart c =
    let all = apart_span c.args.row.now c.kept-before.result.0 c.kept-before.result.1.now c.kept-before.ensures
    c.args.words.now c.args.other.now in
    let part = c.add_words_apart.ensures.apart in (λ t. all.0 (part.0 t), λ a. part.1 (all.1 a))

pub returns-clause-grown : goal.returns-clause-grown
returns-clause-grown c t =
    with_apart_span c.args.row.now c.kept-before.result.0 c.kept-before.result.1.now c.kept-before.ensures
    c.args.words.now c.args.other.now c.add_words_apart.new.words c.requires.row (c.add_words_apart.ensures.grown t)
