use Rattle.set_cover.proofs.PartLemmas.{meet_span}
use Rattle.set_cover.proofs.by_row.common_count.Goals as goal

pub returns : goal.returns
returns c =
    let all = meet_span c.args.row.now c.kept-before.result.0 c.kept-before.result.1.now c.kept-before.ensures
    c.args.words.now in (λ t. all.0 (c.shared_count.ensures.0 t), λ m. c.shared_count.ensures.1 (all.1 m))
