use Rattle.std.proofs.Common.{◌≡◌, slice_index, ◌∙◌, arith}
use Rattle.std.proofs.lemmas.Grind.{get_or_default_zero}
use Rattle.lit_lists.proofs.FillLemmas.{filling_pushed}
use Rattle.lit_lists.proofs.filling.Filling.push.Goals as goal

pub returns-clause-pushed : goal.returns-clause-pushed
returns-clause-pushed c =
    let s = c.args.self.now in
    let at : c.index-at.result.now ≡ slice_index s.next.items c.args.part =
    c.index-at.ensures ∙ get_or_default_zero s.next.items c.args.part c.index-at.result.now
    (omega (arith, s.filling.whole, c.requires.room.there)) in
    rw at (filling_pushed s.starts.items s.next.items s.numbers.items c.args.part c.args.number s.filling
    c.requires.room)
