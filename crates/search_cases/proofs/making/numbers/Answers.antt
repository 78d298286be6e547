use Rattle.search_cases.proofs.RowLemmas.{counts_more}
use Rattle.search_cases.proofs.making.numbers.Goals as goal

pub loop-number-preserved : goal.loop-number-preserved
loop-number-preserved c = counts_more c.loop-number.number c.loop-number.numbers.items c.push.new.self.items
    c.loop-number.invariant c.in_ok-push.ensures.items
