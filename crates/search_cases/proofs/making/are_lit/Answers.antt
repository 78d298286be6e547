use Rattle.search_cases.proofs.RowLemmas.{above_none}
use Rattle.search_cases.proofs.making.are_lit.Goals as goal

pub returns : goal.returns
returns c = λ yes. record {
  filled = above_none c.args.count c.if-count-eq0.false;
  each = c.each_is_row.ensures c.if-not-each_is_row.false;
  lit = c.each_is_lit.ensures yes;
}
