use Rattle.std.proofs.Common.{◌+◌, ◌≤◌, length, arith}
use Rattle.set_cover.specs.Rows.{whole_row}
use Rattle.set_cover.proofs.SpanLemmas.{span_of, span_none}
use Rattle.set_cover.proofs.bit_row.BitRow.spanning.Goals as goal

pub returns-clause-none : goal.returns-clause-none
returns-clause-none c =
    let before = c.min-before.result in let words = c.in_ok-words.words.items in
    let fits : before + length words ≤ c.args.width =
    omega (arith, c.in_ok-words.ensures.whole, c.min-end.ensures, c.min-before.ensures) in
    span_none (whole_row c.args.width before words) before words (span_of c.args.width before words fits)
    c.in_ok-words.ensures.none
