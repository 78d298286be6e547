use Rattle.std.proofs.Common.{◌≡◌, ap, length, List, ℕ, arith}
use Rattle.tree_judges.proofs.OmissionLemmas.{omitted_below}
use Rattle.tree_judges.proofs.omission.omitted_row.Goals as goal

pub add_each-requires-clause-inside : goal.add_each-requires-clause-inside
add_each-requires-clause-inside c = λ cell h.
    (let below = omitted_below c.args.region.now c.args.cells.now cell c.requires h in
    let long : length c.as_mut_slice.result.now ≡ length c.in_ok-row.row.items =
    ap (λ (l : List ℕ). length l) c.as_mut_slice.ensures.value in
    omega (arith, below, long, c.in_ok-row.ensures.whole, c.width.ensures.width, c.width.ensures.kept.kept.wide))
