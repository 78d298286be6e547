use Rattle.std.proofs.Common.{◌≡◌, ◌+◌, ℕ, List, length, sym, subst, arith}
use Rattle.set_cover.specs.Instance.{words_for}
use Rattle.instance_regions.specs.Restricting.{AreCopied, HaveRanks, IsOfRanks}
use Rattle.instance_regions.proofs.CopyLemmas.{have_ranks, row_copied, copied_more}
use Rattle.instance_regions.proofs.copying.copy_rows.Goals as goal

pub row_with-requires : goal.row_with-requires
row_with-requires c =
    let width : c.div_ceil-width.result ≡ words_for (length c.args.own.now) = omega (arith, c.div_ceil-width.ensures) in
    subst (λ (w : ℕ). HaveRanks c.lit_by.result.now c.args.ranks.now w) (sym width)
    (subst (λ (cells : List ℕ). HaveRanks cells c.args.ranks.now (words_for (length c.args.own.now)))
    (sym c.lit_by.ensures)
    (have_ranks c.args.sparse.now c.args.own.now c.args.placed.now c.args.ranks.now c.requires.closed c.requires.ranks
    c.loop-place.place-index c.loop-place-test.true))

pub loop-place-preserved : goal.loop-place-preserved
loop-place-preserved c =
    let width : c.div_ceil-width.result ≡ words_for (length c.args.own.now) = omega (arith, c.div_ceil-width.ensures) in
    let ranks = subst (λ (w : ℕ). IsOfRanks c.lit_by.result.now c.args.ranks.now w c.in_ok-row.row) width
    c.in_ok-row.ensures in
    subst (AreCopied c.args.sparse.now c.args.own.now c.args.placed.now (words_for (length c.args.own.now))
    (c.loop-place.place-index + 1)) (sym c.in_ok-push.ensures.items)
    (copied_more c.args.sparse.now c.args.own.now c.args.placed.now (words_for (length c.args.own.now))
    c.loop-place.place-index c.loop-place.rows.items c.in_ok-row.row c.loop-place.invariant
    (row_copied c.args.sparse.now c.args.own.now c.args.placed.now c.args.ranks.now c.requires.closed c.requires.ranks
    c.loop-place.place-index (words_for (length c.args.own.now)) c.in_ok-row.row c.loop-place-test.true
    (subst (λ (cells : List ℕ). IsOfRanks cells c.args.ranks.now (words_for (length c.args.own.now))
    c.in_ok-row.row) c.lit_by.ensures ranks)))
