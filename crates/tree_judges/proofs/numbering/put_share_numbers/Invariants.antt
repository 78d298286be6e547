use Rattle.std.proofs.Common.{◌≡◌, ◌++◌, map, take, drop, slice_index}
use Rattle.tree_judges.proofs.numbering.put_share_numbers.Given as goal

abbrev pub invariant-loop-share : goal.invariant-loop-share
invariant-loop-share l =
    l.shares ≡ map (λ share. record { cell = slice_index l.numbers share.cell; weight = share.weight })
    (take l.share-index l.fn.shares) ++ drop l.share-index l.fn.shares
