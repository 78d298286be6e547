use Rattle.std.proofs.Common.{◌≡◌, ◌∷◌, [], length, take}
use Rattle.std.specs.List.{flat_map}
use Rattle.certificate_text.proofs.groups.group_numbers.Given as goal

-- the capacity, how many cells there are, and those before the index with their weights
abbrev pub invariant-loop-share : goal.invariant-loop-share
invariant-loop-share l = l.numbers.items ≡ l.group.capacity ∷ length l.shares
    ∷ flat_map (λ share. share.cell ∷ share.weight ∷ []) (take l.share-index l.shares)
