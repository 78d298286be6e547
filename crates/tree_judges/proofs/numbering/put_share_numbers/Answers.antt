use Rattle.std.proofs.Common.{◌<◌, ℕ, ap, length, get_or, set, slice_index, ◌∙◌, arith}
use Rattle.std.proofs.lemmas.List.Edits.{map_over_more}
use Rattle.std.proofs.lemmas.List.{get_or_default}
use Rattle.proof_rules.specs.declared.groups.Share.{Share}
use Rattle.tree_judges.proofs.numbering.put_share_numbers.Goals as goal

pub loop-share-preserved : goal.loop-share-preserved
loop-share-preserved c =
    let none : Share = record { cell = 0; weight = 0 } in
    let f = λ (share : Share). (let cell = slice_index c.args.numbers.now share.cell in
    let named : Share = record { cell = cell; weight = share.weight } in named) in
    let i = c.loop-share.share-index in
    let old = get_or c.loop-share.shares i none in
    let inside : i < length c.loop-share.shares = omega arith in
    ap (λ (n : ℕ). set c.loop-share.shares i (record { cell = n; weight = old.weight })) c.number_at.ensures
    ∙ map_over_more f c.args.shares.now c.loop-share.shares i old c.loop-share-test.true c.loop-share.invariant
    (get_or_default c.loop-share.shares i none old inside)
