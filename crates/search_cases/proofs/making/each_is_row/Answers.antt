use Rattle.std.proofs.Common.{ℕ, [], slice_index_or, subst, ◌∙◌, below_more}
use Rattle.std.proofs.lemmas.List.{get_or_default}
use Rattle.search_cases.specs.Made.{IsRowFor}
use Rattle.search_cases.proofs.making.each_is_row.Goals as goal

pub loop-place-preserved : goal.loop-place-preserved
loop-place-preserved c =
    let rows = c.args.rows.now in let at = c.loop-place.place in
    below_more (λ (place : ℕ). IsRowFor c.args.count (slice_index_or rows place [])) at c.loop-place.invariant
    (subst (IsRowFor c.args.count)
    (c.index-rows-place.is ∙ get_or_default rows at c.index-rows-place.result [] c.loop-place-test.true)
    (c.is_row.ensures c.if-not-is_row.false))
