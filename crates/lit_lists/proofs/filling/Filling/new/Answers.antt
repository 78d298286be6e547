use Rattle.std.proofs.Common.{◌≡◌, length, slice_index, ◌∙◌, arith}
use Rattle.std.proofs.lemmas.Grind.{get_or_default_zero}
use Rattle.lit_lists.proofs.FillLemmas.{filling_none}
use Rattle.lit_lists.proofs.filling.Filling.new.Goals as goal

pub invariant_of-result : goal.invariant_of-result
invariant_of-result c =
    let starts = c.in_ok-starts.starts.items in
    let at : c.index.result.now ≡ slice_index starts (length c.args.counts.now) = c.index.ensures
    ∙ get_or_default_zero starts (length c.args.counts.now) c.index.result.now
    (omega (arith, c.in_ok-starts.ensures.whole)) in
    record {
      filling = filling_none c.args.counts.now starts c.in_ok-next.next.items c.in_ok-numbers.numbers.items
          c.in_ok-starts.ensures (c.in_ok-next.ensures.items ∙ c.deref.ensures.value)
          (omega (arith, c.in_ok-numbers.ensures.len, at));
    }
