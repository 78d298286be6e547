use Rattle.std.proofs.Common.{◌≡◌, ℕ, List, [], ◌∷◌, ◌++◌, sym, ap, subst, ◌∙◌, arith}
use Rattle.lit_lists.proofs.CountLemmas.{SumsSoFar, sum_low, sums_none, sums_more, sums_all}
use Rattle.lit_lists.proofs.counting.sums_of.Goals as goal

pub loop-count-init : goal.loop-count-init
loop-count-init c =
    let first : c.push.new.self.items ≡ 0 ∷ [] =
    c.in_ok-push.ensures.items ∙ ap (λ (l : List ℕ). l ++ 0 ∷ []) c.in_ok-sums.ensures.items in
    subst (λ (l : List ℕ). SumsSoFar c.args.counts.now l 0 0) (sym first) (sums_none c.args.counts.now)

pub overflow_add-total : goal.overflow_add-total
overflow_add-total c =
    let low = sum_low c.args.counts.now c.loop-count.count-index c.loop-count-test.true in
    omega (arith, low, c.requires.fits, c.loop-count.invariant.summed)

pub loop-count-preserved : goal.loop-count-preserved
loop-count-preserved c = rw c.in_ok-push-2.ensures.items (sums_more c.args.counts.now c.loop-count.sums.items
    c.loop-count.count-index c.loop-count.total c.loop-count-test.true c.loop-count.invariant)

pub returns : goal.returns
returns c = sums_all c.args.counts.now c.loop-count.sums.items c.loop-count.count-index c.loop-count.total
    (omega arith) c.loop-count.invariant
