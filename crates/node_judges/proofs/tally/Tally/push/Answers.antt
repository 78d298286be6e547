use Rattle.std.proofs.Common.{◌≡◌, ◌<◌, ◌+◌, length, slice_index, ap, ◌∙◌, ℕ, arith}
use Rattle.std.proofs.lemmas.Grind.{get_or_default_zero}
use Rattle.node_judges.proofs.TallyLemmas.{tally_push, times_most}
use Rattle.node_judges.proofs.tally.Tally.push.Goals as goal

pub overflow_add-index_mut : goal.overflow_add-index_mut
overflow_add-index_mut c =
    let inside : c.args.cell < length c.self.inside.counts.items = omega (arith, c.if-cell-len.false, c.len.ensures) in
    let now : c.index_mut.result.now ≡ slice_index c.self.inside.counts.items c.args.cell = c.index_mut.ensures.value
    ∙ get_or_default_zero c.self.inside.counts.items c.args.cell c.index_mut.result.now inside in
    let a = c.self.invariant.counted c.args.cell inside in
    let b = times_most c.args.cell c.self.inside.items.items in
    omega (arith, c.in_ok-push.ensures.len, c.push.new.self.small, c.push.new.self.ok.0, c.self.inside.items.ok.0)

pub invariant_of-self-2 : goal.invariant_of-self-2
invariant_of-self-2 c =
    let inside : c.args.cell < length c.self.inside.counts.items = omega (arith, c.if-cell-len.false, c.len.ensures) in
    let now : c.index_mut.result.now ≡ slice_index c.self.inside.counts.items c.args.cell = c.index_mut.ensures.value
    ∙ get_or_default_zero c.self.inside.counts.items c.args.cell c.index_mut.result.now inside in
    rw c.in_ok-push.ensures.items
    (tally_push c.self.inside.items.items c.self.inside.counts.items c.args.cell c.self.invariant inside
    (c.index_mut.result.now + 1) (ap (λ (n : ℕ). n + 1) now))
