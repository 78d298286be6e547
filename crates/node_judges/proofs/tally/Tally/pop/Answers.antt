use Rattle.std.proofs.Common.{◌≡◌, ◌-◌, List, slice_index, ap, subst, ◌∙◌, ℕ, arith}
use Rattle.std.proofs.lemmas.Grind.{get_or_default_zero}
use Rattle.node_judges.specs.Tally.{IsTally}
use Rattle.node_judges.proofs.TallyLemmas.{tally_pop, pop_inside}
use Rattle.node_judges.proofs.tally.Tally.pop.Goals as goal

pub overflow_sub-index_mut : goal.overflow_sub-index_mut
overflow_sub-index_mut c =
    let t = subst (λ (xs : List ℕ). IsTally (record { items = xs; counts = c.self.inside.counts.items }))
    c.in-Some.ensures.items c.self.invariant in
    let p = pop_inside c.pop.new.self.items c.self.inside.counts.items c.in-Some.cell t in
    let now : c.index_mut.result.now ≡ slice_index c.self.inside.counts.items c.in-Some.cell = c.index_mut.ensures.value
    ∙ get_or_default_zero c.self.inside.counts.items c.in-Some.cell c.index_mut.result.now p.0 in
    omega (arith, now, p.1)

pub invariant_of-self : goal.invariant_of-self
invariant_of-self c =
    let t = subst (λ (xs : List ℕ). IsTally (record { items = xs; counts = c.self.inside.counts.items }))
    c.in-Some.ensures.items c.self.invariant in
    let p = pop_inside c.pop.new.self.items c.self.inside.counts.items c.in-Some.cell t in
    let now : c.index_mut.result.now ≡ slice_index c.self.inside.counts.items c.in-Some.cell = c.index_mut.ensures.value
    ∙ get_or_default_zero c.self.inside.counts.items c.in-Some.cell c.index_mut.result.now p.0 in
    tally_pop c.pop.new.self.items c.self.inside.counts.items c.in-Some.cell t (c.index_mut.result.now - 1)
    (ap (λ (n : ℕ). n - 1) now)
