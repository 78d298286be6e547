use Rattle.std.proofs.Common.{ℕ, List, slice_index, Contains, subst, arith, length-set}
use Rattle.std.proofs.lemmas.Grind.{get_or_default_zero}
use Rattle.lit_lists.specs.Seeded.{AreTaken}
use Rattle.lit_lists.proofs.TakeLemmas.{element_of}
use Rattle.lit_lists.proofs.SeedLemmas.{reached}
use Rattle.lit_lists.proofs.lighting.reach.Goals as goal

pub take_lit-requires-clause-inside : goal.take_lit-requires-clause-inside
take_lit-requires-clause-inside c = λ k d h.
    let s = c.in_ok-relax.ensures.settled in
    let has = subst (λ (l : List ℕ). Contains l (slice_index c.as_slice.result.now k)) c.as_slice.ensures.value
    (element_of c.as_slice.result.now k h) in
    let lt = s.queued.inside (slice_index c.as_slice.result.now k) has in
    let same = get_or_default_zero c.as_slice.result.now k d h in
    omega (
      arith,
      c.relax.auto.levels,
      length-set c.args.levels.now c.args.source c.args.light,
      c.requires.scratch.whole,
    )

pub returns-clause-reached : goal.returns-clause-reached
returns-clause-reached c =
    let taken = subst (λ (l : List ℕ). AreTaken c.relax.new.levels l c.take_lit.new.lit.items) c.as_slice.ensures.value
    c.in_ok-take_lit.ensures.taken in
    reached c.args.world.now c.args.levels.now c.relax.new.levels c.relax.new.queue.items c.take_lit.new.lit.items
    c.args.source c.args.light c.requires.scratch.unlit c.requires.scratch.whole c.requires.source.inside
    c.in_ok-relax.ensures.settled taken
