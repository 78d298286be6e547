use Rattle.std.proofs.Common.{◌+◌, ◌<◌, ℕ, length, slice_index, arith, sym, subst, ◌∙◌}
use Rattle.cave_problem.specs.Blocks.{AreExact, IsWordAt}
use Rattle.cave_problem.proofs.WordLemmas.{linked_fewer}
use Rattle.cave_problem.proofs.StoreLemmas.{storing_pass, storing_next, storing_all}
use Rattle.cave_problem.proofs.blocks.store.Goals.{then-index-column+in_ok-push_word, else-index-column}
use Rattle.cave_problem.proofs.blocks.store.Goals as goal

pub loop-number-preserved : goal.loop-number-preserved
loop-number-preserved c =
    let within : c.loop-number.number < length c.args.linked.now.reach.now =
    omega (arith, c.loop-number-test.true, c.requires.room.sized.few) in
    elim c.if-index-column.branch [
      | then-index-column+in_ok-push_word w ↦ rw (w.lit-is, w.all-is) (
        w.in_ok-push_word.ensures.whole ∙ c.loop-number.invariant.0,
        λ cells long linked there. storing_next c.args.world.now cells c.args.linked.now.reach.now
            c.args.column.now.places.now c.args.column.now.indices.now c.args.column.now.block c.requires.indices
            c.requires.room.inside linked.once c.loop-number.number within c.args.lit.now c.loop-number.lit
            w.push_word.new.lit c.loop-number.all w.word_of-word.result w.if-index-column.true
            (subst (λ (n : ℕ). IsWordAt c.args.world.now cells n (slice_index c.args.linked.now.reach.now
            c.loop-number.number)
            w.word_of-word.result) w.need.ensures.need
            (w.word_of-word.ensures.exact cells long (linked_fewer c.args.world.now cells c.args.linked.now.reach.now
            c.args.linked.now.near.now c.args.linked.now.count (c.loop-number.number + 1)
            (omega (arith, c.loop-number-test.true)) linked)
            (subst (λ (n : ℕ). AreExact c.args.world.now cells c.args.linked.now.reach.now (n + 1) c.args.levels.now)
            (sym w.need.ensures.need) there)))
            w.in_ok-push_word.ensures (c.loop-number.invariant.1 cells long linked there),
      )
      | else-index-column w ↦ rw (w.lit-is, w.all-is) (
        c.loop-number.invariant.0,
        λ cells long linked there. storing_pass c.args.world.now cells c.args.linked.now.reach.now
            c.args.column.now.places.now c.args.column.now.indices.now c.args.column.now.block c.requires.indices
            c.requires.room.inside linked.once c.loop-number.number within c.args.lit.now c.loop-number.lit
            c.loop-number.all w.if-index-column.false (c.loop-number.invariant.1 cells long linked there),
      )
    ]

pub returns : goal.returns
returns c = record {
  stored = λ cells long linked there complete.
      storing_all c.args.world.now cells c.args.linked.now.reach.now c.args.column.now.places.now
      c.args.column.now.indices.now c.args.column.now.block c.requires.indices c.requires.room.inside linked.once
      c.args.lit.now c.loop-number.lit c.loop-number.all c.loop-number.number c.args.linked.now.count
      c.loop-number-test.false complete (c.loop-number.invariant.1 cells long linked there);
}
