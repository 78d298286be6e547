use Rattle.std.proofs.Common.{ℕ, ◌<◌, get_or, sym, subst, ◌∙◌}
use Rattle.std.proofs.lemmas.Grind.{get_or_default_zero}
use Rattle.light_flood.proofs.LevelLemmas.{level_start, level_here, level_passed, level_skipped, level_end}
use Rattle.light_flood.proofs.LevelLemmas.{element_inside}
use Rattle.light_flood.proofs.spreading.Flood.pass_level.Goals.{then-level+in_ok-pass_around, else-level}
use Rattle.light_flood.proofs.spreading.Flood.pass_level.Goals as goal

pub loop-from-init : goal.loop-from-init
loop-from-init g c = record {
  cells = c.requires.flood.whole;
  passing = level_start c.args.world.now c.args.level (g.S.Store.levels c.args.self.now.store)
      c.args.self.now.waiting c.take-cells.new.self c.deref-from-items.result.now
      c.requires.level.0 c.requires.flood.flood (c.deref-from-items.ensures.value ∙ c.take-cells.ensures.taken)
      c.take-cells.ensures.rest;
}

pub level-requires : goal.level-requires
level-requires g c = record {
  in_box = subst (λ (n : ℕ). get_or c.deref-from-items.result.now c.loop-from.from-index 0 < n)
      (sym c.loop-from.invariant.cells)
      (element_inside c.args.world.now c.args.level (g.S.Store.levels c.args.self.now.store)
      (g.S.Store.levels c.loop-from.self.store) c.loop-from.self.waiting c.deref-from-items.result.now
      c.loop-from.from-index c.loop-from.invariant.passing c.loop-from-test.true);
}

pub pass_around-requires-clause-in_box : goal.pass_around-requires-clause-in_box
pass_around-requires-clause-in_box g c =
    element_inside c.args.world.now c.args.level (g.S.Store.levels c.args.self.now.store)
    (g.S.Store.levels c.loop-from.self.store) c.loop-from.self.waiting c.deref-from-items.result.now
    c.loop-from.from-index c.loop-from.invariant.passing c.loop-from-test.true

pub pass_around-requires-clause-flood : goal.pass_around-requires-clause-flood
pass_around-requires-clause-flood g c =
    level_here c.args.world.now c.args.level (g.S.Store.cells c.loop-from.self.store)
    (g.S.Store.levels c.args.self.now.store) (g.S.Store.levels c.loop-from.self.store) c.loop-from.self.waiting
    c.deref-from-items.result.now c.loop-from.from-index
    (get_or c.deref-from-items.result.now c.loop-from.from-index 0) c.loop-from.invariant.cells
    c.loop-from.invariant.passing (sym c.level.ensures ∙ c.if-level.true)

pub loop-from-preserved : goal.loop-from-preserved
loop-from-preserved g c = elim c.if-level.branch [
  | then-level+in_ok-pass_around w ↦ rw w.self-is (record {
    cells = w.in_ok-pass_around.ensures.cells;
    passing = level_passed c.args.world.now c.args.level (g.S.Store.levels c.args.self.now.store)
        (g.S.Store.levels c.loop-from.self.store) (g.S.Store.levels w.pass_around.new.self.store)
        c.loop-from.self.waiting w.pass_around.new.self.waiting c.deref-from-items.result.now c.loop-from.from-index
        (get_or c.deref-from-items.result.now c.loop-from.from-index 0) c.loop-from.invariant.passing
        (λ d. get_or_default_zero c.deref-from-items.result.now c.loop-from.from-index d c.loop-from-test.true)
        (sym c.level.ensures ∙ w.if-level.true) w.in_ok-pass_around.ensures.step w.in_ok-pass_around.ensures.passed;
  })
  | else-level w ↦ rw w.self-is (record {
    cells = c.loop-from.invariant.cells;
    passing = level_skipped c.args.world.now c.args.level (g.S.Store.levels c.args.self.now.store)
        (g.S.Store.levels c.loop-from.self.store)
        c.loop-from.self.waiting c.deref-from-items.result.now c.loop-from.from-index
        (get_or c.deref-from-items.result.now c.loop-from.from-index 0) c.loop-from.invariant.passing
        (λ d. get_or_default_zero c.deref-from-items.result.now c.loop-from.from-index d c.loop-from-test.true)
        (λ e. w.if-level.false (c.level.ensures ∙ e));
  })
]

pub returns-clause-step : goal.returns-clause-step
returns-clause-step g c =
    level_end c.args.world.now c.args.level (g.S.Store.levels c.args.self.now.store)
    (g.S.Store.levels c.loop-from.self.store) c.loop-from.self.waiting c.deref-from-items.result.now
    c.loop-from.from-index c.loop-from-test.false c.loop-from.invariant.passing
