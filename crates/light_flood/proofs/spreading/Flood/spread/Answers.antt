use Rattle.std.proofs.Common.{◌≡◌, ℕ, ◌+◌, ◌-◌, subst, arith}
use Rattle.light_flood.proofs.LevelLemmas.{Passing, passing_none, passing_level, passing_all}
use Rattle.light_flood.proofs.spreading.Flood.spread.Goals as goal

pub loop-level-init : goal.loop-level-init
loop-level-init g c = record {
  cells = c.requires.flood.whole;
  passing = passing_none c.args.world.now (g.S.Store.levels c.args.self.now.store) c.args.self.now.waiting
      c.requires.flood.flood;
}

pub loop-level-preserved : goal.loop-level-preserved
loop-level-preserved g c =
    let up : c.loop-level.level ≡ (c.loop-level.level - 1) + 1 = omega arith in
    record {
      cells = c.in_ok-pass_level.ensures.cells;
      passing = passing_level c.args.world.now (c.loop-level.level - 1) (g.S.Store.levels c.args.self.now.store)
          (g.S.Store.levels c.loop-level.self.store) (g.S.Store.levels c.pass_level.new.self.store)
          c.loop-level.self.waiting c.pass_level.new.self.waiting
          (subst (λ (level : ℕ). Passing c.args.world.now level (g.S.Store.levels c.args.self.now.store)
          (g.S.Store.levels c.loop-level.self.store) c.loop-level.self.waiting) up c.loop-level.invariant.passing)
          c.in_ok-pass_level.ensures.step;
    }

pub returns-clause-settled : goal.returns-clause-settled
returns-clause-settled g c =
    passing_all c.args.world.now c.loop-level.level (g.S.Store.levels c.args.self.now.store)
    (g.S.Store.levels c.loop-level.self.store) c.loop-level.self.waiting (omega arith) c.loop-level.invariant.passing
