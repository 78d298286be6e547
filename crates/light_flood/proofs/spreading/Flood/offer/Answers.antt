use Rattle.std.proofs.Common.{◌≡◌, ℕ, ◌+◌, ◌-◌, ◌<◌, refl, subst, ◌∙◌, arith}
use Rattle.cave_model.specs.Light.{entering_cost}
use Rattle.light_flood.specs.Spreading.{IsRaised}
use Rattle.light_flood.proofs.PassLemmas.{step_none}
use Rattle.light_flood.proofs.SpreadLemmas.{entering_pos, raised_rises, raised_spreads, raised_flood}
use Rattle.light_flood.proofs.spreading.Flood.offer.Goals as goal

pub returns-in_ok-push-clause-step : goal.returns-in_ok-push-clause-step
returns-in_ok-push-clause-step g c =
    let f = g.S.Store.levels c.args.self.now.store in
    let next = g.S.Store.levels c.raise.new.self in
    let brought : c.saturating_sub-brought.result ≡ f c.args.from - entering_cost c.args.world.now c.args.to =
    c.saturating_sub-brought.ensures ∙ rw (c.level-level.ensures, c.max-cost.ensures, c.class_of.ensures.class) refl in
    let higher : f c.args.to < c.saturating_sub-brought.result =
    omega (arith, c.level-here.ensures, c.if-brought-here.true) in
    let cost = entering_pos c.args.world.now c.args.to in
    let top = c.requires.flood.flood.low c.args.from in
    record {
      rises = raised_rises (f c.args.from) f next c.args.to c.saturating_sub-brought.result (omega (arith, brought))
          (omega arith) c.in_ok-raise.ensures.raised;
      spreads = raised_spreads c.args.world.now f next c.args.from c.args.to
          c.requires.shared.0 (omega (arith, brought))
          (subst (λ (level : ℕ). IsRaised f c.args.to level next) brought c.in_ok-raise.ensures.raised);
      flood = raised_flood c.args.world.now f next c.args.self.now.waiting c.push.new.self
          (f c.args.from + 1) (f c.args.from) c.args.to c.saturating_sub-brought.result
          c.requires.shared.1 c.requires.flood.flood (omega (arith, brought)) (omega (arith, brought, top))
          (omega arith) c.in_ok-raise.ensures.raised c.in_ok-push.ensures;
    }

pub returns-else-brought-here-clause-step : goal.returns-else-brought-here-clause-step
returns-else-brought-here-clause-step g c =
    step_none c.args.world.now (g.S.Store.levels c.args.self.now.store c.args.from + 1)
    (g.S.Store.levels c.args.self.now.store c.args.from) (g.S.Store.levels c.args.self.now.store)
    c.args.self.now.waiting c.requires.flood.flood
