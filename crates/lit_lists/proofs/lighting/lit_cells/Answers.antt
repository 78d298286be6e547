use Rattle.std.proofs.Common.{ℕ, subst, arith, ap}
use Rattle.std.specs.Prelude.{◌≡◌, ◌+◌, ◌-◌}
use Rattle.lit_lists.specs.Reached.{AreReached}
use Rattle.lit_lists.proofs.BackLemmas.{lit_where_reached}
use Rattle.lit_lists.proofs.lighting.lit_cells.Goals as goal

pub returns-clause-lit : goal.returns-clause-lit
returns-clause-lit c =
    let light : 14 + 1 - c.need.result ≡ 15 - c.args.world.now.rule.need = ap (λ (n : ℕ). 15 - n) c.need.ensures.need in
    lit_where_reached c.args.world.now c.args.place c.reach.new.reached.items (omega arith)
    (subst (λ (n : ℕ). AreReached c.args.world.now c.args.place n c.reach.new.reached.items) light
    c.in_ok-reach.ensures.reached)
