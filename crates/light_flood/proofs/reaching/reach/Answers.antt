use Rattle.std.proofs.Common.{◌≡◌, ℕ, List, sym, ap, subst, ◌∙◌}
use Rattle.std.specs.Prelude.{unwrap_or}
use Rattle.std.specs.Ordering.{nat_cmp}
use Rattle.std.specs.BTreeMap.{get, is_at}
use Rattle.std.specs.Map.{lookup}
use Rattle.cave_model.specs.Light.{IsReachOf}
use Rattle.light_flood.specs.Reached.{reached}
use Rattle.light_flood.proofs.ReachLemmas.{settled_reach}
use Rattle.light_flood.proofs.reaching.reach.Goals as goal

pub returns : goal.returns
returns c = λ cell.
    (let same : reached c.from_map.result cell ≡ unwrap_or (get nat_cmp c.spread.new.self.store.levels cell) 0 =
    c.from_map.ensures cell ∙ ap (λ m. unwrap_or (get nat_cmp m cell) 0) c.into_levels.ensures in
    subst (IsReachOf c.args.world.now c.args.cell c.args.emission cell) (sym same)
    (settled_reach c.args.world.now c.args.cell c.args.emission
    (λ other. unwrap_or (get nat_cmp c.new-store.result.levels other) 0)
    (λ other. unwrap_or (get nat_cmp c.seed.new.self.store.levels other) 0)
    (λ other. unwrap_or (get nat_cmp c.spread.new.self.store.levels other) 0)
    (λ other. ap (λ (entries : List (ℕ × ℕ)). unwrap_or (lookup (is_at (nat_cmp other)) entries) 0)
    c.new-store.ensures.none)
    c.in_ok-seed.ensures.raised c.in_ok-spread.ensures.settled c.requires.in_box cell))
