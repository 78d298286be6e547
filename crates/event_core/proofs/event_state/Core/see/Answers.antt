use Rattle.std.proofs.Common.{◌<◌, ℕ, length, set, sym, ap, ◌∙◌, subst}
use Rattle.std.specs.Arc.{arc_value}
use Rattle.event_core.specs.NodeShape.{shape_of}
use Rattle.event_core.specs.Kept.{Kept, IsKept, state_of}
use Rattle.event_core.specs.State.{goal_of}
use Rattle.event_core.proofs.KeptLemmas.{seen_kept}
use Rattle.event_core.proofs.event_state.Core.see.Goals as goal

pub invariant_of-self : goal.invariant_of-self
invariant_of-self c =
    let inside = c.self.inside in
    let v : Kept = record {
      region = arc_value inside.region;
      best = inside.best.places;
      aim = inside.aim;
      seen = inside.seen.items;
      root = shape_of inside.root;
    } in
    let lt = subst (λ (k : Kept). c.args.worker < length k.seen) (sym c.self.view_is) c.requires in (
      c.self.invariant.0,
      subst (λ (n : ℕ). IsKept (record v { seen = set v.seen c.args.worker n }))
          (ap (λ (k : Kept). goal_of (state_of k)) c.self.view_is ∙ sym c.goal-goal.ensures)
          (seen_kept v c.args.worker lt c.self.invariant.1),
    )
