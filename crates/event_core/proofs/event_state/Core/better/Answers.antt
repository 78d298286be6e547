use Rattle.std.proofs.Common.{sym, ap, ◌∙◌, subst}
use Rattle.std.specs.Arc.{arc_value}
use Rattle.set_cover.specs.Instance.{Instance}
use Rattle.instance_regions.specs.Cover.{IsCoverOfRegion}
use Rattle.event_core.specs.NodeShape.{shape_of}
use Rattle.event_core.specs.Kept.{Kept}
use Rattle.event_core.proofs.KeptLemmas.{better_kept}
use Rattle.std.proofs.Common.{arith}
use Rattle.event_core.proofs.event_state.Core.better.Goals as goal

pub invariant_of-self : goal.invariant_of-self
invariant_of-self c =
    let inside = c.self.inside in
    let v : Kept = record {
      region = arc_value inside.region;
      best = inside.best.places;
      aim = inside.aim;
      seen = inside.seen.items;
      root = shape_of inside.root;
    } in
    let of_it = c.requires ∙ ap (λ (k : Kept). k.region) (sym c.self.view_is) in
    let new = c.size.ensures.size in let old = c.size-2.ensures.size in let less = c.if-size.true in (
      of_it,
      better_kept v c.args.cover.places (omega arith)
          (subst (λ (r : Instance). IsCoverOfRegion r c.args.cover.places) of_it c.size.ensures.kept)
          c.self.invariant.1,
    )
