use Rattle.std.proofs.Common.{◌∙◌, ℕ, Some, IsSome, ap, refl, subst, sym, arith}
use Rattle.std.specs.Arc.{arc_value}
use Rattle.instance_regions.specs.Cover.{Covering}
use Rattle.instance_regions.specs.Region.{IsRegion}
use Rattle.gathering.proofs.GatherLemmas.{scattered_floor}
use Rattle.gathering.proofs.merge.stopped.Goals as goal

pub returns : goal.returns
returns c =
    let floor = scattered_floor (arc_value c.args.region.now) c.in_ok-scattered.field-0.items
    c.len-floor.result c.in_ok-piece.piece
    (subst IsRegion c.deref.ensures c.cells-cells.ensures.kept) c.in_ok-piece.ensures
    (omega (arith, c.len-floor.ensures)) c.in_ok-scattered.ensures.scattered
    c.in_ok-scattered.ensures.some in (
      record {
        limited = subst IsSome (sym c.requires.spent) refl;
        of_it = ap (λ (x : Covering). x.region) c.into_cover.ensures.cover ∙ c.requires.of_it;
        some = floor.0;
        none_below = floor.1;
      },
      c.requires.spent ∙ ap (λ (n : ℕ). Some n) (sym c.granted-granted.ensures.count),
    )
