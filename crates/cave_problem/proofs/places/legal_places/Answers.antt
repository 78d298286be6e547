use Rattle.std.proofs.Common.{◌≡◌, sym, ◌∙◌, arith}
use Rattle.std.proofs.lemmas.Bool.{true≢false}
use Rattle.cave_base.specs.Box as grid
use Rattle.cave_model.specs.Torches.{IsPlace}
use Rattle.cave_model.proofs.ListingLemmas.{lists_none, lists_skip, lists_push, lists_all, lists_inside}
use Rattle.cave_model.proofs.PlaceLemmas.{place_inside}
use Rattle.cave_problem.proofs.places.legal_places.Goals.{then-is_place+in_ok-push, else-is_place}
use Rattle.cave_problem.proofs.places.legal_places.Goals as goal

pub loop-cell-init : goal.loop-cell-init
loop-cell-init c = lists_none (IsPlace c.args.world.now) c.new-places.result.items c.new-places.ensures.items

pub loop-cell-preserved : goal.loop-cell-preserved
loop-cell-preserved c = elim c.if-is_place.branch [
  | then-is_place+in_ok-push w ↦ rw (w.places-is, w.in_ok-push.ensures.items)
      (lists_push (IsPlace c.args.world.now) c.loop-cell.cell c.loop-cell.places.items c.loop-cell.invariant
      (c.is_place.ensures.0 w.if-is_place.true))
  | else-is_place w ↦ rw w.places-is
      (lists_skip (IsPlace c.args.world.now) c.loop-cell.cell c.loop-cell.places.items c.loop-cell.invariant
      (λ place. true≢false (sym (c.is_place.ensures.1 place) ∙ w.if-is_place.false)))
]

pub returns-clause-places : goal.returns-clause-places
returns-clause-places c =
    let all : c.loop-cell.cell ≡ grid.cell_count c.args.world.now.size =
    omega (arith, c.cell_count-cell-end.ensures.count) in
    record {
      legal = lists_all (IsPlace c.args.world.now) c.loop-cell.cell c.loop-cell.places.items
          (λ cell place. (let b = place_inside c.args.world.now cell c.cell_count-cell-end.ensures.sound place in
          omega (arith, all)))
          c.loop-cell.invariant;
      inside = lists_inside (IsPlace c.args.world.now) c.loop-cell.cell (grid.cell_count c.args.world.now.size)
          c.loop-cell.places.items (omega arith) c.loop-cell.invariant;
    }
