use Rattle.std.proofs.Common.{◌<◌, arith}
use Rattle.cave_base.specs.Box as grid
use Rattle.proof_check.proofs.PartLemmas.{first_lights, none_more, lights_parted}
use Rattle.proof_check.proofs.parts.first_joining.Goals as goal

pub returns-then-are_two : goal.returns-then-are_two
returns-then-are_two c =
    let inside : c.loop-place.place < grid.cell_count c.args.world.now.size =
    omega (arith, c.cell_count-place-end.ensures.count) in
    first_lights c.args.world.now c.args.lists.now c.args.regions.now c.loop-place.place inside
    c.loop-place.invariant c.are_two.result
    (lights_parted c.args.world.now c.args.lists.now c.args.regions.now c.requires.parted c.loop-place.place
    c.lights.result.now c.are_two.result c.lights.ensures c.are_two.ensures)
    c.if-are_two.true

pub loop-place-preserved : goal.loop-place-preserved
loop-place-preserved c =
    let inside : c.loop-place.place < grid.cell_count c.args.world.now.size =
    omega (arith, c.cell_count-place-end.ensures.count) in
    none_more c.args.world.now c.args.lists.now c.args.regions.now c.loop-place.place inside
    c.loop-place.invariant c.are_two.result (c.requires.parted.each c.loop-place.place inside)
    (lights_parted c.args.world.now c.args.lists.now c.args.regions.now c.requires.parted c.loop-place.place
    c.lights.result.now c.are_two.result c.lights.ensures c.are_two.ensures)
    c.if-are_two.false
