use Rattle.std.proofs.Common.{◌≡◌, ◌+◌, ◌<◌, length, slice_index, ap, arith}
use Rattle.cave_base.specs.Box.{cell_count}
use Rattle.cave_base.specs.declared.class.Class.{Class}
use Rattle.cave_model.specs.Cave.{class_at}
use Rattle.cave_model.specs.Light.{entering_cost}
use Rattle.cave_problem.proofs.WordLemmas.{word_none, word_other, word_source}
use Rattle.cave_problem.proofs.levels.word_of.Goals.{After-max}
use Rattle.cave_problem.proofs.levels.word_of.Goals as goal

cost : (c : After-max) → c.max.result ≡ entering_cost c.args.world.now (slice_index c.args.linked.now.reach.now
    c.args.number)
cost c =
    let opacity : c.class_of.result.opacity
    ≡ (class_at c.args.world.now (slice_index c.args.linked.now.reach.now c.args.number)).opacity =
    ap (λ (class : Class). class.opacity) c.class_of.ensures.class in
    omega (arith, c.max.ensures, opacity)

within : (c : After-max) → c.args.number < length c.args.linked.now.reach.now
within c = omega (arith, c.requires.number, c.requires.room.sized.few)

inside : (c : After-max) → slice_index c.args.linked.now.reach.now c.args.number < cell_count c.args.world.now.size
inside c = c.requires.room.inside c.args.number 0 (within c)

pub returns-then-above-ge16 : goal.returns-then-above-ge16
returns-then-above-ge16 c =
    let before = (goal.at.returns-then-above-ge16 c).After-max in
    word_none c.args.world.now c.args.linked.now.reach.now c.args.linked.now.near.now c.args.levels.now
    c.args.linked.now.sources c.args.number
    c.args.level (c.args.level + c.max.result) (omega (arith, c.requires.level.0)) (omega (arith, cost before))
    c.if-above-ge16.true

pub returns-then-number-linked : goal.returns-then-number-linked
returns-then-number-linked c =
    let before = (goal.at.returns-then-number-linked c).After-max in
    word_source c.args.world.now c.args.linked.now.reach.now c.args.linked.now.near.now c.args.levels.now
    c.args.linked.now.sources c.args.number
    c.args.level (c.args.level + c.max.result) c.gathered-word.result (within before) (inside before)
    (omega (arith, c.requires.level.0)) (omega (arith, cost before)) c.if-above-ge16.false c.gathered-word.ensures
    c.if-number-linked.true (omega (arith, c.if-number-linked.true, c.requires.room.few))

pub returns-else-number-linked : goal.returns-else-number-linked
returns-else-number-linked c =
    let before = (goal.at.returns-else-number-linked c).After-max in
    word_other c.args.world.now c.args.linked.now.reach.now c.args.linked.now.near.now c.args.levels.now
    c.args.linked.now.sources c.args.number
    c.args.level (c.args.level + c.max.result) c.gathered-word.result (within before) (inside before)
    (omega (arith, c.requires.level.0)) (omega (arith, cost before)) c.if-above-ge16.false c.gathered-word.ensures
    c.if-number-linked.false

pub gathered-word-requires-clause-near : goal.gathered-word-requires-clause-near
gathered-word-requires-clause-near c = c.requires.room.sized.each c.args.number c.requires.number
