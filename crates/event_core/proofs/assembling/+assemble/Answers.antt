use Rattle.std.proofs.Common.{◌≡◌, List, length, refl, sym, ap, ◌∙◌, arith}
use Rattle.proof_tree.specs.Bars.{wrapped}
use Rattle.proof_tree.specs.Shape.{forest_of}
use Rattle.proof_tree.specs.declared.bars.Bar.{Bar}
use Rattle.event_core.specs.Finished.{joined_on}
use Rattle.event_core.proofs.AssembleLemmas.{opened_ready, all_there, trees_enough}
use Rattle.event_core.proofs.assembling.+assemble.Goals as goal

pub loop-kid-init : goal.loop-kid-init
loop-kid-init t c =
    let o = c.in-Opened in
    let ready = opened_ready c.args.node o.bars o.on o.places o.kids o.trees o.boxes c.into_items-kid-items.result.items
    c.into_iter-kid-iterator.result.rest.items o.is c.into_items-kid-items.ensures
    c.into_iter-kid-iterator.ensures.into_iter_gives.0
    c.requires.done c.requires.whole in
    record {
      done = ready.done;
      whole = ready.whole;
      same = refl;
      room = omega (arith, ready.room_is);
      trees = refl;
      size = omega arith;
    }

pub returns-in-Opened : goal.returns-in-Opened
returns-in-Opened t c =
    let o = c.in-Opened in let i = c.loop-kid.invariant in let rest = c.loop-kid.kid-iterator.rest in
    let none_left : length rest.items ≡ 0 = sym rest.ok.0 ∙ c.in-None.ensures.steps.0 in
    let bars = c.into_vec.ensures in
    c.joined.ensures
    ∙ ap (λ (l : List Bar). wrapped l (joined_on o.on (forest_of c.loop-kid.trees.items))) bars
    ∙ all_there c.args.node o.bars o.on o.places o.kids o.trees c.loop-kid.trees o.boxes c.loop-kid.index
    c.into_items-kid-items.result.items c.into_iter-kid-iterator.result.rest.items rest.items o.is
    c.into_items-kid-items.ensures
    c.into_iter-kid-iterator.ensures.into_iter_gives.0 none_left i.room i.trees

pub joined-requires-clause-trees : goal.joined-requires-clause-trees
joined-requires-clause-trees t c =
    let o = c.in-Opened in let i = c.loop-kid.invariant in
    trees_enough c.args.node o.bars o.on o.places o.kids o.trees o.boxes (length c.loop-kid.trees.items) o.is
    c.requires.whole i.same
