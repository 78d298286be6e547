use Rattle.std.proofs.Common.{refl, ap, ◌∙◌, arith}
use Rattle.event_core.specs.NodeShape.{shape_of}
use Rattle.event_core.specs.Shape.{put_in}
use Rattle.event_core.specs.declared.node.PieceNode.{PieceNode}
use Rattle.event_core.proofs.TraceLemmas.{put_at_kid, put_at_none}
use Rattle.event_core.proofs.putting.+put.Goals as goal

pub returns-then-number-len : goal.returns-then-number-len
returns-then-number-len t c =
    let o = c.in-Opened in let s = c.in-Some in
    put_at_none c.args.node o.bars o.on o.places o.kids c.of.result o.trees o.boxes c.into_items-nodes.result.items
    c.args.name.now
    s.rest.now s.first.now c.args.new o.is s.ensures.cases.0 c.into_items-nodes.ensures
    (let far = c.if-number-len.true in let len = c.len.ensures in let ok = c.into_items-nodes.result.ok.0 in
    omega arith) c.of.ensures

pub returns-else-number-len : goal.returns-else-number-len
returns-else-number-len t c =
    let o = c.in-Opened in let s = c.in-Some in
    let got = c.replace-kid.ensures.value ∙ c.index_mut.ensures.value in
    put_at_kid c.args.node o.bars o.on o.places o.kids c.of-in-Opened.result o.trees o.boxes
    c.into_items-nodes.result.items _
    c.args.name.now s.rest.now s.first.now c.args.new c.put.result c.replace-kid.new.dest c.index_mut.result.now
    o.is s.ensures.cases.0 c.into_items-nodes.ensures
    (let near = c.if-number-len.false in let len = c.len.ensures in let ok = c.into_items-nodes.result.ok.0 in
    omega arith)
    (c.put.ensures ∙ ap (λ (n : PieceNode). put_in (shape_of n) s.rest.now (shape_of c.args.new)) got) refl
    c.of-in-Opened.ensures
