use Rattle.std.proofs.Common.{inl, inr, ◌++◌, length, ap, ◌∙◌, arith, List, ℕ}
use Rattle.proof_tree.specs.Bars.{places_of}
use Rattle.proof_tree.specs.Opened.{step_at, steps_on}
use Rattle.proof_tree.specs.declared.bars.Bar.{Bar}
use Rattle.event_core.specs.NodeShape.{shape_of}
use Rattle.event_core.proofs.TraceLemmas.{traced_same, at_no_kid, at_kid}
use Rattle.event_core.proofs.tracing.+trace.Goals as goal

pub returns-then-number-kid_count : goal.returns-then-number-kid_count
returns-then-number-kid_count t c =
    let o = c.in-Opened in let s = c.in-Some in
    at_no_kid c.args.chosen.items c.args.barred.items c.args.node.now o.bars o.on o.places o.kids o.trees o.boxes
    c.as_slice-nodes.result.now c.args.name.now s.rest.now s.first.now o.is s.ensures.cases.0
    c.as_slice-nodes.ensures
    (elim c.then-number-kid_count.either [
      | inl le ↦ inl (let e = ap (λ (l : List ℕ). length (steps_on o.on l)) c.as_slice-places.ensures in
          omega (arith, e, le, c.kid_count.ensures))
      | inr both ↦ inr (omega (arith, both))
    ])

pub returns-in_ok-traced-in-Opened : goal.returns-in_ok-traced-in-Opened
returns-in_ok-traced-in-Opened t c =
    let o = c.in-Opened in let s = c.in-Some in let first = s.first.now in
    let e = c.as_slice-places.ensures in
    let count = ap (λ (l : List ℕ). length (steps_on o.on l)) e in
    let near = c.if-number-kid_count.false in
    let low = c.in_ok-low-in-Opened.ensures ∙ ap
    (λ (l : List Bar). c.args.barred.items ++ places_of l) c.as_slice.ensures in
    let same = at_kid c.args.chosen.items c.args.barred.items c.args.node.now c.index-nodes-number.result o.bars o.on
    o.places o.kids o.trees o.boxes c.as_slice-nodes.result.now c.args.name.now s.rest.now first
    c.in_ok-chosen-in-Opened.chosen.items c.in_ok-barred-in-Opened.barred.items o.is s.ensures.cases.0
    c.as_slice-nodes.ensures (omega (arith, near, count, c.kid_count.ensures)) c.if-number-nodes.false
    c.index-nodes-number.is
    (c.in_ok-chosen-in-Opened.ensures
    ∙ ap (λ (l : List ℕ). c.args.chosen.items ++ (step_at (steps_on o.on l) first).chosen) e)
    (c.in_ok-barred-in-Opened.ensures
    ∙ ap (λ (l : List ℕ). c.in_ok-low-in-Opened.low.items ++ (step_at (steps_on o.on l) first).barred) e
    ∙ ap (λ (l : List ℕ). l ++ (step_at (steps_on o.on o.places) first).barred) low) in
    traced_same c.args.chosen.items c.args.barred.items c.in_ok-chosen-in-Opened.chosen.items
    c.in_ok-barred-in-Opened.barred.items (shape_of c.args.node.now)
    (shape_of c.index-nodes-number.result) c.args.name.now s.rest.now
    c.in_ok-traced-in-Opened.traced same c.in_ok-traced-in-Opened.ensures
