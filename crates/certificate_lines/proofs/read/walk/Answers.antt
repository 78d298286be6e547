use Rattle.std.specs.Prelude.{IsTrue, false}
use Rattle.std.proofs.Common.{◌+◌, length, ap, arith, sym, refl}
use Rattle.std.proofs.lemmas.Bool.{eqb-true, eq-eqb}
use Rattle.std.proofs.lemmas.List.{nil_from_length}
use Rattle.certificate_lines.specs.Moves.{Fits, FitsNot}
use Rattle.certificate_lines.proofs.Lift.{nothing, something}
use Rattle.certificate_lines.proofs.Misfit.{walk_more, misfit, unended, whole}
use Rattle.certificate_lines.proofs.read.walk.Goals as goal

pub returns-then-is_none : goal.returns-then-is_none
returns-then-is_none c =
    let n = nothing c.in_ok-take.field-0
    (FitsNot c.in-Some.text.now c.loop-text.lines.stage c.take.new.self.stage c.loop-text.lines.taken
    c.take.new.self.taken)
    (λ k. Fits c.in-Some.text.now k c.take.new.self.numbers.items c.loop-text.lines.stage c.take.new.self.stage
    c.loop-text.lines.taken c.take.new.self.taken) c.if-is_none.ensures c.in_ok-take.ensures in
    misfit c.args.bytes.now c.loop-text.lines.stage c.loop-text.lines.taken c.loop-text.rest.now c.in-Some.text.now
    c.in-Some.after.now (c.take.new.self.taken + 1)
    c.loop-text.invariant c.in-Some.ensures n.none (omega (arith, n.counted))

pub loop-text-preserved : goal.loop-text-preserved
loop-text-preserved c =
    let f = something c.in_ok-take.field-0
    (FitsNot c.in-Some.text.now c.loop-text.lines.stage c.take.new.self.stage c.loop-text.lines.taken
    c.take.new.self.taken)
    (λ k. Fits c.in-Some.text.now k c.take.new.self.numbers.items c.loop-text.lines.stage c.take.new.self.stage
    c.loop-text.lines.taken c.take.new.self.taken) c.if-is_none.ensures c.in_ok-take.ensures in
    walk_more c.args.bytes.now c.loop-text.lines.stage c.loop-text.lines.taken c.loop-text.rest.now c.in-Some.text.now
    c.in-Some.after.now c.take.new.self.stage c.take.new.self.taken
    c.loop-text.invariant c.in-Some.ensures f.1.one f.1.counted

pub returns-then-not-is_empty : goal.returns-then-not-is_empty
returns-then-not-is_empty c =
    unended c.args.bytes.now c.loop-text.lines.stage c.loop-text.lines.taken c.loop-text.rest.now
    (c.loop-text.lines.taken + 1) c.loop-text.invariant c.in_default.ensures
    (λ e d. (let f = eq-eqb (length c.loop-text.rest.now) 0 (ap length e) in
    let g = c.if-not-is_empty.ensures in cc)) refl

pub returns-then-not-is_done : goal.returns-then-not-is_done
returns-then-not-is_done c =
    unended c.args.bytes.now c.loop-text.lines.stage c.loop-text.lines.taken c.loop-text.rest.now
    (c.loop-text.lines.taken + 1) c.loop-text.invariant c.in_default.ensures
    (λ e d. (let no : IsTrue false = c.if-not-is_done.ensures.1 d in cc)) refl

pub returns : goal.returns
returns c = whole c.args.bytes.now c.loop-text.lines.stage c.loop-text.lines.taken c.loop-text.rest.now
    c.loop-text.invariant
    (nil_from_length c.loop-text.rest.now (eqb-true (length c.loop-text.rest.now) 0 (sym c.if-not-is_empty.ensures)))
    (c.if-not-is_done.ensures.0 refl)
