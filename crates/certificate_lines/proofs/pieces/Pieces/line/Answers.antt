use Rattle.std.proofs.Common.{◌∙◌, ap, subst, sym, refl}
use Rattle.std.specs.Prelude.{IsTrue, false}
use Rattle.certificate_lines.specs.Held.{HeldText}
use Rattle.certificate_lines.specs.Keeping.{IsKeptOn, IsOverlong}
use Rattle.certificate_lines.specs.Moves.{Fits, FitsNot}
use Rattle.certificate_lines.proofs.Lift.{on, off, at_none, at_some}
use Rattle.certificate_lines.proofs.Pushing.{ends_found, ends_on, ends_overlong, ends_stuck, takes_line}
use Rattle.certificate_lines.proofs.pieces.Pieces.line.Goals as goal

pub returns-then-not-is_none : goal.returns-then-not-is_none
returns-then-not-is_none c = ends_found c.args.piece.now c.args.self.now
    (λ e. (let no : IsTrue false = c.if-not-is_none.ensures.1 (ap (λ (k : HeldText). k.misfit) c.self.view_is ∙ e)
    in cc))

pub returns-in_default : goal.returns-in_default
returns-in_default c = ends_on c.args.piece.now c.args.self.now c.keep.new.self c.in_ok-keep.field-0
    (ap (λ (k : HeldText). k.misfit) (sym c.self.view_is) ∙ c.if-not-is_none.ensures.0 refl)
    c.in_default.ensures c.in_ok-keep.ensures

pub returns-then-not-branch : goal.returns-then-not-branch
returns-then-not-branch c = ends_overlong c.args.piece.now c.in-Some.text.now _ c.args.self.now c.keep-2.new.self
    (ap (λ (k : HeldText). k.misfit) (sym c.self.view_is) ∙ c.if-not-is_none.ensures.0 refl)
    c.in-Some.ensures.parts c.in-Some.ensures.clean
    (off c.in_ok-keep-2.field-0 (IsKeptOn c.in-Some.text.now c.args.self.now c.keep-2.new.self)
    (IsOverlong c.in-Some.text.now c.args.self.now c.keep-2.new.self) c.if-not-branch.true c.in_ok-keep-2.ensures)

pub returns-in_default-2 : goal.returns-in_default-2
returns-in_default-2 c = ends_stuck c.args.piece.now c.in-Some.text.now c.in-Some.after.now c.deref.result.now
    c.args.self.now _ _ c.take.new.self.stage c.take.new.self.taken
    (ap (λ (k : HeldText). k.misfit) (sym c.self.view_is)
    ∙ c.if-not-is_none.ensures.0 refl) c.in-Some.ensures
    (subst (IsKeptOn c.in-Some.text.now c.args.self.now) (sym c.self-2.view_is)
    (on c.in_ok-keep-2.field-0 (IsKeptOn c.in-Some.text.now c.args.self.now c.keep-2.new.self)
    (IsOverlong c.in-Some.text.now c.args.self.now c.keep-2.new.self)
    c.if-not-branch.false c.in_ok-keep-2.ensures))
    c.deref.ensures.value
    (at_none c.in_ok-kind.field-0 (FitsNot c.deref.result.now c.self-2.inside.lines.stage c.take.new.self.stage
    c.self-2.inside.lines.taken c.take.new.self.taken)
    (λ k. Fits c.deref.result.now k c.take.new.self.numbers.items c.self-2.inside.lines.stage c.take.new.self.stage
    c.self-2.inside.lines.taken c.take.new.self.taken) c.in_default-2.is c.in_ok-kind.ensures)
    refl

pub returns : goal.returns
returns c = takes_line c.args.piece.now c.in-Some.text.now c.in-Some.after.now c.deref.result.now c.in-Some-2.kind
    c.args.self.now _ _ (ap (λ (k : HeldText). k.misfit) (sym c.self.view_is) ∙ c.if-not-is_none.ensures.0 refl)
    c.in-Some.ensures
    (subst (IsKeptOn c.in-Some.text.now c.args.self.now) (sym c.self-2.view_is)
    (on c.in_ok-keep-2.field-0 (IsKeptOn c.in-Some.text.now c.args.self.now c.keep-2.new.self)
    (IsOverlong c.in-Some.text.now c.args.self.now c.keep-2.new.self)
    c.if-not-branch.false c.in_ok-keep-2.ensures))
    c.deref.ensures.value
    (at_some c.in_ok-kind.field-0 c.in-Some-2.kind
    (FitsNot c.deref.result.now c.self-2.inside.lines.stage c.take.new.self.stage c.self-2.inside.lines.taken
    c.take.new.self.taken)
    (λ k. Fits c.deref.result.now k c.take.new.self.numbers.items c.self-2.inside.lines.stage c.take.new.self.stage
    c.self-2.inside.lines.taken c.take.new.self.taken) c.in-Some-2.is c.in_ok-kind.ensures)
    refl c.clear.ensures.items
