use Rattle.std.proofs.Common.{◌<◌, Some, None, Option, length, ap, sym, ◌∙◌, arith}
use Rattle.nbt_core.specs.declared.kind.Kind.{Kind}
use Rattle.nbt_core.specs.TreeReading.{value_at}
use Rattle.nbt_core.proofs.PlainLemmas.{given, holds}
use Rattle.nbt_core.proofs.SkipLemmas.{no_member_passed, member_passed, members_passed}
use Rattle.nbt_core.proofs.reader.Reader.past_plain.Goals as goal

pub loop-kind-init : goal.loop-kind-init
loop-kind-init c = record {
  read = rw c.new-reader.ensures.rest (no_member_passed c.args.self.now.end
      (value_at c.args.self.now.end c.args.room) c.args.self.now.rest.now);
  end = c.new-reader.ensures.end;
  shrinks = omega (arith, ap length c.new-reader.ensures.rest);
}

pub loop-kind-preserved : goal.loop-kind-preserved
loop-kind-preserved c =
    let some = sym c.ok.ensures.value ∙ c.in_ok-kind.was ∙ ap (λ (k : Option Kind). Some k) c.in-Some.is in
    let kinded = given (λ kind. kind) c.kind.result (Some c.in-Some.kind) c.kind.new.self.rest.now _ some
    c.kind.ensures.read in
    let fewer = holds (λ _. length c.kind.new.self.rest.now < length c.loop-kind.reader.rest.now) c.kind.result
    (Some c.in-Some.kind) some c.kind.ensures.takes_one in
    let passed = rw (c.kind.ensures.end, c.loop-kind.invariant.end) at c.pass_plain.ensures.read
    c.if-not-pass_plain.false in
    record {
      read = member_passed c.args.self.now.end (value_at c.args.self.now.end c.args.room) c.loop-kind.reader.rest.now _
          c.loop-kind.invariant.read c.in-Some.kind c.kind.new.self.rest.now passed.name passed.payload
          c.pass_plain.new.self.rest.now (rw c.loop-kind.invariant.end at kinded) passed.named passed.whole
          (omega (arith, fewer, c.pass_plain.ensures.shrinks));
      end = c.pass_plain.ensures.end ∙ c.kind.ensures.end ∙ c.loop-kind.invariant.end;
      shrinks = omega (arith, fewer, c.pass_plain.ensures.shrinks);
    }

pub returns-clause-read : goal.returns-clause-read
returns-clause-read c =
    let none = sym c.ok.ensures.value ∙ c.in_ok-kind.was ∙ ap (λ (k : Option Kind). Some k) c.in_default.is in
    let kinded = given (λ kind. kind) c.kind.result None c.kind.new.self.rest.now _ none c.kind.ensures.read in
    members_passed c.args.self.now.end (value_at c.args.self.now.end c.args.room) c.loop-kind.reader.rest.now _
    c.loop-kind.invariant.read c.kind.new.self.rest.now (rw c.loop-kind.invariant.end at kinded)
