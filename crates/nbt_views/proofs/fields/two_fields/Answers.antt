use Rattle.std.proofs.Common.{refl, ap, ◌∙◌, arith}
use Rattle.std.proofs.lemmas.Result.{err_from_is_err_and}
use Rattle.nbt_core.specs.TreeReading.{value_at}
use Rattle.nbt_views.specs.Fields.{two_named}
use Rattle.nbt_views.proofs.NextLemmas.{passed_value}
use Rattle.nbt_views.proofs.FieldLemmas.{one_more, no_field_passed, field_passed, fields_passed}
use Rattle.nbt_views.proofs.FieldLemmas.{fields_no_kind, fields_no_name, fields_no_payload}
use Rattle.nbt_views.proofs.fields.two_fields.Goals as goal

pub loop-kind-init : goal.loop-kind-init
loop-kind-init c = record {
  read = no_field_passed c.args.reader.now.end (value_at c.args.reader.now.end c.args.room)
      (two_named c.args.a.now c.args.b.now) c.args.reader.now.rest.now;
  end = refl;
  shrinks = omega arith;
}

pub returns-in_err-kind-clause-read : goal.returns-in_err-kind-clause-read
returns-in_err-kind-clause-read c =
    let p = err_from_is_err_and c.from_residual.result c.from_residual.ensures.1 in
    rw (p.1, p.2) (fields_no_kind c.args.reader.now.end (value_at c.args.reader.now.end c.args.room)
    (two_named c.args.a.now c.args.b.now) _ c.loop-kind.reader.rest.now _ c.loop-kind.invariant.read
    c.in_err-kind.field-0.0 (rw c.loop-kind.invariant.end at c.in_err-kind.ensures.read))

pub returns-in_err-key-clause-read : goal.returns-in_err-key-clause-read
returns-in_err-key-clause-read c =
    let p = err_from_is_err_and c.from_residual-in_err-key.result c.from_residual-in_err-key.ensures.1 in
    rw (p.1, p.2) (fields_no_name c.args.reader.now.end (value_at c.args.reader.now.end c.args.room)
    (two_named c.args.a.now c.args.b.now) _ c.loop-kind.reader.rest.now _ c.loop-kind.invariant.read
    c.in-Some.kind c.kind.new.self.rest.now c.in_err-key.field-0.0
    (rw (c.in-Some.is, c.loop-kind.invariant.end) at c.in_ok-kind.ensures.read)
    (rw (c.in_ok-kind.ensures.end, c.loop-kind.invariant.end) at c.in_err-key.ensures.read))

pub returns-in_err-skip-clause-read : goal.returns-in_err-skip-clause-read
returns-in_err-skip-clause-read c =
    let p = err_from_is_err_and c.from_residual-in_err-skip.result c.from_residual-in_err-skip.ensures.1 in
    rw (p.1, p.2) (fields_no_payload c.args.reader.now.end (value_at c.args.reader.now.end c.args.room)
    (two_named c.args.a.now c.args.b.now) _ c.loop-kind.reader.rest.now _ c.loop-kind.invariant.read
    c.in-Some.kind c.kind.new.self.rest.now c.in_ok-key.key.now c.text.new.self.rest.now c.in_err-skip.field-0.0
    (rw (c.in-Some.is, c.loop-kind.invariant.end) at c.in_ok-kind.ensures.read)
    (rw (c.in_ok-kind.ensures.end, c.loop-kind.invariant.end) at c.in_ok-key.ensures.read)
    (rw (c.in_ok-key.ensures.end, c.in_ok-kind.ensures.end, c.loop-kind.invariant.end) at c.in_err-skip.ensures.read))

pub loop-kind-preserved : goal.loop-kind-preserved
loop-kind-preserved c =
    let passed = rw (c.in_ok-key.ensures.end, c.in_ok-kind.ensures.end, c.loop-kind.invariant.end)
    at c.in_ok-skip.ensures.read in
    let same_end = c.in_ok-skip.ensures.end ∙ c.in_ok-key.ensures.end ∙ c.in_ok-kind.ensures.end
    ∙ c.loop-kind.invariant.end in
    let value = rw same_end at c.new-value.ensures ∙ passed_value c.args.reader.now.end c.args.room c.in-Some.kind
    c.text.new.self.rest.now c.skip.new.self.rest.now passed in
    let first = one_more c.args.a.now c.in_ok-key.key.now passed.value c.loop-kind.invariant.read.front
    c.new-value.result c.loop-kind.first c.last-first.result value (ap (λ x. x.0) c.loop-kind.invariant.read.told)
    c.last-first.ensures in
    let second = one_more c.args.b.now c.in_ok-key.key.now passed.value c.loop-kind.invariant.read.front
    c.new-value.result c.loop-kind.second c.last-second.result value (ap (λ x. x.1) c.loop-kind.invariant.read.told)
    c.last-second.ensures in
    record {
      read = field_passed c.args.reader.now.end (value_at c.args.reader.now.end c.args.room)
          (two_named c.args.a.now c.args.b.now) _ c.loop-kind.reader.rest.now _ c.loop-kind.invariant.read
          c.in-Some.kind c.kind.new.self.rest.now c.in_ok-key.key.now c.text.new.self.rest.now
          c.skip.new.self.rest.now (rw (c.in-Some.is, c.loop-kind.invariant.end) at c.in_ok-kind.ensures.read)
          (rw (c.in_ok-kind.ensures.end, c.loop-kind.invariant.end) at c.in_ok-key.ensures.read) passed
          (omega (arith, c.in_ok-kind.ensures.takes_one, c.in_ok-key.ensures.shrinks, c.in_ok-skip.ensures.shrinks))
          (c.last-first.result, c.last-second.result)
          (cc (first, second));
      end = same_end;
      shrinks = omega (
        arith,
        c.in_ok-kind.ensures.takes_one,
        c.in_ok-key.ensures.shrinks,
        c.in_ok-skip.ensures.shrinks,
      );
    }

pub returns-clause-read : goal.returns-clause-read
returns-clause-read c = fields_passed c.args.reader.now.end (value_at c.args.reader.now.end c.args.room)
    (two_named c.args.a.now c.args.b.now) _ c.loop-kind.reader.rest.now _ c.loop-kind.invariant.read
    c.kind.new.self.rest.now (rw (c.in_default.is, c.loop-kind.invariant.end) at c.in_ok-kind.ensures.read)
