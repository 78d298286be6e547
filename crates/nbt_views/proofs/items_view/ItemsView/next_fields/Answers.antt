use Rattle.std.proofs.Common.{length, ap, sym, arith}
use Rattle.nbt_core.specs.TreeReading.{value_at}
use Rattle.nbt_views.specs.Fields.{two_fields}
use Rattle.nbt_views.proofs.ItemLemmas.{item_read, items_none}
use Rattle.nbt_views.proofs.NextLemmas.{passed_value, items_rest, items_first}
use Rattle.nbt_views.proofs.FieldViews.{fields_read, fields_fail}
use Rattle.nbt_views.proofs.items_view.ItemsView.next_fields.Goals as goal

pub returns-then-self-eq0 : goal.returns-then-self-eq0
returns-then-self-eq0 c =
    let s = c.self.inside in
    let none = items_none s.end s.room s.kind s.count s.rest.now c.args.self.now c.self.view_is c.if-self-eq0.true in
    (none, none)

pub returns-in_default : goal.returns-in_default
returns-in_default c =
    let s = c.self.inside in
    absurd (item_read (value_at s.end s.room s.kind) s.count s.rest.now
    c.in_default.field-0 (omega arith) c.self.invariant.whole
    (fields_fail (two_fields c.args.a.now c.args.b.now) (value_at s.end s.room s.kind s.rest.now)
    c.in_default.field-0 (rw (c.new-reader.ensures.rest, c.new-reader.ensures.end) at c.in_default.ensures.read))
    c.in_default.ensures.no_memory)

pub invariant_of-self : goal.invariant_of-self
invariant_of-self c =
    let s = c.self.inside in
    let read = fields_read (two_fields c.args.a.now c.args.b.now) (value_at s.end s.room s.kind s.rest.now)
    c.in-Ok.found c.fields_of.new.reader.rest.now
    (rw (c.new-reader.ensures.rest, c.new-reader.ensures.end) at c.in-Ok.ensures.read) in
    items_rest s.end s.room s.kind s.count s.rest.now c.fields_of.new.reader.rest.now c.self.invariant (omega arith)
    read.passed
    (omega (arith, c.in-Ok.ensures.shrinks, ap length c.new-reader.ensures.rest, c.self.invariant.within))

pub returns : goal.returns
returns c =
    let s = c.self.inside in
    let read = fields_read (two_fields c.args.a.now c.args.b.now) (value_at s.end s.room s.kind s.rest.now)
    c.in-Ok.found c.fields_of.new.reader.rest.now
    (rw (c.new-reader.ensures.rest, c.new-reader.ensures.end) at c.in-Ok.ensures.read) in (
      read.passed.value,
      items_first s.end s.room s.kind s.count s.rest.now c.fields_of.new.reader.rest.now c.self.invariant (omega arith)
          read.passed c.args.self.now c.self.view_is read.passed.value
          (sym (passed_value s.end s.room s.kind s.rest.now c.fields_of.new.reader.rest.now read.passed)),
      read.told,
    )
