use Rattle.std.proofs.Common.{rules, length, ap, sym, arith}
use Rattle.std.specs.Int.{w32}
use Rattle.std.proofs.lemmas.Int.{to_z-of_z}
use Rattle.nbt_views.specs.Parts.{numbers}
use Rattle.nbt_views.proofs.NextLemmas.{passed_value, items_rest, items_first}
use Rattle.nbt_views.proofs.EntryLemmas.{numbers_read}
use Rattle.nbt_views.proofs.items_view.ItemsView.split_numbers.Goals as goal

pub new-others-requires : goal.new-others-requires
new-others-requires c =
    let s = c.self.inside in
    let is = numbers_read s.end s.room c.in-Ok.room s.kind s.rest.now c.triple_named.new.reader.rest.now
    c.int_named.new.reader.rest.now c.kind.new.self.rest.now c.args.a.now c.args.b.now c.in-Some.triple
    c.in-Some-int_named.number (c.is_same.ensures.0 c.if-not-is_same.false) c.in-Ok.ensures.ok
    (rw (c.new-reader.ensures.rest, c.new-reader.ensures.end) at c.in-Some.ensures.read)
    (rw (c.in-Some.ensures.end, c.new-reader.ensures.end) at c.in-Some-int_named.ensures.read)
    (rw (c.in-Ok-None.field-0-is, c.in-Some-int_named.ensures.end, c.in-Some.ensures.end, c.new-reader.ensures.end)
    at c.in-Ok-None.ensures.read) in
    items_rest s.end s.room s.kind s.count s.rest.now c.kind.new.self.rest.now c.self.invariant (omega arith)
    (record { value = numbers c.args.a.now c.args.b.now c.in-Some.triple c.in-Some-int_named.number; is = is })
    (omega (
      arith,
      c.in-Ok-None.ensures.shrinks,
      c.in-Some-int_named.ensures.shrinks,
      c.in-Some.ensures.shrinks,
      ap length c.new-reader.ensures.rest,
      c.self.invariant.within,
    ))

pub returns : goal.returns
returns c =
    let s = c.self.inside in
    let t = numbers c.args.a.now c.args.b.now c.in-Some.triple c.in-Some-int_named.number in
    let is = numbers_read s.end s.room c.in-Ok.room s.kind s.rest.now c.triple_named.new.reader.rest.now
    c.int_named.new.reader.rest.now c.kind.new.self.rest.now c.args.a.now c.args.b.now c.in-Some.triple
    c.in-Some-int_named.number (c.is_same.ensures.0 c.if-not-is_same.false) c.in-Ok.ensures.ok
    (rw (c.new-reader.ensures.rest, c.new-reader.ensures.end) at c.in-Some.ensures.read)
    (rw (c.in-Some.ensures.end, c.new-reader.ensures.end) at c.in-Some-int_named.ensures.read)
    (rw (c.in-Ok-None.field-0-is, c.in-Some-int_named.ensures.end, c.in-Some.ensures.end, c.new-reader.ensures.end)
    at c.in-Ok-None.ensures.read) in
    rw (c.new-others.ensures, to_z-of_z w32 c.in-Some-int_named.number (search rules)) (items_first s.end s.room
    s.kind s.count s.rest.now c.kind.new.self.rest.now c.self.invariant (omega arith)
    (record { value = t; is = is }) c.args.self.now c.self.view_is t
    (sym (passed_value s.end s.room s.kind s.rest.now c.kind.new.self.rest.now (record { value = t; is = is }))))
