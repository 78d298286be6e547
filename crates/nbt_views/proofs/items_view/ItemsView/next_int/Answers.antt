use Rattle.std.proofs.Common.{rules, length, ap, refl, sym, arith}
use Rattle.std.specs.Int.{w32}
use Rattle.std.proofs.lemmas.Int.{to_z-of_z}
use Rattle.nbt_core.specs.Value.{leaf}
use Rattle.nbt_core.specs.Value as values
use Rattle.nbt_core.specs.TreeReading.{value_at}
use Rattle.nbt_views.proofs.ItemLemmas.{item_read, items_none}
use Rattle.nbt_views.proofs.ViewLemmas.{int_fails}
use Rattle.nbt_views.proofs.NextLemmas.{passed_value, items_rest, items_first}
use Rattle.nbt_views.proofs.IntItems.{int_passed, no_first_int, other_first}
use Rattle.nbt_views.proofs.items_view.ItemsView.next_int.Goals as goal

pub returns-then-self-eq0 : goal.returns-then-self-eq0
returns-then-self-eq0 c =
    let s = c.self.inside in (
      no_first_int c.args.self.now (items_none s.end s.room s.kind s.count s.rest.now c.args.self.now c.self.view_is
          c.if-self-eq0.true),
      refl,
    )

pub returns-then-not-is_same : goal.returns-then-not-is_same
returns-then-not-is_same c =
    let s = c.self.inside in (
      other_first s.end s.room s.kind s.count s.rest.now c.is_same.result c.self.invariant (omega arith)
          c.is_same.ensures c.if-not-is_same.true c.args.self.now c.self.view_is,
      refl,
    )

pub returns-in_default : goal.returns-in_default
returns-in_default c =
    let s = c.self.inside in
    absurd (item_read (value_at s.end s.room s.kind) s.count s.rest.now
    c.in_default.field-0 (omega arith) c.self.invariant.whole
    (rw (c.is_same.ensures.0 c.if-not-is_same.false) (int_fails s.end s.room s.rest.now c.in_default.field-0
    (rw (c.new-reader.ensures.rest, c.new-reader.ensures.end) at c.in_default.ensures.read)))
    c.in_default.ensures.no_memory)

pub invariant_of-self : goal.invariant_of-self
invariant_of-self c =
    let s = c.self.inside in
    let is = int_passed s.end s.room s.kind s.rest.now c.in-Ok.number c.int.new.self.rest.now
    (c.is_same.ensures.0 c.if-not-is_same.false)
    (rw (c.new-reader.ensures.rest, c.new-reader.ensures.end) at c.in-Ok.ensures.read) in
    items_rest s.end s.room s.kind s.count s.rest.now c.int.new.self.rest.now c.self.invariant (omega arith)
    (record { value = leaf (values.int c.in-Ok.number); is = is })
    (omega (arith, c.in-Ok.ensures.shrinks, ap length c.new-reader.ensures.rest, c.self.invariant.within))

pub returns : goal.returns
returns c =
    let s = c.self.inside in
    let is = int_passed s.end s.room s.kind s.rest.now c.in-Ok.number c.int.new.self.rest.now
    (c.is_same.ensures.0 c.if-not-is_same.false)
    (rw (c.new-reader.ensures.rest, c.new-reader.ensures.end) at c.in-Ok.ensures.read) in
    rw (to_z-of_z w32 c.in-Ok.number (search rules)) (items_first s.end s.room s.kind s.count s.rest.now
    c.int.new.self.rest.now c.self.invariant (omega arith)
    (record { value = leaf (values.int c.in-Ok.number); is = is }) c.args.self.now c.self.view_is
    (leaf (values.int c.in-Ok.number)) (sym (passed_value s.end s.room s.kind s.rest.now c.int.new.self.rest.now
    (record { value = leaf (values.int c.in-Ok.number); is = is }))))
