use Rattle.std.proofs.Common.{ap, arith, length}
use Rattle.nbt_core.specs.declared.kind.Kind.TheVariants as kinds
use Rattle.nbt_views.proofs.KindLemmas.{no_list}
use Rattle.nbt_views.proofs.ItemLemmas.{none_listed}
use Rattle.nbt_views.proofs.ViewLemmas.{other_kind, list_deep, list_kind_read, list_count_read, list_items}
use Rattle.nbt_views.proofs.ViewLemmas.{list_items_in, no_items_in, none_there}
use Rattle.nbt_views.proofs.view.View.items.Goals as goal

pub returns-then-not-is_same : goal.returns-then-not-is_same
returns-then-not-is_same c =
    let s = c.self.inside in
    no_list c.args.self.now (other_kind s.end s.room s.kind s.rest.now c.self.invariant kinds.List
    c.is_same.result c.args.self.now c.self.view_is c.is_same.ensures c.if-not-is_same.true)

pub returns-in_default : goal.returns-in_default
returns-in_default c =
    let s = c.self.inside in
    absurd (list_deep s.end s.room s.kind s.rest.now c.self.invariant
    (c.is_same.ensures.0 c.if-not-is_same.false) c.in_default.ensures.too_deep.0)

pub returns-in_default-kind : goal.returns-in_default-kind
returns-in_default-kind c =
    let s = c.self.inside in
    absurd (list_kind_read s.end s.room s.kind s.rest.now c.self.invariant c.in-Ok.room
    (c.is_same.ensures.0 c.if-not-is_same.false) c.in-Ok.ensures.ok c.in_default-kind.field-0
    (rw (c.new-reader.ensures.rest, c.new-reader.ensures.end) at c.in_default-kind.ensures.read)
    c.in_default-kind.ensures.no_memory)

pub returns-in_default-count : goal.returns-in_default-count
returns-in_default-count c =
    let s = c.self.inside in
    absurd (list_count_read s.end s.room s.kind s.rest.now c.self.invariant c.in-Ok.room
    (c.is_same.ensures.0 c.if-not-is_same.false) c.in-Ok.ensures.ok c.in-Ok-kind.kind c.kind.new.self.rest.now
    c.in_default-count.field-0
    (rw (c.new-reader.ensures.rest, c.new-reader.ensures.end) at c.in-Ok-kind.ensures.read)
    (rw (c.in-Ok-kind.ensures.end, c.new-reader.ensures.end) at c.in_default-count.ensures.read)
    c.in_default-count.ensures.no_memory)

pub new-requires : goal.new-requires
new-requires c =
    let s = c.self.inside in
    list_items s.end s.room s.kind s.rest.now c.self.invariant c.in-Ok.room
    (c.is_same.ensures.0 c.if-not-is_same.false) c.in-Ok.ensures.ok c.in-Some.kind c.kind.new.self.rest.now
    c.in-Ok-count.count c.count.new.self.rest.now
    (rw (c.in-Some.is, c.new-reader.ensures.rest, c.new-reader.ensures.end) at c.in-Ok-kind.ensures.read)
    (rw (c.in-Ok-kind.ensures.end, c.new-reader.ensures.end) at c.in-Ok-count.ensures.read)
    (omega (
      arith,
      c.in-Ok-kind.ensures.shrinks,
      c.in-Ok-count.ensures.shrinks,
      ap length c.new-reader.ensures.rest,
      c.self.invariant.within,
    ))

pub new-requires-in-None : goal.new-requires-in-None
new-requires-in-None c =
    let s = c.self.inside in
    none_there s.end c.in-Ok.room kinds.Compound c.count.new.self.rest.now
    (omega (
      arith,
      c.in-Ok-kind.ensures.shrinks,
      c.in-Ok-count.ensures.shrinks,
      ap length c.new-reader.ensures.rest,
      c.self.invariant.within,
    )) (omega (arith, c.in-Ok.ensures.ok, c.self.invariant.shallow))

pub returns-in-Some : goal.returns-in-Some
returns-in-Some c =
    let s = c.self.inside in
    rw c.new.ensures (list_items_in s.end s.room s.kind s.rest.now c.self.invariant c.in-Ok.room
    (c.is_same.ensures.0 c.if-not-is_same.false) c.in-Ok.ensures.ok c.in-Some.kind c.kind.new.self.rest.now
    c.in-Ok-count.count c.count.new.self.rest.now
    (rw (c.in-Some.is, c.new-reader.ensures.rest, c.new-reader.ensures.end) at c.in-Ok-kind.ensures.read)
    (rw (c.in-Ok-kind.ensures.end, c.new-reader.ensures.end) at c.in-Ok-count.ensures.read)
    c.args.self.now c.self.view_is)

pub returns-in-None : goal.returns-in-None
returns-in-None c =
    let s = c.self.inside in
    rw (c.new-in-None.ensures, none_listed s.end c.in-Ok.room kinds.Compound c.count.new.self.rest.now)
    (no_items_in s.end s.room s.kind s.rest.now c.self.invariant c.in-Ok.room
    (c.is_same.ensures.0 c.if-not-is_same.false) c.in-Ok.ensures.ok c.kind.new.self.rest.now
    c.in-Ok-count.count c.count.new.self.rest.now
    (rw (c.in-None.is, c.new-reader.ensures.rest, c.new-reader.ensures.end) at c.in-Ok-kind.ensures.read)
    (rw (c.in-Ok-kind.ensures.end, c.new-reader.ensures.end) at c.in-Ok-count.ensures.read)
    c.args.self.now c.self.view_is)
