use Rattle.std.proofs.Common.{length, ap, sym, ◌∙◌, arith}
use Rattle.nbt_core.specs.TreeReading.{value_at}
use Rattle.nbt_views.proofs.MemberLemmas.{no_member_left, member_kind_read, member_name_read, member_payload_read}
use Rattle.nbt_views.proofs.NextLemmas.{entries_rest, entries_first}
use Rattle.nbt_views.proofs.entries_view.EntriesView.next.Goals as goal

pub returns-in_default : goal.returns-in_default
returns-in_default c =
    let s = c.self.inside in
    absurd (member_kind_read s.end (value_at s.end s.room) s.end s.rest.now c.self.invariant.whole
    c.in_default.field-0 (rw (c.new-reader.ensures.rest, c.new-reader.ensures.end) at c.in_default.ensures.read)
    c.in_default.ensures.no_memory)

pub returns-in_default-kind : goal.returns-in_default-kind
returns-in_default-kind c =
    let s = c.self.inside in
    let none = sym c.self.view_is ∙ no_member_left s.end (value_at s.end s.room) s.end s.rest.now
    c.kind.new.self.rest.now
    (rw (c.in_default-kind.is, c.new-reader.ensures.rest, c.new-reader.ensures.end) at c.in-Ok.ensures.read) in
    (none, none)

pub returns-in_default-text : goal.returns-in_default-text
returns-in_default-text c =
    let s = c.self.inside in
    absurd (member_name_read s.end (value_at s.end s.room) s.end s.rest.now c.self.invariant.whole
    c.in-Some.kind c.kind.new.self.rest.now c.in_default-text.field-0
    (rw (c.in-Some.is, c.new-reader.ensures.rest, c.new-reader.ensures.end) at c.in-Ok.ensures.read)
    (rw (c.in-Ok.ensures.end, c.new-reader.ensures.end) at c.in_default-text.ensures.read)
    c.in_default-text.ensures.no_memory)

pub returns-in_default-skip : goal.returns-in_default-skip
returns-in_default-skip c =
    let s = c.self.inside in
    absurd (member_payload_read s.end (value_at s.end s.room) s.end s.rest.now c.self.invariant.whole
    c.in-Some.kind c.kind.new.self.rest.now c.in-Ok-text.name.now c.text.new.self.rest.now
    c.in_default-skip.field-0
    (rw (c.in-Some.is, c.new-reader.ensures.rest, c.new-reader.ensures.end) at c.in-Ok.ensures.read)
    (rw (c.in-Ok.ensures.end, c.new-reader.ensures.end) at c.in-Ok-text.ensures.read)
    (rw (c.in-Ok-text.ensures.end, c.in-Ok.ensures.end, c.new-reader.ensures.end) at c.in_default-skip.ensures.read)
    c.in_default-skip.ensures.no_memory)

pub invariant_of-self : goal.invariant_of-self
invariant_of-self c =
    let s = c.self.inside in
    entries_rest s.end s.room s.rest.now c.self.invariant
    c.in-Some.kind c.kind.new.self.rest.now c.in-Ok-text.name.now c.text.new.self.rest.now c.skip.new.self.rest.now
    (rw (c.in-Some.is, c.new-reader.ensures.rest, c.new-reader.ensures.end) at c.in-Ok.ensures.read)
    (rw (c.in-Ok.ensures.end, c.new-reader.ensures.end) at c.in-Ok-text.ensures.read)
    (rw (c.in-Ok-text.ensures.end, c.in-Ok.ensures.end, c.new-reader.ensures.end) at c.in-Ok-skip.ensures.read)
    (omega (
      arith,
      c.in-Ok.ensures.shrinks,
      c.in-Ok-text.ensures.shrinks,
      c.in-Ok-skip.ensures.shrinks,
      ap length c.new-reader.ensures.rest,
      c.self.invariant.within,
    ))

pub returns : goal.returns
returns c =
    let s = c.self.inside in
    entries_first s.end s.room s.rest.now c.self.invariant
    c.in-Some.kind c.kind.new.self.rest.now c.in-Ok-text.name.now c.text.new.self.rest.now c.skip.new.self.rest.now
    (rw (c.in-Some.is, c.new-reader.ensures.rest, c.new-reader.ensures.end) at c.in-Ok.ensures.read)
    (rw (c.in-Ok.ensures.end, c.new-reader.ensures.end) at c.in-Ok-text.ensures.read)
    (rw (c.in-Ok-text.ensures.end, c.in-Ok.ensures.end, c.new-reader.ensures.end) at c.in-Ok-skip.ensures.read)
    c.args.self.now c.self.view_is c.new.result c.new.ensures
