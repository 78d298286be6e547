use Rattle.std.proofs.Common.{refl, ◌∙◌, arith}
use Rattle.std.proofs.lemmas.Result.{err_from_is_err_and}
use Rattle.nbt_core.specs.Value.{items_of, members_of}
use Rattle.nbt_core.specs.View.{nbt, nbts, entries_of}
use Rattle.nbt_core.specs.TreeReading.{value_at}
use Rattle.nbt_core.proofs.ItemsLoop.{items-push, items_go_on, items_end, items_done}
use Rattle.nbt_core.proofs.MembersLoop.{members-push, members_go_on, members_done, members_no_kind, members_no_name}
use Rattle.nbt_core.proofs.MembersLoop.{members_no_payload}
use Rattle.nbt_core.proofs.ListLemmas.{list_no_kind, list_no_count, list_no_items, list_full, list_empty, list_bad}
use Rattle.nbt_core.proofs.ListLemmas.{compound_full, compound_fails}
use Rattle.nbt_core.proofs.Steps.{value_leaf, value_list, value_compound, value_too_deep_list, value_too_deep_compound}
use Rattle.nbt_core.proofs.reader.Reader.+payload.Goals as goal

pub items-returns-in_err-tag-clause-read : goal.items-returns-in_err-tag-clause-read
items-returns-in_err-tag-clause-read t c =
    let p = err_from_is_err_and c.from_residual.result c.from_residual.ensures.1 in
    rw (p.1, p.2) (items_end (value_at c.args.self.now.end c.args.room c.args.kind)
    (items_of (nbts c.loop.items.items)) c.args.count c.loop.counter c.loop.self.rest.now _ c.loop.invariant.read
    c.in_err-tag.field-0.0 c.loop-test.true (rw c.loop.invariant.end at c.in_err-tag.ensures.read))

pub items-loop-preserved : goal.items-loop-preserved
items-loop-preserved t c = record {
  read = rw (c.in_ok-push.ensures.items, items-push c.loop.items.items c.in_ok-tag.tag)
      (items_go_on (value_at c.args.self.now.end c.args.room c.args.kind)
      (items_of (nbts c.loop.items.items)) c.args.count c.loop.counter c.loop.self.rest.now _ c.loop.invariant.read
      (nbt c.in_ok-tag.tag) c.payload.new.self.rest.now c.loop-test.true
      (rw c.loop.invariant.end at c.in_ok-tag.ensures.read));
  end = c.in_ok-tag.ensures.end ∙ c.loop.invariant.end;
  shrinks = omega (arith, c.in_ok-tag.ensures.shrinks);
}

pub items-returns-clause-read : goal.items-returns-clause-read
items-returns-clause-read t c = items_done (value_at c.args.self.now.end c.args.room c.args.kind) _
    c.args.count c.loop.counter c.loop.self.rest.now _ c.loop.invariant.read c.loop-test.false

pub list-returns-in_err-kind-clause-read : goal.list-returns-in_err-kind-clause-read
list-returns-in_err-kind-clause-read t c =
    let p = err_from_is_err_and c.from_residual.result c.from_residual.ensures.1 in
    rw (p.1, p.2) (list_no_kind c.args.self.now.end (value_at c.args.self.now.end c.args.room)
    c.args.self.now.rest.now c.in_err-kind.field-0.0 c.in_err-kind.ensures.read)

pub list-returns-in_err-count-clause-read : goal.list-returns-in_err-count-clause-read
list-returns-in_err-count-clause-read t c =
    let p = err_from_is_err_and c.from_residual-in_err-count.result c.from_residual-in_err-count.ensures.1 in
    rw (p.1, p.2) (list_no_count c.args.self.now.end (value_at c.args.self.now.end c.args.room)
    c.args.self.now.rest.now c.in_ok-kind.kind c.kind.new.self.rest.now c.in_err-count.field-0.0
    c.in_ok-kind.ensures.read (rw c.in_ok-kind.ensures.end at c.in_err-count.ensures.read))

pub list-returns-in_err-items-in-Some-clause-read : goal.list-returns-in_err-items-in-Some-clause-read
list-returns-in_err-items-in-Some-clause-read t c =
    let p = err_from_is_err_and c.from_residual-in_err-items-in-Some.result
    c.from_residual-in_err-items-in-Some.ensures.1 in
    rw (p.1, p.2) (list_no_items c.args.self.now.end (value_at c.args.self.now.end c.args.room)
    c.args.self.now.rest.now c.in-Some.kind c.kind.new.self.rest.now c.in_ok-count.count c.count.new.self.rest.now
    c.in_err-items-in-Some.field-0.0 (rw c.in-Some.is at c.in_ok-kind.ensures.read)
    (rw c.in_ok-kind.ensures.end at c.in_ok-count.ensures.read)
    (rw (c.in_ok-count.ensures.end, c.in_ok-kind.ensures.end) at c.in_err-items-in-Some.ensures.read))

pub list-returns-in-None-2-clause-read : goal.list-returns-in-None-2-clause-read
list-returns-in-None-2-clause-read t c =
    rw (c.place-at.ensures, c.in_ok-kind.ensures.end) (list_bad c.args.self.now.end
    (value_at c.args.self.now.end c.args.room) c.args.self.now.rest.now c.kind.new.self.rest.now
    c.in_ok-count.count c.count.new.self.rest.now (rw c.in-None.is at c.in_ok-kind.ensures.read)
    (rw c.in_ok-kind.ensures.end at c.in_ok-count.ensures.read) c.if-count-eq0.false)

pub list-returns-in_ok-items-in-Some-clause-read : goal.list-returns-in_ok-items-in-Some-clause-read
list-returns-in_ok-items-in-Some-clause-read t c =
    rw c.from_vec.ensures (list_full c.args.self.now.end (value_at c.args.self.now.end c.args.room)
    c.args.self.now.rest.now c.in-Some.kind c.kind.new.self.rest.now c.in_ok-count.count c.count.new.self.rest.now
    (items_of (nbts c.in_ok-items-in-Some.items.items)) c.items.new.self.rest.now
    (rw c.in-Some.is at c.in_ok-kind.ensures.read) (rw c.in_ok-kind.ensures.end at c.in_ok-count.ensures.read)
    (rw (c.in_ok-count.ensures.end, c.in_ok-kind.ensures.end) at c.in_ok-items-in-Some.ensures.read))

pub list-returns-in-None-clause-read : goal.list-returns-in-None-clause-read
list-returns-in-None-clause-read t c =
    rw (c.from_vec-in-None.ensures, c.new.ensures.items) (list_empty c.args.self.now.end
    (value_at c.args.self.now.end c.args.room) c.args.self.now.rest.now c.kind.new.self.rest.now
    c.in_ok-count.count c.count.new.self.rest.now (rw c.in-None.is at c.in_ok-kind.ensures.read)
    (rw c.in_ok-kind.ensures.end at c.in_ok-count.ensures.read) c.if-count-eq0.true)

pub entries-returns-in_err-kind-clause-read : goal.entries-returns-in_err-kind-clause-read
entries-returns-in_err-kind-clause-read t c =
    let p = err_from_is_err_and c.from_residual.result c.from_residual.ensures.1 in
    rw (p.1, p.2) (members_no_kind c.args.self.now.end (value_at c.args.self.now.end c.args.room)
    (members_of (entries_of c.loop-entries.entries.items)) c.loop-entries.self.rest.now _
    c.loop-entries.invariant.read c.in_err-kind.field-0.0
    (rw c.loop-entries.invariant.end at c.in_err-kind.ensures.read))

pub entries-returns-in_err-text-clause-read : goal.entries-returns-in_err-text-clause-read
entries-returns-in_err-text-clause-read t c =
    let p = err_from_is_err_and c.from_residual-in_err-text.result c.from_residual-in_err-text.ensures.1 in
    rw (p.1, p.2) (members_no_name c.args.self.now.end (value_at c.args.self.now.end c.args.room)
    (members_of (entries_of c.loop-entries.entries.items)) c.loop-entries.self.rest.now _
    c.loop-entries.invariant.read c.in-Some.kind c.kind.new.self.rest.now c.in_err-text.field-0.0
    (rw (c.in-Some.is, c.loop-entries.invariant.end) at c.in_ok-kind.ensures.read)
    (rw (c.in_ok-kind.ensures.end, c.loop-entries.invariant.end) at c.in_err-text.ensures.read))

pub entries-returns-in_err-tag-clause-read : goal.entries-returns-in_err-tag-clause-read
entries-returns-in_err-tag-clause-read t c =
    let p = err_from_is_err_and c.from_residual-in_err-tag.result c.from_residual-in_err-tag.ensures.1 in
    rw (p.1, p.2) (members_no_payload c.args.self.now.end (value_at c.args.self.now.end c.args.room)
    (members_of (entries_of c.loop-entries.entries.items)) c.loop-entries.self.rest.now _
    c.loop-entries.invariant.read c.in-Some.kind c.kind.new.self.rest.now c.in_ok-text.field-0.now
    c.text.new.self.rest.now c.in_err-tag.field-0.0 (rw (c.in-Some.is, c.loop-entries.invariant.end)
    at c.in_ok-kind.ensures.read) (rw (c.in_ok-kind.ensures.end, c.loop-entries.invariant.end)
    at c.in_ok-text.ensures.read) (rw (
      c.in_ok-text.ensures.end,
      c.in_ok-kind.ensures.end,
      c.loop-entries.invariant.end,
    ) at c.in_err-tag.ensures.read))

pub entries-loop-entries-preserved : goal.entries-loop-entries-preserved
entries-loop-entries-preserved t c = record {
  read = rw (
    c.in_ok-push_entry.ensures.added,
    members-push c.loop-entries.entries.items (c.from_vec-name.result, c.in_ok-tag.tag),
    c.from_vec-name.ensures,
    c.in_ok-from_slice.ensures.items,
  )
      (members_go_on c.args.self.now.end (value_at c.args.self.now.end c.args.room)
      (members_of (entries_of c.loop-entries.entries.items)) c.loop-entries.self.rest.now _
      c.loop-entries.invariant.read c.in-Some.kind c.kind.new.self.rest.now c.in_ok-text.field-0.now
      c.text.new.self.rest.now (nbt c.in_ok-tag.tag) c.payload.new.self.rest.now
      (rw (c.in-Some.is, c.loop-entries.invariant.end) at c.in_ok-kind.ensures.read)
      (rw (c.in_ok-kind.ensures.end, c.loop-entries.invariant.end) at c.in_ok-text.ensures.read)
      (rw (c.in_ok-text.ensures.end, c.in_ok-kind.ensures.end, c.loop-entries.invariant.end)
      at c.in_ok-tag.ensures.read) (omega (
        arith,
        c.in_ok-kind.ensures.takes_one,
        c.in_ok-text.ensures.shrinks,
        c.in_ok-tag.ensures.shrinks,
      )));
  end = c.in_ok-tag.ensures.end ∙ c.in_ok-text.ensures.end ∙ c.in_ok-kind.ensures.end ∙ c.loop-entries.invariant.end;
  shrinks = omega (arith, c.in_ok-kind.ensures.takes_one, c.in_ok-text.ensures.shrinks, c.in_ok-tag.ensures.shrinks);
}

pub entries-returns-clause-read : goal.entries-returns-clause-read
entries-returns-clause-read t c = members_done c.args.self.now.end (value_at c.args.self.now.end c.args.room)
    (members_of (entries_of c.loop-entries.entries.items)) c.loop-entries.self.rest.now _
    c.loop-entries.invariant.read c.kind.new.self.rest.now (rw (c.in_default.is, c.loop-entries.invariant.end)
    at c.in_ok-kind.ensures.read)

pub payload-returns-in_err-room-in-List-clause-read : goal.payload-returns-in_err-room-in-List-clause-read
payload-returns-in_err-room-in-List-clause-read t c =
    let p = err_from_is_err_and c.from_residual.result c.from_residual.ensures.1 in
    rw (p.1, p.2) (rw (
      c.in-List.is,
      value_too_deep_list c.args.self.now.end c.args.self.now.rest.now c.args.room
          c.in_err-room-in-List.ensures.too_deep.0,
      c.in_err-room-in-List.ensures.too_deep.1,
    ) refl)

pub payload-returns-in_err-room-in-Compound-clause-read : goal.payload-returns-in_err-room-in-Compound-clause-read
payload-returns-in_err-room-in-Compound-clause-read t c =
    let p = err_from_is_err_and c.from_residual-in_err-room-in-Compound.result
    c.from_residual-in_err-room-in-Compound.ensures.1 in
    rw (p.1, p.2) (rw (
      c.in-Compound.is,
      value_too_deep_compound c.args.self.now.end c.args.self.now.rest.now
          c.args.room c.in_err-room-in-Compound.ensures.too_deep.0,
      c.in_err-room-in-Compound.ensures.too_deep.1,
    ) refl)

pub payload-returns-in_err-entries-in-Compound-clause-read : goal.payload-returns-in_err-entries-in-Compound-clause-read
payload-returns-in_err-entries-in-Compound-clause-read t c =
    let p = err_from_is_err_and c.from_residual-in_err-entries-in-Compound.result
    c.from_residual-in_err-entries-in-Compound.ensures.1 in
    rw (p.1, p.2) (rw (
      c.in-Compound.is,
      value_compound c.args.self.now.end c.args.self.now.rest.now c.args.room
          c.in_ok-room-in-Compound.room c.in_ok-room-in-Compound.ensures.ok,
    )
    (compound_fails c.args.self.now.end (value_at c.args.self.now.end c.in_ok-room-in-Compound.room)
    c.args.self.now.rest.now c.in_err-entries-in-Compound.field-0.0 c.in_err-entries-in-Compound.ensures.read))

pub payload-returns-in-Leaf-clause-read : goal.payload-returns-in-Leaf-clause-read
payload-returns-in-Leaf-clause-read t c = rw (
  c.in-Leaf.is,
  value_leaf c.args.self.now.end c.args.self.now.rest.now c.args.room c.in-Leaf.kind,
) c.leaf.ensures.read

pub payload-returns-in_ok-room-in-List-clause-read : goal.payload-returns-in_ok-room-in-List-clause-read
payload-returns-in_ok-room-in-List-clause-read t c =
    rw (
      c.in-List.is,
      value_list c.args.self.now.end c.args.self.now.rest.now c.args.room c.in_ok-room-in-List.room
          c.in_ok-room-in-List.ensures.ok,
    ) c.list.ensures.read

pub payload-returns-in_ok-entries-in-Compound-clause-read : goal.payload-returns-in_ok-entries-in-Compound-clause-read
payload-returns-in_ok-entries-in-Compound-clause-read t c =
    rw (
      c.in-Compound.is,
      value_compound c.args.self.now.end c.args.self.now.rest.now c.args.room
          c.in_ok-room-in-Compound.room c.in_ok-room-in-Compound.ensures.ok,
      c.from_vec.ensures,
    )
    (compound_full c.args.self.now.end (value_at c.args.self.now.end c.in_ok-room-in-Compound.room)
    c.args.self.now.rest.now (members_of (entries_of c.in_ok-entries-in-Compound.entries.items))
    c.entries.new.self.rest.now c.in_ok-entries-in-Compound.ensures.read)
