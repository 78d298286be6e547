use Rattle.std.proofs.Common.{ℕ, ◌*◌, Ok, refl, sym, ◌∙◌, arith}
use Rattle.std.proofs.lemmas.Result.{err_from_is_err_and}
use Rattle.nbt_core.specs.Value.{leaf}
use Rattle.nbt_core.specs.LeafReading.{leaf_at}
use Rattle.nbt_core.specs.TreeReading.{items_at, value_at}
use Rattle.nbt_core.proofs.FixedItems.{fixed_value, fixed_items, fixed_skips}
use Rattle.nbt_core.proofs.ItemsLoop.{items_end}
use Rattle.nbt_core.proofs.MembersLoop.{members_no_kind, members_no_name, members_no_payload}
use Rattle.nbt_core.proofs.ListLemmas.{list_no_kind, list_no_count, list_bad}
use Rattle.nbt_core.proofs.SkipLemmas.{skips_mapped, none_passed, item_passed, items_passed, no_member_passed}
use Rattle.nbt_core.proofs.SkipLemmas.{member_passed, members_passed, list_passed, list_none, compound_passed}
use Rattle.nbt_core.proofs.Steps.{value_leaf, value_list, value_compound, value_too_deep_list, value_too_deep_compound}
use Rattle.nbt_core.proofs.reader.Reader.+skip.Goals as goal

pub skip-returns-in_err-room-in-List-clause-read : goal.skip-returns-in_err-room-in-List-clause-read
skip-returns-in_err-room-in-List-clause-read t c =
    let p = err_from_is_err_and c.from_residual.result c.from_residual.ensures.1 in
    rw (p.1, p.2) (rw (
      c.in-List.is,
      value_too_deep_list c.args.self.now.end c.args.self.now.rest.now c.args.room
          c.in_err-room-in-List.ensures.too_deep.0,
      c.in_err-room-in-List.ensures.too_deep.1,
    ) refl)

pub skip-returns-in_err-room-in-Compound-clause-read : goal.skip-returns-in_err-room-in-Compound-clause-read
skip-returns-in_err-room-in-Compound-clause-read t c =
    let p = err_from_is_err_and c.from_residual-in_err-room-in-Compound.result
    c.from_residual-in_err-room-in-Compound.ensures.1 in
    rw (p.1, p.2) (rw (
      c.in-Compound.is,
      value_too_deep_compound c.args.self.now.end c.args.self.now.rest.now
          c.args.room c.in_err-room-in-Compound.ensures.too_deep.0,
      c.in_err-room-in-Compound.ensures.too_deep.1,
    ) refl)

pub skip-returns-in-Leaf-clause-read : goal.skip-returns-in-Leaf-clause-read
skip-returns-in-Leaf-clause-read t c = rw (
  c.in-Leaf.is,
  value_leaf c.args.self.now.end c.args.self.now.rest.now c.args.room c.in-Leaf.kind,
) (skips_mapped leaf c.skip_leaf.result c.skip_leaf.new.self.rest.now
    (leaf_at c.args.self.now.end c.in-Leaf.kind c.args.self.now.rest.now) c.skip_leaf.ensures.read)

pub skip-returns-in_ok-room-in-List-clause-read : goal.skip-returns-in_ok-room-in-List-clause-read
skip-returns-in_ok-room-in-List-clause-read t c =
    rw (
      c.in-List.is,
      value_list c.args.self.now.end c.args.self.now.rest.now c.args.room c.in_ok-room-in-List.room
          c.in_ok-room-in-List.ensures.ok,
    ) c.skip_list.ensures.read

pub skip-returns-in-Some-clause-read : goal.skip-returns-in-Some-clause-read
skip-returns-in-Some-clause-read t c =
    rw (
      c.in-Compound.is,
      value_compound c.args.self.now.end c.args.self.now.rest.now c.args.room
          c.in_ok-room-in-Compound.room c.in_ok-room-in-Compound.ensures.ok,
    )
    (compound_passed c.args.self.now.end (value_at c.args.self.now.end c.in_ok-room-in-Compound.room)
    c.args.self.now.rest.now {X = ℕ} (Ok 0) c.in-Some.rest.now c.in-Some.ensures.read)

pub skip-returns-in-None-clause-read : goal.skip-returns-in-None-clause-read
skip-returns-in-None-clause-read t c =
    rw (
      c.in-Compound.is,
      value_compound c.args.self.now.end c.args.self.now.rest.now c.args.room
          c.in_ok-room-in-Compound.room c.in_ok-room-in-Compound.ensures.ok,
    )
    (compound_passed c.args.self.now.end (value_at c.args.self.now.end c.in_ok-room-in-Compound.room)
    c.args.self.now.rest.now c.skip_entries.result c.skip_entries.new.self.rest.now c.skip_entries.ensures.read)

pub skip_entries-loop-kind-init : goal.skip_entries-loop-kind-init
skip_entries-loop-kind-init t c = record {
  read = no_member_passed c.args.self.now.end (value_at c.args.self.now.end c.args.room) c.args.self.now.rest.now;
  end = refl;
  shrinks = omega arith;
}

pub skip_entries-returns-in_err-kind-clause-read : goal.skip_entries-returns-in_err-kind-clause-read
skip_entries-returns-in_err-kind-clause-read t c =
    let p = err_from_is_err_and c.from_residual.result c.from_residual.ensures.1 in
    rw (p.1, p.2) (members_no_kind c.args.self.now.end (value_at c.args.self.now.end c.args.room)
    c.loop-kind.invariant.read.front c.loop-kind.self.rest.now _
    c.loop-kind.invariant.read.so_far c.in_err-kind.field-0.0
    (rw c.loop-kind.invariant.end at c.in_err-kind.ensures.read))

pub skip_entries-returns-in_err-text-clause-read : goal.skip_entries-returns-in_err-text-clause-read
skip_entries-returns-in_err-text-clause-read t c =
    let p = err_from_is_err_and c.from_residual-in_err-text.result c.from_residual-in_err-text.ensures.1 in
    rw (p.1, p.2) (members_no_name c.args.self.now.end (value_at c.args.self.now.end c.args.room)
    c.loop-kind.invariant.read.front c.loop-kind.self.rest.now _
    c.loop-kind.invariant.read.so_far c.in-Some.kind c.kind.new.self.rest.now c.in_err-text.field-0.0
    (rw (c.in-Some.is, c.loop-kind.invariant.end) at c.in_ok-kind.ensures.read)
    (rw (c.in_ok-kind.ensures.end, c.loop-kind.invariant.end) at c.in_err-text.ensures.read))

pub skip_entries-returns-in_err-skip-clause-read : goal.skip_entries-returns-in_err-skip-clause-read
skip_entries-returns-in_err-skip-clause-read t c =
    let p = err_from_is_err_and c.from_residual-in_err-skip.result c.from_residual-in_err-skip.ensures.1 in
    rw (p.1, p.2) (members_no_payload c.args.self.now.end (value_at c.args.self.now.end c.args.room)
    c.loop-kind.invariant.read.front c.loop-kind.self.rest.now _
    c.loop-kind.invariant.read.so_far c.in-Some.kind c.kind.new.self.rest.now c.in_ok-text.field-0.now
    c.text.new.self.rest.now c.in_err-skip.field-0.0 (rw (c.in-Some.is, c.loop-kind.invariant.end)
    at c.in_ok-kind.ensures.read) (rw (c.in_ok-kind.ensures.end, c.loop-kind.invariant.end)
    at c.in_ok-text.ensures.read) (rw (
      c.in_ok-text.ensures.end,
      c.in_ok-kind.ensures.end,
      c.loop-kind.invariant.end,
    ) at c.in_err-skip.ensures.read))

pub skip_entries-loop-kind-preserved : goal.skip_entries-loop-kind-preserved
skip_entries-loop-kind-preserved t c = record {
  read = member_passed c.args.self.now.end (value_at c.args.self.now.end c.args.room) c.loop-kind.self.rest.now _
      c.loop-kind.invariant.read c.in-Some.kind c.kind.new.self.rest.now c.in_ok-text.field-0.now
      c.text.new.self.rest.now c.skip.new.self.rest.now
      (rw (c.in-Some.is, c.loop-kind.invariant.end) at c.in_ok-kind.ensures.read)
      (rw (c.in_ok-kind.ensures.end, c.loop-kind.invariant.end) at c.in_ok-text.ensures.read)
      (rw (c.in_ok-text.ensures.end, c.in_ok-kind.ensures.end, c.loop-kind.invariant.end)
      at c.in_ok-skip.ensures.read) (omega (
        arith,
        c.in_ok-kind.ensures.takes_one,
        c.in_ok-text.ensures.shrinks,
        c.in_ok-skip.ensures.shrinks,
      ));
  end = c.in_ok-skip.ensures.end ∙ c.in_ok-text.ensures.end ∙ c.in_ok-kind.ensures.end ∙ c.loop-kind.invariant.end;
  shrinks = omega (arith, c.in_ok-kind.ensures.takes_one, c.in_ok-text.ensures.shrinks, c.in_ok-skip.ensures.shrinks);
}

pub skip_entries-returns-clause-read : goal.skip_entries-returns-clause-read
skip_entries-returns-clause-read t c = members_passed c.args.self.now.end
    (value_at c.args.self.now.end c.args.room) c.loop-kind.self.rest.now _ c.loop-kind.invariant.read
    c.kind.new.self.rest.now (rw (c.in_default.is, c.loop-kind.invariant.end) at c.in_ok-kind.ensures.read)

pub skip_each-loop-init : goal.skip_each-loop-init
skip_each-loop-init t c = record {
  read = none_passed (value_at c.args.self.now.end c.args.room c.args.kind) c.args.count c.args.self.now.rest.now;
  end = refl;
  shrinks = omega arith;
}

pub skip_each-returns-in_err-skip-clause-read : goal.skip_each-returns-in_err-skip-clause-read
skip_each-returns-in_err-skip-clause-read t c =
    let p = err_from_is_err_and c.from_residual.result c.from_residual.ensures.1 in
    rw (p.1, p.2) (items_end (value_at c.args.self.now.end c.args.room c.args.kind)
    c.loop.invariant.read.front c.args.count c.loop.counter c.loop.self.rest.now _ c.loop.invariant.read.read
    c.in_err-skip.field-0.0 c.loop-test.true (rw c.loop.invariant.end at c.in_err-skip.ensures.read))

pub skip_each-loop-preserved : goal.skip_each-loop-preserved
skip_each-loop-preserved t c = record {
  read = item_passed (value_at c.args.self.now.end c.args.room c.args.kind) c.args.count c.loop.counter
      c.loop.self.rest.now _ c.loop.invariant.read c.skip.new.self.rest.now c.loop-test.true
      (rw c.loop.invariant.end at c.in_ok-skip.ensures.read);
  end = c.in_ok-skip.ensures.end ∙ c.loop.invariant.end;
  shrinks = omega (arith, c.in_ok-skip.ensures.shrinks);
}

pub skip_each-returns-clause-read : goal.skip_each-returns-clause-read
skip_each-returns-clause-read t c = items_passed (value_at c.args.self.now.end c.args.room c.args.kind)
    c.args.count c.loop.counter c.loop.self.rest.now _ c.loop.invariant.read c.loop-test.false

pub skip_list-returns-in_err-kind-clause-read : goal.skip_list-returns-in_err-kind-clause-read
skip_list-returns-in_err-kind-clause-read t c =
    let p = err_from_is_err_and c.from_residual.result c.from_residual.ensures.1 in
    rw (p.1, p.2) (list_no_kind c.args.self.now.end (value_at c.args.self.now.end c.args.room)
    c.args.self.now.rest.now c.in_err-kind.field-0.0 c.in_err-kind.ensures.read)

pub skip_list-returns-in_err-count-clause-read : goal.skip_list-returns-in_err-count-clause-read
skip_list-returns-in_err-count-clause-read t c =
    let p = err_from_is_err_and c.from_residual-in_err-count.result c.from_residual-in_err-count.ensures.1 in
    rw (p.1, p.2) (list_no_count c.args.self.now.end (value_at c.args.self.now.end c.args.room)
    c.args.self.now.rest.now c.in_ok-kind.kind c.kind.new.self.rest.now c.in_err-count.field-0.0
    c.in_ok-kind.ensures.read (rw c.in_ok-kind.ensures.end at c.in_err-count.ensures.read))

pub skip_list-returns-in-Some-clause-read : goal.skip_list-returns-in-Some-clause-read
skip_list-returns-in-Some-clause-read t c =
    list_passed c.args.self.now.end (value_at c.args.self.now.end c.args.room) c.args.self.now.rest.now
    c.skip_items.result c.in-Some.kind c.kind.new.self.rest.now c.in_ok-count.count c.count.new.self.rest.now
    c.skip_items.new.self.rest.now (rw c.in-Some.is at c.in_ok-kind.ensures.read)
    (rw c.in_ok-kind.ensures.end at c.in_ok-count.ensures.read)
    (rw (c.in_ok-count.ensures.end, c.in_ok-kind.ensures.end) at c.skip_items.ensures.read)

pub skip_list-returns-in-None-clause-read : goal.skip_list-returns-in-None-clause-read
skip_list-returns-in-None-clause-read t c =
    list_none c.args.self.now.end (value_at c.args.self.now.end c.args.room) c.args.self.now.rest.now
    c.kind.new.self.rest.now c.in_ok-count.count c.count.new.self.rest.now
    (rw c.in-None.is at c.in_ok-kind.ensures.read)
    (rw c.in_ok-kind.ensures.end at c.in_ok-count.ensures.read) c.if-count-eq0.true

pub skip_list-returns-in-None-2-clause-read : goal.skip_list-returns-in-None-2-clause-read
skip_list-returns-in-None-2-clause-read t c =
    rw (c.place-at.ensures, c.in_ok-kind.ensures.end) (list_bad c.args.self.now.end
    (value_at c.args.self.now.end c.args.room) c.args.self.now.rest.now c.kind.new.self.rest.now
    c.in_ok-count.count c.count.new.self.rest.now (rw c.in-None.is at c.in_ok-kind.ensures.read)
    (rw c.in_ok-kind.ensures.end at c.in_ok-count.ensures.read) c.if-count-eq0.false)

pub skip_items-returns-in-Some-clause-read : goal.skip_items-returns-in-Some-clause-read
skip_items-returns-in-Some-clause-read t c =
    let one = fixed_value c.args.self.now.end c.args.room c.args.kind c.in-Some.size (sym c.in-Some.ensures.size) in
    fixed_skips c.args.self.now.end (c.in-Some.size * c.args.count)
    (items_at (value_at c.args.self.now.end c.args.room c.args.kind) c.args.count) c.skip_run.result
    c.args.self.now.rest.now c.skip_run.new.self.rest.now
    (fixed_items c.args.self.now.end c.in-Some.size _ one c.args.count) c.skip_run.ensures.read
