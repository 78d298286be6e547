use Rattle.std.proofs.Common.{◌≡◌, ◌≤◌, ◌+◌, ◌-◌, ◌*◌, length}
use Rattle.nbt_core.specs.Value.{items_of, members_of}
use Rattle.nbt_core.specs.View.{nbts, entries_of}
use Rattle.nbt_core.specs.TreeReading.{items_at, members_at, value_at}
use Rattle.nbt_core.proofs.ItemsLoop.{with_items}
use Rattle.nbt_core.proofs.MembersLoop.{MembersSoFar}
use Rattle.nbt_core.proofs.reader.Reader.+payload.Given as goal

abbrev pub decreases-items : goal.decreases-items
decreases-items l = 4 * l.room + 1

abbrev pub decreases-list : goal.decreases-list
decreases-list l = 4 * l.room + 2

abbrev pub decreases-entries : goal.decreases-entries
decreases-entries l = 4 * l.room + 1

abbrev pub decreases-payload : goal.decreases-payload
decreases-payload l = 4 * l.room

abbrev pub invariant-items-loop : goal.invariant-items-loop
invariant-items-loop l = record {
  read : with_items (items_of (nbts l.items.items)) (items_at (value_at l.fn.self.end l.room l.kind)
      (l.count - l.counter) l.self.rest.now)
      ≡ items_at (value_at l.fn.self.end l.room l.kind) l.count l.fn.self.rest.now;
  end : l.self.end ≡ l.fn.self.end;
  shrinks : length l.self.rest.now ≤ length l.fn.self.rest.now;
}

abbrev pub invariant-entries-loop-entries : goal.invariant-entries-loop-entries
invariant-entries-loop-entries l = record {
  read : MembersSoFar l.fn.self.end (value_at l.fn.self.end l.room)
      (members_of (entries_of l.entries.items)) l.self.rest.now
      (members_at l.fn.self.end (value_at l.fn.self.end l.room) (length l.fn.self.rest.now) l.fn.self.rest.now);
  end : l.self.end ≡ l.fn.self.end;
  shrinks : length l.self.rest.now ≤ length l.fn.self.rest.now;
}

abbrev pub decreases-entries-loop-entries : goal.decreases-entries-loop-entries
decreases-entries-loop-entries l = length l.self.rest.now
