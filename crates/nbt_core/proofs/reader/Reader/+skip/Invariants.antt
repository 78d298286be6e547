use Rattle.std.proofs.Common.{◌≡◌, ◌≤◌, ◌+◌, ◌*◌, length}
use Rattle.nbt_core.specs.TreeReading.{items_at, members_at, value_at}
use Rattle.nbt_core.proofs.SkipLemmas.{ItemsPassed, MembersPassed}
use Rattle.nbt_core.proofs.reader.Reader.+skip.Given as goal

abbrev pub decreases-skip : goal.decreases-skip
decreases-skip l = 4 * l.room

abbrev pub decreases-skip_entries : goal.decreases-skip_entries
decreases-skip_entries l = 4 * l.room + 1

abbrev pub decreases-skip_each : goal.decreases-skip_each
decreases-skip_each l = 4 * l.room + 1

abbrev pub decreases-skip_items : goal.decreases-skip_items
decreases-skip_items l = 4 * l.room + 2

abbrev pub decreases-skip_list : goal.decreases-skip_list
decreases-skip_list l = 4 * l.room + 3

abbrev pub invariant-skip_entries-loop-kind : goal.invariant-skip_entries-loop-kind
invariant-skip_entries-loop-kind l = record {
  read : MembersPassed l.fn.self.end (value_at l.fn.self.end l.room) l.self.rest.now
      (members_at l.fn.self.end (value_at l.fn.self.end l.room) (length l.fn.self.rest.now) l.fn.self.rest.now);
  end : l.self.end ≡ l.fn.self.end;
  shrinks : length l.self.rest.now ≤ length l.fn.self.rest.now;
}

abbrev pub decreases-skip_entries-loop-kind : goal.decreases-skip_entries-loop-kind
decreases-skip_entries-loop-kind l = length l.self.rest.now

abbrev pub invariant-skip_each-loop : goal.invariant-skip_each-loop
invariant-skip_each-loop l = record {
  read : ItemsPassed (value_at l.fn.self.end l.room l.kind) l.count l.counter l.self.rest.now
      (items_at (value_at l.fn.self.end l.room l.kind) l.count l.fn.self.rest.now);
  end : l.self.end ≡ l.fn.self.end;
  shrinks : length l.self.rest.now ≤ length l.fn.self.rest.now;
}
