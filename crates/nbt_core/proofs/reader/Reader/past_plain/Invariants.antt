use Rattle.std.proofs.Common.{◌≡◌, ◌≤◌, length}
use Rattle.nbt_core.specs.TreeReading.{members_at, value_at}
use Rattle.nbt_core.proofs.SkipLemmas.{MembersPassed}
use Rattle.nbt_core.proofs.reader.Reader.past_plain.Given as goal

abbrev pub invariant-loop-kind : goal.invariant-loop-kind
invariant-loop-kind l = record {
  read : MembersPassed l.self.end (value_at l.self.end l.room) l.reader.rest.now
      (members_at l.self.end (value_at l.self.end l.room) (length l.self.rest.now) l.self.rest.now);
  end : l.reader.end ≡ l.self.end;
  shrinks : length l.reader.rest.now ≤ length l.self.rest.now;
}

abbrev pub decreases-loop-kind : goal.decreases-loop-kind
decreases-loop-kind l = length l.reader.rest.now
