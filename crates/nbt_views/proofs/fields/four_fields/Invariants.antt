use Rattle.std.proofs.Common.{◌≡◌, ◌≤◌, length}
use Rattle.nbt_core.specs.TreeReading.{members_at, value_at}
use Rattle.nbt_views.specs.Fields.{four_named}
use Rattle.nbt_views.proofs.FieldLemmas.{FieldsPassed}
use Rattle.nbt_views.proofs.fields.four_fields.Given as goal

abbrev pub invariant-loop-kind : goal.invariant-loop-kind
invariant-loop-kind l = record {
  read : FieldsPassed l.fn.reader.end (value_at l.fn.reader.end l.room) (four_named l.a l.b l.c l.d)
      (l.first, l.second, l.third, l.fourth) l.reader.rest.now
      (members_at l.fn.reader.end (value_at l.fn.reader.end l.room) (length l.fn.reader.rest.now) l.fn.reader.rest.now);
  end : l.reader.end ≡ l.fn.reader.end;
  shrinks : length l.reader.rest.now ≤ length l.fn.reader.rest.now;
}

abbrev pub decreases-loop-kind : goal.decreases-loop-kind
decreases-loop-kind l = length l.reader.rest.now
