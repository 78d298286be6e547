use Rattle.std.proofs.Common.{rules, arith}
use Rattle.std.specs.Int.{w32}
use Rattle.std.proofs.lemmas.Int.{to_z-of_z}
use Rattle.nbt_views.proofs.EntryLemmas.{triple_read}
use Rattle.nbt_views.proofs.named_entries.triple.Goals as goal

pub returns-clause-read : goal.returns-clause-read
returns-clause-read c =
    rw (
      to_z-of_z w32 c.in-Ok.x (search rules),
      to_z-of_z w32 c.in-Ok-int.y (search rules),
      to_z-of_z w32 c.in-Ok-int-2.z (search rules),
    ) (triple_read c.args.reader.now.end c.args.room c.in-Some.count c.args.reader.now.rest.now
    c.ints.new.self.rest.now c.int.new.self.rest.now c.int-2.new.self.rest.now c.int-3.new.self.rest.now
    c.in-Ok.x c.in-Ok-int.y c.in-Ok-int-2.z c.in-Some.ensures.read (omega arith)
    (rw c.in-Some.ensures.end at c.in-Ok.ensures.read)
    (rw (c.in-Ok.ensures.end, c.in-Some.ensures.end) at c.in-Ok-int.ensures.read)
    (rw (c.in-Ok-int.ensures.end, c.in-Ok.ensures.end, c.in-Some.ensures.end) at c.in-Ok-int-2.ensures.read))
