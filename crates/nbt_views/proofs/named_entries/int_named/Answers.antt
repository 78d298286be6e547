use Rattle.std.proofs.Common.{rules}
use Rattle.std.specs.Int.{w32}
use Rattle.std.proofs.lemmas.Int.{to_z-of_z}
use Rattle.nbt_views.proofs.EntryLemmas.{int_entry}
use Rattle.nbt_views.proofs.named_entries.int_named.Goals as goal

pub returns-clause-read : goal.returns-clause-read
returns-clause-read c =
    rw (to_z-of_z w32 c.in-Ok.number (search rules)) (int_entry c.args.reader.now.end c.args.room c.args.name.now
    c.args.reader.now.rest.now c.is_named.new.reader.rest.now c.int.new.self.rest.now c.in-Ok.number
    (c.is_named.ensures.read c.if-not-is_named.false) (rw c.is_named.ensures.end at c.in-Ok.ensures.read)
    c.in-Ok.ensures.shrinks)
