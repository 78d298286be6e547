use Rattle.std.proofs.Common.{◌≡◌, drop}
use Rattle.std.specs.Option.{option_map, option_or}
use Rattle.nbt_core.specs.Value.{last_named, members_of}
use Rattle.nbt_core.specs.View.{nbt, entries_of}
use Rattle.nbt_core.proofs.tag.Tag.field.Given as goal

abbrev pub invariant-loop-key : goal.invariant-loop-key
invariant-loop-key l =
    option_or (last_named l.name (members_of (entries_of (drop l.key-index l.key-items))))
    (option_map (λ t. nbt t.now) l.found)
    ≡ last_named l.name (members_of (entries_of l.key-items))
