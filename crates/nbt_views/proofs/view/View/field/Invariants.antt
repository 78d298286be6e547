use Rattle.std.proofs.Common.{◌≡◌, length}
use Rattle.std.specs.Option.{option_or}
use Rattle.nbt_core.specs.Value.{field, last_named, members_of}
use Rattle.nbt_views.proofs.view.View.field.Given as goal

abbrev pub invariant-loop-key : goal.invariant-loop-key
invariant-loop-key l = option_or (last_named l.name (members_of l.entries)) l.found ≡ field l.name l.self

abbrev pub decreases-loop-key : goal.decreases-loop-key
decreases-loop-key l = length l.entries
