use Rattle.nbt_views.proofs.KindLemmas.{field_entries}
use Rattle.nbt_views.proofs.view.View.field.Goals as goal

pub loop-key-init : goal.loop-key-init
loop-key-init c = field_entries c.args.name.now c.args.self.now c.in-Some.entries c.in-Some.ensures
