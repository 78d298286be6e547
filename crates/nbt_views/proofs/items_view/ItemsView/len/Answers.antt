use Rattle.nbt_views.proofs.ItemLemmas.{items_counted}
use Rattle.nbt_views.proofs.items_view.ItemsView.len.Goals as goal

pub returns : goal.returns
returns c =
    let s = c.self.inside in
    items_counted s.end s.room s.kind s.count s.rest.now c.self.invariant c.args.self.now c.self.view_is
