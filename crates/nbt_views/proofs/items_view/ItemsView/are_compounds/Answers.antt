use Rattle.std.proofs.Common.{sym, ap, ◌∙◌, arith}
use Rattle.nbt_views.specs.Parts.{are_compounds}
use Rattle.nbt_views.proofs.ItemLemmas.{compounds_by_kind, items_none}
use Rattle.nbt_views.proofs.items_view.ItemsView.are_compounds.Goals as goal

pub returns-then-self-eq0 : goal.returns-then-self-eq0
returns-then-self-eq0 c =
    let s = c.self.inside in
    sym (ap are_compounds (items_none s.end s.room s.kind s.count s.rest.now c.args.self.now c.self.view_is
    c.if-self-eq0.true))

pub returns : goal.returns
returns c =
    let s = c.self.inside in
    compounds_by_kind s.end s.room s.kind s.count s.rest.now c.is_same.result c.self.invariant (omega arith)
    c.is_same.ensures ∙ ap are_compounds c.self.view_is
