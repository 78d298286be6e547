use Rattle.nbt_core.specs.declared.kind.Kind.TheVariants as kinds
use Rattle.nbt_views.proofs.KindLemmas.{no_entries}
use Rattle.nbt_views.proofs.ViewLemmas.{other_kind, compound_deep, compound_entries, compound_entries_in}
use Rattle.nbt_views.proofs.view.View.entries.Goals as goal

pub returns-then-not-is_same : goal.returns-then-not-is_same
returns-then-not-is_same c =
    let s = c.self.inside in
    no_entries c.args.self.now (other_kind s.end s.room s.kind s.rest.now c.self.invariant kinds.Compound
    c.is_same.result c.args.self.now c.self.view_is c.is_same.ensures c.if-not-is_same.true)

pub returns-in_default : goal.returns-in_default
returns-in_default c =
    let s = c.self.inside in
    absurd (compound_deep s.end s.room s.kind s.rest.now c.self.invariant
    (c.is_same.ensures.0 c.if-not-is_same.false) c.in_default.ensures.too_deep.0)

pub new-requires : goal.new-requires
new-requires c =
    let s = c.self.inside in
    compound_entries s.end s.room s.kind s.rest.now c.self.invariant c.in-Ok.room
    (c.is_same.ensures.0 c.if-not-is_same.false) c.in-Ok.ensures.ok

pub returns : goal.returns
returns c =
    let s = c.self.inside in
    rw c.new.ensures (compound_entries_in s.end s.room s.kind s.rest.now c.self.invariant c.in-Ok.room
    (c.is_same.ensures.0 c.if-not-is_same.false) c.in-Ok.ensures.ok c.args.self.now c.self.view_is)
