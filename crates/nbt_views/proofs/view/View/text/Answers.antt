use Rattle.nbt_core.specs.declared.kind.Kind.TheVariants as kinds
use Rattle.nbt_core.specs.declared.kind.LeafKind.TheVariants as leaves
use Rattle.nbt_views.proofs.KindLemmas.{no_text}
use Rattle.nbt_views.proofs.ViewLemmas.{other_kind, text_found}
use Rattle.nbt_views.proofs.view.View.text.Goals as goal

pub returns-then-not-is_same : goal.returns-then-not-is_same
returns-then-not-is_same c =
    let s = c.self.inside in
    no_text c.args.self.now (other_kind s.end s.room s.kind s.rest.now c.self.invariant (kinds.Leaf leaves.Text)
    c.is_same.result c.args.self.now c.self.view_is c.is_same.ensures c.if-not-is_same.true)

pub returns : goal.returns
returns c =
    let s = c.self.inside in
    rw c.ok.ensures.value (text_found s.end s.room s.kind s.rest.now c.self.invariant c.args.self.now
    c.self.view_is (c.is_same.ensures.0 c.if-not-is_same.false) c.text.result c.text.new.self.rest.now
    (rw (c.new.ensures.rest, c.new.ensures.end) at c.text.ensures.read) c.text.ensures.no_memory)
