use Rattle.std.proofs.Common.{◌↔◌, Bool, refl, sym, ◌∙◌, subst}
use Rattle.std.specs.Prelude.{IsTrue}
use Rattle.proof_tree.specs.Shape.{tree_of}
use Rattle.event_core.specs.State.{IsDone}
use Rattle.event_core.specs.Kept.{Kept, IsAssembly, state_of}
use Rattle.event_core.proofs.KeptLemmas.{done_is, assembly}
use Rattle.event_core.proofs.event_state.Core.assemble.Goals as goal

pub returns-then-not-is_done-clause-exactly : goal.returns-then-not-is_done-clause-exactly
returns-then-not-is_done-clause-exactly c =
    subst (λ (b : Bool). IsTrue b ↔ IsDone (state_of c.args.self)) c.if-not-is_done.true
    (subst (λ (k : Kept). IsTrue c.is_done.result ↔ IsDone (state_of k))
    c.self.view_is (done_is _ c.is_done.result c.self.invariant.1 c.is_done.ensures))

pub returns-clause-exactly : goal.returns-clause-exactly
returns-clause-exactly c =
    subst (λ (b : Bool). IsTrue b ↔ IsDone (state_of c.args.self)) c.if-not-is_done.false
    (subst (λ (k : Kept). IsTrue c.is_done.result ↔ IsDone (state_of k))
    c.self.view_is (done_is _ c.is_done.result c.self.invariant.1 c.is_done.ensures))

pub returns-clause-done : goal.returns-clause-done
returns-clause-done c = subst (λ (k : Kept). IsAssembly k c.self.inside.best (tree_of c.assemble.result)) c.self.view_is
    (assembly _ c.self.inside.best (tree_of c.assemble.result) c.self.invariant.1
    (sym c.is_done.ensures ∙ c.if-not-is_done.false) c.self.invariant.0 refl c.assemble.ensures)
