use Rattle.std.proofs.Common.{◌↔◌, subst}
use Rattle.std.specs.Prelude.{IsTrue}
use Rattle.event_core.specs.State.{IsDone}
use Rattle.event_core.specs.Sound.{IsSoundState}
use Rattle.event_core.specs.Kept.{Kept, state_of}
use Rattle.event_core.proofs.KeptLemmas.{done_is}
use Rattle.event_core.proofs.event_state.Core.is_done.Goals as goal

pub returns-clause-done : goal.returns-clause-done
returns-clause-done c = subst (λ (k : Kept). IsTrue c.is_done.result ↔ IsDone (state_of k))
    c.self.view_is (done_is _ c.is_done.result c.self.invariant.1 c.is_done.ensures)

pub returns-clause-sound : goal.returns-clause-sound
returns-clause-sound c = subst (λ (k : Kept). IsSoundState (state_of k)) c.self.view_is c.self.invariant.1.sound
