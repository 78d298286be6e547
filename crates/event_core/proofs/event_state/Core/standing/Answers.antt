use Rattle.std.proofs.Common.{[], subst, Option}
use Rattle.event_core.specs.Kept.{state_of}
use Rattle.event_core.specs.Tracing.{IsTraced}
use Rattle.event_core.specs.declared.tracing.Traced.{Traced}
use Rattle.event_core.proofs.MoveLemmas.{standing_some}
use Rattle.event_core.proofs.event_state.Core.standing.Goals as goal

pub returns-in-Some-clause-standing : goal.returns-in-Some-clause-standing
returns-in-Some-clause-standing c =
    standing_some (state_of c.args.self.now) c.args.name.now c.in-Some.traced
    (subst (λ (o : Option Traced). IsTraced [] [] c.args.self.now.root c.args.name.now o)
    c.in-Some.is c.in_ok-traced.ensures.traced)
