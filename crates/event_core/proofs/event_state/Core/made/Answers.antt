use Rattle.std.proofs.Common.{subst}
use Rattle.event_core.specs.Kept.{state_of}
use Rattle.event_core.specs.Moving.{IsLeftPiece}
use Rattle.event_core.specs.State.{Way}
use Rattle.event_core.proofs.MoveLemmas.{made_or_not, none_made}
use Rattle.event_core.proofs.event_state.Core.made.Goals as goal

pub returns-in_default-clause-made : goal.returns-in_default-clause-made
returns-in_default-clause-made c =
    let way : Way = record { bars = c.args.bars.now; on = c.args.on } in
    none_made c.args.self.now c.args.name.now way
    (subst (IsLeftPiece (state_of c.args.self.now) c.args.name.now) c.in_default.is c.in_ok-piece.ensures.left)

pub returns-clause-made : goal.returns-clause-made
returns-clause-made c =
    let way : Way = record { bars = c.args.bars.now; on = c.args.on } in
    made_or_not c.args.self.now c.args.name.now way c.in-Some.piece
    (subst (IsLeftPiece (state_of c.args.self.now) c.args.name.now) c.in-Some.is c.in_ok-piece.ensures.left)
    c.in_ok-node.node c.in_ok-node.ensures
