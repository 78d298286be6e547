use Rattle.std.proofs.Common.{refl}
use Rattle.certificate_lines.specs.Held.{EndsPiece, TakesLine}
use Rattle.certificate_lines.proofs.Lift.{at_none, at_some}
use Rattle.proof_check.proofs.TrialLemmas.{ends_piece, is_behind, hears_to, hearing_all, hearing_more, hearing_room}
use Rattle.proof_check.proofs.TrialLemmas.{held_room}
use Rattle.proof_check.proofs.trial.Trial.push.Goals as goal

pub line-requires : goal.line-requires
line-requires c = held_room c.args.world.now c.loop-kind.self _
    (hearing_room c.args.world.now c.args.piece.now c.args.self.now c.loop-kind.self
    c.loop-kind.rest.now c.requires c.loop-kind.invariant)

pub hear-requires : goal.hear-requires
hear-requires c = is_behind c.args.world.now c.loop-kind.rest.now c.in-Some.after.now c.in-Some.kind
    c.loop-kind.self _
    (hearing_room c.args.world.now c.args.piece.now c.args.self.now c.loop-kind.self
    c.loop-kind.rest.now c.requires c.loop-kind.invariant)
    refl refl refl
    (at_some c.in_ok-kind.field-0 (c.in-Some.kind, c.in-Some.after)
    (EndsPiece c.loop-kind.rest.now c.loop-kind.self.pieces c.line.new.self)
    (λ l. TakesLine c.loop-kind.rest.now l.1.now l.0 c.loop-kind.self.pieces c.line.new.self)
    c.in-Some.is c.in_ok-kind.ensures)

pub loop-kind-preserved : goal.loop-kind-preserved
loop-kind-preserved c = hearing_more c.args.world.now c.args.piece.now c.args.self.now c.loop-kind.self
    c.hear.new.self c.loop-kind.rest.now c.in-Some.after.now c.loop-kind.invariant
    (hears_to c.args.world.now c.loop-kind.rest.now c.in-Some.after.now c.in-Some.kind c.loop-kind.self _
    c.hear.new.self refl refl refl
    (at_some c.in_ok-kind.field-0 (c.in-Some.kind, c.in-Some.after)
    (EndsPiece c.loop-kind.rest.now c.loop-kind.self.pieces c.line.new.self)
    (λ l. TakesLine c.loop-kind.rest.now l.1.now l.0 c.loop-kind.self.pieces c.line.new.self)
    c.in-Some.is c.in_ok-kind.ensures)
    c.in_ok-hear.ensures.pieces c.in_ok-hear.ensures.catches)

pub returns : goal.returns
returns c = hearing_all c.args.world.now c.args.piece.now c.args.self.now c.loop-kind.self _
    c.loop-kind.rest.now c.loop-kind.invariant
    (ends_piece c.args.world.now c.loop-kind.rest.now c.loop-kind.self _ refl refl refl
    (at_none c.in_ok-kind.field-0 (EndsPiece c.loop-kind.rest.now c.loop-kind.self.pieces c.line.new.self)
    (λ l. TakesLine c.loop-kind.rest.now l.1.now l.0 c.loop-kind.self.pieces c.line.new.self)
    c.in_default.is c.in_ok-kind.ensures))
