use Rattle.std.proofs.Common.{List, ℕ, subst}
use Rattle.std.specs.Prelude.{Option, Some, None, IfSome}
use Rattle.certificate_lines.specs.Decides.{Decides, IsLineOf, IsNoLineOf}
use Rattle.certificate_lines.specs.Kinds.{word_of, MeansAt}
use Rattle.certificate_lines.specs.declared.stage.Stage.{Stage}
use Rattle.certificate_lines.proofs.Lift.{off, on}
use Rattle.certificate_lines.proofs.KindLemmas.{line_fits, line_fits_not}
use Rattle.certificate_lines.proofs.step.next_stage.Goals as goal

pub returns-then-not-branch-clause-decides : goal.returns-then-not-branch-clause-decides
returns-then-not-branch-clause-decides c =
    let l = off c.in_ok-read_line.field-0 (IsLineOf c.args.text.now c.word.result.now c.read_line.new.numbers.items)
    (IsNoLineOf c.args.text.now c.word.result.now) c.if-not-branch.true c.in_ok-read_line.ensures in
    line_fits_not c.args.stage c.args.kind c.args.text.now c.requires.sound c.requires.kind
    (subst (λ (w : List ℕ). IsNoLineOf c.args.text.now w) c.word.ensures l)

pub returns-clause-decides : goal.returns-clause-decides
returns-clause-decides c =
    let l = on c.in_ok-read_line.field-0 (IsLineOf c.args.text.now c.word.result.now c.read_line.new.numbers.items)
    (IsNoLineOf c.args.text.now c.word.result.now) c.if-not-branch.false c.in_ok-read_line.ensures in
    line_fits c.args.stage c.args.kind c.args.text.now c.read_line.new.numbers.items c.after.result c.requires.sound
    c.requires.kind (subst (λ (w : List ℕ). IsLineOf c.args.text.now w c.read_line.new.numbers.items)
    c.word.ensures l)
    (subst (λ (ns : List ℕ). Decides c.after.result (MeansAt c.args.stage c.args.kind ns))
    c.deref.ensures.value c.after.ensures)

if_some : (r : Option Stage) (P : Type 0) → P → IfSome r (λ x. P)
if_some (Some s) P p = p
if_some None P p = tt

pub returns-clause-said : goal.returns-clause-said
returns-clause-said c =
    let l = on c.in_ok-read_line.field-0 (IsLineOf c.args.text.now c.word.result.now c.read_line.new.numbers.items)
    (IsNoLineOf c.args.text.now c.word.result.now) c.if-not-branch.false c.in_ok-read_line.ensures in
    if_some c.after.result (IsLineOf c.args.text.now (word_of c.args.kind) c.read_line.new.numbers.items)
    (subst (λ (w : List ℕ). IsLineOf c.args.text.now w c.read_line.new.numbers.items) c.word.ensures l)
