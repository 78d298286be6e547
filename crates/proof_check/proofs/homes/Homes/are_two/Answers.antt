use Rattle.std.proofs.Common.{sym, subst}
use Rattle.proof_check.proofs.HomeLemmas.{Seeing, seeing_start, seeing_next, seeing_end}
use Rattle.proof_check.proofs.homes.Homes.are_two.Goals as goal

pub loop-cell-init : goal.loop-cell-init
loop-cell-init c = seeing_start c.args.self.now c.args.cells.now

pub loop-cell-preserved : goal.loop-cell-preserved
loop-cell-preserved c = subst (Seeing c.args.self.now c.args.cells.now _) (sym c.both-seen.ensures)
    (seeing_next c.args.self.now c.args.cells.now c.loop-cell.cell-index c.loop-cell.seen c.of.result
    c.loop-cell-test.true c.loop-cell.invariant c.of.ensures)

pub returns : goal.returns
returns c = record {
  each = λ lists a inside.
      (let both = seeing_end c.args.self.now c.args.cells.now c.loop-cell.cell-index c.loop-cell.seen
      c.loop-cell-test.false c.loop-cell.invariant lists a inside in
      (λ t. both.0 (c.is_several.ensures.0 t), λ two. c.is_several.ensures.1 (both.1 two)));
}
