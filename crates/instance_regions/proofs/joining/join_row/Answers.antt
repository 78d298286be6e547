use Rattle.std.proofs.Common.{◌≤◌, ℕ, List, length, slice_index, ap, subst, arith}
use Rattle.set_cover.specs.Buckets.{bucket}
use Rattle.instance_regions.specs.Joining.{Joins}
use Rattle.instance_regions.proofs.TreeLemmas.{listed_inside, row_next, row_all}
use Rattle.instance_regions.proofs.joining.join_row.Goals as goal

pub join-requires-clause-one : goal.join-requires-clause-one
join-requires-clause-one c = omega (
  arith,
  listed_inside c.args.sparse.now c.args.place 0 c.lit_by-lit.result.now c.args.parents.now c.requires.parents
      c.requires.inside c.lit_by-lit.ensures (omega (arith, c.loop-cell-test.true)),
  c.loop-cell.invariant.whole,
)

pub join-requires-clause-two : goal.join-requires-clause-two
join-requires-clause-two c = omega (
  arith,
  listed_inside c.args.sparse.now c.args.place c.loop-cell.cell-index c.lit_by-lit.result.now c.args.parents.now
      c.requires.parents c.requires.inside c.lit_by-lit.ensures c.loop-cell-test.true,
  c.loop-cell.invariant.whole,
)

pub loop-cell-preserved : goal.loop-cell-preserved
loop-cell-preserved c =
    row_next c.args.sparse.now c.args.place c.loop-cell.cell-index c.args.parents.now c.loop-cell.parents
    c.join.new.parents c.requires.parents.kept c.requires.inside
    (omega (arith, ap length c.lit_by-lit.ensures, c.loop-cell-test.true)) c.loop-cell.invariant
    (subst (λ (lit : List ℕ). Joins c.loop-cell.parents (slice_index lit 0) (slice_index lit c.loop-cell.cell-index)
    c.join.new.parents) c.lit_by-lit.ensures c.join.ensures)

pub returns : goal.returns
returns c =
    let all : length (bucket c.args.sparse.now.lit c.args.place) ≤ c.loop-cell.cell-index =
    omega (arith, ap length c.lit_by-lit.ensures, c.loop-cell-test.false) in
    row_all c.args.sparse.now c.args.place c.loop-cell.cell-index c.args.parents.now c.loop-cell.parents all
    c.loop-cell.invariant
