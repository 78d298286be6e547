use Rattle.std.proofs.Common.{◌≡◌, ◌≤◌, ◌^◌, ◌-◌, length, replicate, rules, arith, sym, subst, ◌∙◌}
use Rattle.std.proofs.Common.{take_at}
use Rattle.set_cover.proofs.OrderLemmas.{few_below}
use Rattle.cave_problem.specs.Filling.{AreIndices}
use Rattle.cave_problem.proofs.NumberLemmas.{indices_of}
use Rattle.cave_problem.proofs.indexing.indices_of.Goals as goal

pub number-requires-clause-few : goal.number-requires-clause-few
number-requires-clause-few c =
    (let few : length c.args.cells.now ≤ c.args.count =
    few_below c.args.cells.now c.args.count c.requires.ascending c.requires.inside in
    omega (arith, c.ranges.count.fits))

pub returns : goal.returns
returns c =
    let few : length c.args.cells.now ≤ c.args.count =
    few_below c.args.cells.now c.args.count c.requires.ascending c.requires.inside in
    let zeros : c.in_ok-indices.indices.items ≡ replicate c.args.count (2 ^ 32 - 1) = search rules in
    let long : length c.number.new.indices ≡ c.in_ok-indices.indices.len =
    omega (arith, c.number.ensures.whole, c.as_mut_slice.ensures.len) in
    subst (AreIndices c.args.count c.args.cells.now)
    (sym (take_at c.number.new.indices _ c.in_ok-indices.indices.len long))
    (indices_of c.args.count (2 ^ 32 - 1) c.args.cells.now c.as_mut_slice.result.now c.number.new.indices
    (c.as_mut_slice.ensures.value ∙ zeros) (omega (arith, c.as_mut_slice.ensures.len, c.in_ok-indices.ensures.len))
    (omega (arith, few, c.ranges.count.fits)) c.requires.ascending c.number.ensures)
