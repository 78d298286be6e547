use Rattle.std.proofs.Common.{◌≡◌, ◌<◌, length, refl, ap, subst, arith}
use Rattle.std.proofs.Common.{slice_index}
use Rattle.std.proofs.lemmas.Bool.{false≢true}
use Rattle.std.proofs.lemmas.List.Elements.{Contains-get_or}
use Rattle.tree_judges.proofs.OmissionLemmas.{AreOmittedTo, omitted_all, omitted_below}
use Rattle.tree_judges.proofs.omission.may_be_omitted.Goals as goal

pub returns : goal.returns
returns c = (
  λ t. (let region = c.args.region.now in let cells = c.args.cells.now in
      let e : c.loop-index.index ≡ length cells = omega arith in
      let some : 0 < length cells = omega arith in
      omitted_all region cells some (subst (AreOmittedTo region cells) e c.loop-index.invariant)),
  λ m. refl,
)

pub returns-then-cells-index : goal.returns-then-cells-index
returns-then-cells-index c = (
  λ t. absurd (false≢true t),
  λ m. (let cells = c.args.cells.now in let i = c.loop-index.index in
      let below = omitted_below c.args.region.now cells (slice_index cells i) m
      (Contains-get_or cells i 0 (omega arith)) in
      absurd (omega (arith, below, ap length c.cells-count.ensures.cells, c.if-cells-index.true))),
)
