use Rattle.std.proofs.Common.{◌≤◌, length, map, ap, sym, ◌∙◌, arith}
use Rattle.std.proofs.lemmas.Bool.{true≢false, false≢true}
use Rattle.std.proofs.lemmas.Bool.Decides.{nat_tests}
use Rattle.std.proofs.lemmas.List.{length-map}
use Rattle.weight_judge.specs.declared.claims.Claim.{Claim}
use Rattle.weight_judge.proofs.ClaimLemmas.{claim_cells}
use Rattle.tree_judges.proofs.WeightedLemmas.{weighted_closes, few_claims}
use Rattle.tree_judges.proofs.weighted_leaf.is_weighted_leaf.Goals as goal

pub returns-then-not-are_groups : goal.returns-then-not-are_groups
returns-then-not-are_groups c = (
  λ t. absurd (false≢true t),
  λ m. absurd (true≢false (sym (c.are_groups.ensures.1
      (weighted_closes c.args.region.now c.args.node.now c.args.floor c.args.groups.now m).0)
      ∙ c.if-not-are_groups.true)),
)

pub returns-then-len-count : goal.returns-then-len-count
returns-then-len-count c = (
  λ t. absurd (false≢true t),
  λ m. (let parts = weighted_closes c.args.region.now c.args.node.now c.args.floor c.args.groups.now m in
      let few = few_claims c.args.region.now c.args.node.now c.args.groups.now c.in_ok-claims.claims.items c.requires
      c.in_ok-claims.ensures parts.1 in
      let all = ap length c.cells.ensures.cells in
      absurd (omega (arith, few, c.len.ensures, c.count.ensures.exact, all, c.if-len-count.true))),
)

pub returns-then-not-branch : goal.returns-then-not-branch
returns-then-not-branch c = (
  λ t. absurd (false≢true t),
  λ m. absurd (true≢false (sym (c.in_ok-may_be_weighted.ensures.1
      (weighted_closes c.args.region.now c.args.node.now c.args.floor c.args.groups.now m).1)
      ∙ c.if-not-branch.true)),
)

pub places_for_all-requires-clause-few : goal.places_for_all-requires-clause-few
places_for_all-requires-clause-few c =
    let groups = c.args.groups.now in
    let many = length-map c.in_ok-claims.claims.items (λ (x : Claim). x.cell) in
    let cells = ap length (ap (map (λ (x : Claim). x.cell)) c.in_ok-claims.ensures ∙ claim_cells 0 groups) in
    omega (arith, many, cells, c.count.ensures.few, c.if-len-count.false, c.len.ensures)

pub returns : goal.returns
returns c =
    let size = c.saturating_add-size.ensures in
    let chosen = ap length c.chosen.ensures in
    let places = c.places_for_all.ensures in
    let fits = c.ranges.floor.fits in
    let may = c.in_ok-may_be_weighted.ensures.0 c.if-not-branch.false in (
      λ t. (let le : c.args.floor ≤ c.saturating_add-size.result = grind (arith, nat_tests) in
          record {
            good = λ barred listed. (may.weighted_there barred listed, omega (arith, size, chosen, places, le));
          }),
      λ m. (let enough = (weighted_closes c.args.region.now c.args.node.now c.args.floor c.args.groups.now m).2 in
          let le : c.args.floor ≤ c.saturating_add-size.result = omega (arith, size, chosen, places, fits, enough) in
          grind (arith, nat_tests)),
    )
