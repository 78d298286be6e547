use Rattle.std.proofs.Common.{◌<◌, ◌≤◌, ◌≡◌, ℕ, List, length, slice_index, refl, ap, sym, subst, arith}
use Rattle.std.proofs.lemmas.Bool.Decides.{nat_tests}
use Rattle.cave_model.specs.Listing.{ListsAll}
use Rattle.set_cover.proofs.OrderLemmas.{element_of}
use Rattle.set_cover.specs.Buckets.{AreBucketsOf, bucket}
use Rattle.instance_regions.specs.Grouping.{IsCellOf, IsPlaceOfLabel}
use Rattle.instance_regions.specs.Restricting.{IsSelfContained}
use Rattle.instance_regions.proofs.SplitLemmas.{splitting_push, splitting_skip, regions_of}
use Rattle.instance_regions.proofs.LabelLemmas.{closed_label, region_of, is_label}
use Rattle.instance_regions.proofs.splitting.parts_of.Goals.{After-as_mut_slice-ranks}
use Rattle.instance_regions.proofs.splitting.parts_of.Goals.{then-not-is_empty+in_ok-restrict+in_ok-push}
use Rattle.instance_regions.proofs.splitting.parts_of.Goals.{else-not-is_empty}
use Rattle.instance_regions.proofs.splitting.parts_of.Goals as goal

cells : (c : After-as_mut_slice-ranks) (label : ℕ)
    → ListsAll (IsCellOf c.in_ok-labels.labels.items label) (bucket c.in_ok-cells.cells label)
cells c label = (subst (λ (labels : List ℕ). AreBucketsOf (IsCellOf labels) (length labels) c.in_ok-cells.cells)
    c.deref.ensures.value c.in_ok-cells.ensures).each label

places : (c : After-as_mut_slice-ranks) (label : ℕ)
    → ListsAll (IsPlaceOfLabel c.args.sparse.now c.in_ok-labels.labels.items label)
    (bucket c.in_ok-places.places label)
places c label = (subst (λ (labels : List ℕ). AreBucketsOf (IsPlaceOfLabel c.args.sparse.now labels)
    (length labels) c.in_ok-places.places) c.deref-2.ensures.value c.in_ok-places.ensures).each label

closed : (c : After-as_mut_slice-ranks) (label : ℕ) (own placed : List ℕ) → own ≡ bucket c.in_ok-cells.cells label
    → placed ≡ bucket c.in_ok-places.places label → 0 < length own → IsSelfContained c.args.sparse.now own placed
closed c label own placed e f filled = closed_label c.args.sparse.now c.in_ok-labels.labels.items own placed label
    c.requires.kept c.in_ok-labels.ensures.labels
    (subst (ListsAll (IsCellOf c.in_ok-labels.labels.items label)) (sym e) (cells c label))
    (subst (ListsAll (IsPlaceOfLabel c.args.sparse.now c.in_ok-labels.labels.items label)) (sym f) (places c label))
    filled

pub restrict-requires-clause-closed : goal.restrict-requires-clause-closed
restrict-requires-clause-closed c =
    let filled : 0 < length c.at-own.result.now =
    grind (arith, nat_tests, c.is_empty.ensures, c.if-not-is_empty.true) in
    closed (goal.at.restrict-requires-clause-closed c).After-as_mut_slice-ranks c.loop-label.label c.at-own.result.now
    c.at.result.now c.at-own.ensures c.at.ensures filled

pub loop-label-preserved : goal.loop-label-preserved
loop-label-preserved c =
    let before = (goal.at.loop-label-preserved c).After-as_mut_slice-ranks in
    let label = c.loop-label.label in
    let own : ListsAll (IsCellOf c.in_ok-labels.labels.items label) c.at-own.result.now =
    subst (ListsAll (IsCellOf c.in_ok-labels.labels.items label)) (sym c.at-own.ensures) (cells before label) in
    elim c.if-not-is_empty.branch [
      | then-not-is_empty+in_ok-restrict+in_ok-push w ↦
          (let filled : 0 < length c.at-own.result.now =
          grind (arith, nat_tests, c.is_empty.ensures, w.if-not-is_empty.true) in
          let shut = closed before label c.at-own.result.now w.at.result.now c.at-own.ensures w.at.ensures filled in
          let placed : ListsAll (IsPlaceOfLabel c.args.sparse.now c.in_ok-labels.labels.items label) w.at.result.now
          = subst (ListsAll (IsPlaceOfLabel c.args.sparse.now c.in_ok-labels.labels.items label)) (sym w.at.ensures)
          (places before label) in
          let first = (own.exact _).0 (element_of c.at-own.result.now (slice_index c.at-own.result.now 0) 0 filled refl)
          in
          rw (w.regions-is, w.in_ok-push.ensures.items)
          (splitting_push c.args.sparse.now c.in_ok-labels.labels.items label
          c.loop-label.regions.items w.in_ok-restrict.field-0
          (is_label c.args.sparse.now c.in_ok-labels.labels.items label
          (slice_index c.at-own.result.now 0) c.in_ok-labels.ensures.labels first)
          (region_of c.args.sparse.now c.in_ok-labels.labels.items c.at-own.result.now w.at.result.now label
          c.requires.kept c.in_ok-labels.ensures.labels own placed w.in_ok-restrict.field-0 shut
          w.in_ok-restrict.ensures)
          c.loop-label.invariant))
      | else-not-is_empty w ↦
          (let none : length c.at-own.result.now ≡ 0 =
          grind (arith, nat_tests, c.is_empty.ensures, w.if-not-is_empty.false) in
          rw w.regions-is (splitting_skip c.args.sparse.now c.in_ok-labels.labels.items label
          c.loop-label.regions.items
          (λ is. (let has = (own.exact label).1 (record { inside = is.inside; there = is.own }) in
          absurd (omega (arith, has.1)))) c.loop-label.invariant))
    ]

pub returns : goal.returns
returns c =
    let all : length c.in_ok-labels.labels.items ≤ c.loop-label.label =
    omega (
      arith,
      c.loop-label-test.false,
      c.len-label-end.ensures,
      c.deref.ensures.len,
      ap length c.deref.ensures.value,
    ) in
    regions_of c.args.sparse.now c.in_ok-labels.labels.items c.loop-label.regions.items c.loop-label.label
    c.requires.kept c.in_ok-labels.ensures.labels all c.loop-label.invariant
