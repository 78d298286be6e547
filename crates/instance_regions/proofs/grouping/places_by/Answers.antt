use Rattle.std.proofs.Common.{◌≡◌, ℕ, List, ◌<◌, Bor, Option, Some, refl, sym, ◌∙◌, ap, subst, length, Contains, arith}
use Rattle.std.specs.List.{slice_get}
use Rattle.std.specs.Option.{option_copied}
use Rattle.std.proofs.lemmas.Bool.Decides.{nat_tests}
use Rattle.std.proofs.lemmas.Option.{slice_get_within, get_or_from_slice_get}
use Rattle.set_cover.specs.Buckets.{bucket}
use Rattle.set_cover.specs.Sparse.{Sparse, ListsAt}
use Rattle.set_cover.proofs.BucketLemmas.{grouping_push, grouping_skip, grouping_all}
use Rattle.set_cover.proofs.OrderLemmas.{element_of}
use Rattle.instance_regions.specs.Grouping.{IsPlaceOfLabel}
use Rattle.instance_regions.proofs.grouping.places_by.Goals.{in-Some+in_ok-push, in_default}
use Rattle.instance_regions.proofs.grouping.places_by.Goals as goal

-- the first cell of a place's list is listed
first_lit : (sparse : Sparse) (place : ℕ) (lit : List ℕ) (first : Option (Bor ℕ)) (cell : Bor ℕ)
    → lit ≡ bucket sparse.lit place → option_copied first ≡ slice_get lit 0 → first ≡ Some cell
    → ListsAt sparse place cell.now
first_lit sparse place lit first cell e is some =
    let got : slice_get lit 0 ≡ Some cell.now = sym is ∙ ap option_copied some in
    subst (λ (l : List ℕ). Contains l cell.now) e (element_of lit cell.now 0 (slice_get_within lit 0 cell.now got)
    (get_or_from_slice_get lit 0 cell.now 0 got))

pub bounds-labels-cell : goal.bounds-labels-cell
bounds-labels-cell c =
    let lit = first_lit c.args.sparse.now c.loop-place.place c.lit_by.result.now c.first.result c.in-Some.cell
    c.lit_by.ensures c.first.ensures.value c.in-Some.is in
    let inside : c.loop-place.place < length c.args.sparse.now.places =
    omega (arith, c.loop-place-test.true, c.count_of-place-end.ensures.count, ap length c.places.ensures.places) in
    omega (
      arith,
      c.places.ensures.kept.of_cells c.loop-place.place c.in-Some.cell.now inside lit,
      c.requires.labels.whole,
    )

pub push-requires : goal.push-requires
push-requires c =
    let lit = first_lit c.args.sparse.now c.loop-place.place c.lit_by.result.now c.first.result c.in-Some.cell
    c.lit_by.ensures c.first.ensures.value c.in-Some.is in
    let inside : c.loop-place.place < length c.args.sparse.now.places =
    omega (arith, c.loop-place-test.true, c.count_of-place-end.ensures.count, ap length c.places.ensures.places) in
    let of_it = c.places.ensures.kept.of_cells c.loop-place.place c.in-Some.cell.now inside lit in
    let low = c.requires.labels.low c.in-Some.cell.now (omega (arith, of_it, c.requires.labels.whole)) in
    record { key = omega (arith, low, of_it, c.requires.labels.whole, c.loop-place.invariant.whole) }

pub loop-place-preserved : goal.loop-place-preserved
loop-place-preserved c = elim c.match-first.branch [
  | in-Some+in_ok-push w ↦ (let lit = first_lit c.args.sparse.now c.loop-place.place c.lit_by.result.now c.first.result
      w.in-Some.cell c.lit_by.ensures c.first.ensures.value w.in-Some.is in
      let inside : c.loop-place.place < length c.args.sparse.now.places =
      omega (arith, c.loop-place-test.true, c.count_of-place-end.ensures.count, ap length c.places.ensures.places)
      in
      rw w.buckets-is (grouping_push (IsPlaceOfLabel c.args.sparse.now c.args.labels.now)
      (length c.args.labels.now) c.loop-place.place _ c.loop-place.buckets w.push.new.self
      (record { inside = inside; cell = w.in-Some.cell.now; lit = lit; there = refl })
      (λ other is. sym is.there
      ∙ c.requires.labels.linked c.loop-place.place inside is.cell w.in-Some.cell.now is.lit lit)
      w.in_ok-push.ensures c.loop-place.invariant))
  | in_default w ↦ rw w.buckets-is (grouping_skip (IsPlaceOfLabel c.args.sparse.now c.args.labels.now)
      (length c.args.labels.now) c.loop-place.place c.loop-place.buckets
      (λ other is. (let none : length c.lit_by.result.now ≡ 0 =
      grind (arith, nat_tests, c.first.ensures.item, w.in_default.is) in
      absurd (omega (arith, is.lit.1, ap length c.lit_by.ensures, none)))) c.loop-place.invariant)
]

pub returns : goal.returns
returns c = grouping_all (IsPlaceOfLabel c.args.sparse.now c.args.labels.now)
    (length c.args.labels.now) c.loop-place.place c.loop-place.buckets
    (λ key i is. (let inside = is.inside in
    omega (arith, c.count_of-place-end.ensures.count, ap length c.places.ensures.places)))
    c.loop-place.invariant
