use Rattle.std.proofs.Common.{◌≡◌, ◌<◌, ℕ, List, length, slice_index, Contains, refl, ap, subst, arith}
use Rattle.std.proofs.lemmas.Bool.Decides.{nat_tests}
use Rattle.cave_model.proofs.ListingLemmas.{lists_skip, lists_push, lists_all}
use Rattle.set_cover.proofs.OrderLemmas.{element_of}
use Rattle.instance_regions.specs.Restricting.{IsLighting}
use Rattle.instance_regions.proofs.entire.lighting.Goals.{then-not-is_empty+in_ok-push, else-not-is_empty}
use Rattle.instance_regions.proofs.entire.lighting.Goals as goal

pub loop-place-preserved : goal.loop-place-preserved
loop-place-preserved c = elim c.if-not-is_empty.branch [
  | then-not-is_empty+in_ok-push w ↦
      (let filled : 0 < length c.lit_by.result.now =
      grind (arith, nat_tests, c.is_empty.ensures, w.if-not-is_empty.true) in
      let first = slice_index c.lit_by.result.now 0 in
      rw (w.placed-is, w.in_ok-push.ensures.items)
      (lists_push (IsLighting c.args.sparse.now)
      c.loop-place.place c.loop-place.placed.items c.loop-place.invariant (record {
        inside = omega (
          arith,
          c.loop-place-test.true,
          c.count_of-place-end.ensures.count,
          ap length c.places.ensures.places,
        );
        cell = first;
        lit = subst (λ (lit : List ℕ). Contains lit first) c.lit_by.ensures
            (element_of c.lit_by.result.now first 0 filled refl);
      })))
  | else-not-is_empty w ↦
      (let none : length c.lit_by.result.now ≡ 0 =
      grind (arith, nat_tests, c.is_empty.ensures, w.if-not-is_empty.false) in
      rw w.placed-is
      (lists_skip (IsLighting c.args.sparse.now) c.loop-place.place c.loop-place.placed.items c.loop-place.invariant
      (λ is. absurd (omega (arith, is.lit.1, ap length c.lit_by.ensures, none)))))
]

pub returns : goal.returns
returns c = lists_all (IsLighting c.args.sparse.now) c.loop-place.place c.loop-place.placed.items
    (λ place is. (let inside = is.inside in
    omega (
      arith,
      c.loop-place-test.false,
      c.count_of-place-end.ensures.count,
      ap length c.places.ensures.places,
    ))) c.loop-place.invariant
