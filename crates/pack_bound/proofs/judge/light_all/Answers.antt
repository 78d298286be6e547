use Rattle.std.proofs.Common.{List, ℕ, ◌<◌, ap, length, take, slice_index, subst, sym, arith}
use Rattle.std.proofs.lemmas.List.{take_more}
use Rattle.set_cover.specs.Bits.{IsWithout}
use Rattle.pack_bound.specs.Judged.{AreLighting}
use Rattle.pack_bound.proofs.JudgeLemmas.{not_has, lighting_more}
use Rattle.std.proofs.Common.{refl, take_all, ◌≤◌}
use Rattle.std.proofs.lemmas.Bool.{false≢true}
use Rattle.pack_bound.proofs.JudgeLemmas.{not_inside, seen_twice, lighting_once}
use Rattle.pack_bound.specs.Judged.{AreInsideOnce}
use Rattle.pack_bound.proofs.judge.light_all.Goals.{then-place-count-via-then-place-count}
use Rattle.pack_bound.proofs.judge.light_all.Goals.{then-place-count-via-else-place-count+then-has}
use Rattle.pack_bound.proofs.judge.light_all.Goals as goal

pub loop-place-preserved : goal.loop-place-preserved
loop-place-preserved c =
    let region = c.args.region.now in let places = c.args.places.now in let i = c.loop-place.place-index in
    let place = slice_index places i in
    let inside : place < length region.places = omega (arith, ap length c.places-count.ensures.places) in
    subst (λ (l : List ℕ). AreLighting region l c.clear.new.words c.add.new.words)
    (sym (take_more places i 0 c.loop-place-test.true))
    (lighting_more region (take i places) c.loop-place.left c.loop-place.seen c.clear.new.words c.add.new.words place
    c.loop-place.invariant inside
    (not_has c.loop-place.seen c.loop-place.seen place c.has.result refl c.has.ensures c.if-has.false)
    c.add.ensures
    (subst (λ (row : List ℕ). IsWithout c.loop-place.left row c.clear.new.words) c.row_at.ensures.row c.clear.ensures))

pub returns-then-place-count-clause-once : goal.returns-then-place-count-clause-once
returns-then-place-count-clause-once c =
    let region = c.args.region.now in let places = c.args.places.now in let i = c.loop-place.place-index in (
      λ t. absurd (false≢true t),
      λ o. absurd (elim c.then-place-count.branch [
        | then-place-count-via-then-place-count w ↦ not_inside region places i c.loop-place-test.true
            (omega (arith, ap length c.places-count.ensures.places, w.if-place-count.true)) o
        | then-place-count-via-else-place-count+then-has w ↦ seen_twice region places c.loop-place.left
            c.loop-place.seen i c.loop-place-test.true c.loop-place.invariant (w.has.ensures.0 w.if-has.true) o
      ]),
    )

pub returns-clause-once : goal.returns-clause-once
returns-clause-once c =
    let places = c.args.places.now in
    let all : length places ≤ c.loop-place.place-index = omega arith in (
      λ t. subst (AreInsideOnce c.args.region.now) (take_all c.loop-place.place-index places all)
          (lighting_once c.args.region.now (take c.loop-place.place-index places) c.loop-place.left c.loop-place.seen
          c.loop-place.invariant),
      λ o. refl,
    )
