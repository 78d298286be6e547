use Rattle.std.proofs.Common.{List, ℕ, take, slice_index, Contains, subst, sym}
use Rattle.std.specs.List.Sorted.{IsStrictlyIncreasing}
use Rattle.std.proofs.lemmas.List.{take_more}
use Rattle.std.proofs.lemmas.List.Elements.{Contains-get_or}
use Rattle.proof_rules.proofs.ListLemmas.{at_member}
use Rattle.set_cover.specs.Instance.{StandsAt}
use Rattle.pack_bound.specs.Naming.{AreIndicesOf}
use Rattle.pack_bound.proofs.NamingLemmas.{indices_more}
use Rattle.pack_bound.proofs.numbering.indices_of.Goals.{in-Some+in_ok-push-in-Some, in-None}
use Rattle.pack_bound.proofs.numbering.indices_of.Goals as goal

pub find-requires : goal.find-requires
find-requires c = record {
  ascending = subst IsStrictlyIncreasing
      (sym c.places-all.ensures.places) c.places-all.ensures.kept.kept.places_ascend;
}

pub loop-place-preserved : goal.loop-place-preserved
loop-place-preserved c =
    let region = c.args.region.now in let places = c.args.places.now in let i = c.loop-place.place-index in
    let place = slice_index places i in
    subst (λ (l : List ℕ). AreIndicesOf region l c.match-find.indices.items)
    (sym (take_more places i 0 c.loop-place-test.true))
    (elim c.match-find.branch [
      | in-Some+in_ok-push-in-Some w ↦ rw w.indices-is
          (indices_more region (take i places) c.loop-place.indices.items w.push.new.self.items place
          w.place_index.result w.in-Some.index c.loop-place.invariant
          (subst (λ (l : List ℕ). StandsAt l w.in-Some.index place) c.places-all.ensures.places w.in-Some.ensures)
          w.place_index.ensures w.in_ok-push-in-Some.ensures.items)
      | in-None w ↦ absurd (w.in-None.ensures
          (subst (λ (l : List ℕ). Contains l place) (sym c.places-all.ensures.places)
          (at_member (Contains region.places) places place
          c.requires (Contains-get_or places i 0 c.loop-place-test.true))))
    ])
