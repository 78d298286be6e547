-- Covers of all regions are safe torches.
use Rattle.std.proofs.Common.{◌≡◌, ℕ, zero, suc, ◌<◌, List, [], ◌∷◌, ◌++◌, length, map, get_or, slice_index_or, All}
use Rattle.std.proofs.Common.{Contains, refl, sym, ap, subst, arith, nat_eq}
use Rattle.std.specs.Prelude.{IsPermutation}
use Rattle.std.specs.Cmp.{unsigned_Decides}
use Rattle.std.proofs.lemmas.List.Elements.{All-head, All-tail, All-map, Contains-get_or, All-contains}
use Rattle.std.proofs.lemmas.List.Sorted.{All-permutation, Contains-permutation}
use Rattle.std.proofs.lemmas.Map.Keys.{IsDistinct-IsPermutation}
use Rattle.std.proofs.lemmas.Map.Made.{IsDistinct-from_AllPairs, AllPairs-from_IsDistinct}
use Rattle.cave_model.specs.Cave.{Cave, IsSound}
use Rattle.cave_model.specs.Plan.{AreDistinct, IsSafe, hung}
use Rattle.cave_model.specs.Regions.{all_cells}
use Rattle.cave_problem.specs.Coverage.{IsProblemOf}
use Rattle.cave_problem.proofs.CoverLemmas as problems
use Rattle.set_cover.specs.Instance.{LightsIn}
use Rattle.set_cover.specs.Sparse.{Sparse, ListsIn}
use Rattle.set_cover.proofs.ListLemmas.{none_in}
use Rattle.instance_regions.specs.Cover.{Covering, IsCover, places_of, regions_in}
use Rattle.instance_regions.specs.Splitting.{AreRegionsOf, IsPartOf, cells_of_each}
use Rattle.instance_regions.proofs.FlatLemmas.{in_all, in_one, distinct_all}
use Rattle.cave_regions.proofs.CaveLemmas.{place_of}

-- the places of each cover
abbrev places_of_each : List Covering → List (List ℕ)
places_of_each covers = map (λ cover. cover.places) covers

-- the places of all covers are those of each, one after another
flat_places : (covers : List Covering) → places_of covers ≡ all_cells (places_of_each covers)
flat_places [] = refl
flat_places (c ∷ cs) = ap (λ (l : List ℕ). c.places ++ l) (flat_places cs)

-- a cover with this index
record CoverAt (problem : Sparse) (covers : List Covering) (k : ℕ) : Type 0 where
  pub cover : Covering
  pub covers_it : IsCover cover
  pub part : IsPartOf problem cover.region
  pub cells : slice_index_or (cells_of_each (regions_in covers)) k [] ≡ cover.region.cells
  pub places : slice_index_or (places_of_each covers) k [] ≡ cover.places

-- each of the covers covers its region
cover_at : (problem : Sparse) (covers : List Covering) (k : ℕ) → k < length covers → All IsCover covers
    → All (IsPartOf problem) (regions_in covers) → CoverAt problem covers k
cover_at problem [] k h covering parts = absurd (omega arith)
cover_at problem (c ∷ cs) zero h covering parts = record {
  cover = c;
  covers_it = All-head IsCover c cs covering;
  part = All-head (IsPartOf problem) c.region (regions_in cs) parts;
  cells = refl;
  places = refl;
}
cover_at problem (c ∷ cs) (suc k) h covering parts =
    let rest = cover_at problem cs k (omega arith) (All-tail IsCover c cs covering)
    (All-tail (IsPartOf problem) c.region (regions_in cs) parts) in
    record {
      cover = rest.cover;
      covers_it = rest.covers_it;
      part = rest.part;
      cells = rest.cells;
      places = rest.places;
    }

-- an index with something is that of a cover
inside_places : (covers : List Covering) (k x : ℕ) → Contains (slice_index_or (places_of_each covers) k []) x
    → k < length covers
inside_places [] k x has = none_in x has
inside_places (c ∷ cs) zero x has = omega arith
inside_places (c ∷ cs) (suc k) x has = (let lt = inside_places cs k x has in omega arith)

-- a list that has a cell is that of one of the covers
inside_cells : (covers : List Covering) (k x : ℕ) → Contains (slice_index_or (cells_of_each (regions_in covers)) k []) x
    → k < length covers
inside_cells [] k x has = none_in x has
inside_cells (c ∷ cs) zero x has = omega arith
inside_cells (c ∷ cs) (suc k) x has = (let lt = inside_cells cs k x has in omega arith)

-- a test for equal numbers doesn't mind their order
flips : (x y : ℕ) → nat_eq x y ≡ nat_eq y x
flips x y = grind arith

-- distinct numbers stay so in another order
distinct_moved : (xs ys : List ℕ) → IsPermutation xs ys → AreDistinct xs → AreDistinct ys
distinct_moved xs ys moved once = AllPairs-from_IsDistinct unsigned_Decides ys
    (IsDistinct-IsPermutation _ flips xs ys moved (IsDistinct-from_AllPairs unsigned_Decides xs once))

module _ (cave : Cave) (problem : Sparse) (covers : List Covering) (is : IsProblemOf cave problem)
    (split : AreRegionsOf problem (regions_in covers)) (covering : All IsCover covers) where
  at : (k : ℕ) → k < length covers → CoverAt problem covers k
  at k h = cover_at problem covers k h covering split.each

  -- a place of a cover lights a cell of its region
  lights_one : (k place : ℕ) → Contains (slice_index_or (places_of_each covers) k []) place
      → (cell : ℕ) × Contains (slice_index_or (cells_of_each (regions_in covers)) k []) cell
      × ListsIn problem place cell
  lights_one k place has =
      let c = at k (inside_places covers k place has) in
      let lit = All-contains (λ p. Contains c.cover.region.places p × (cell : ℕ) × Contains c.cover.region.cells cell
      × LightsIn c.cover.region p cell) c.cover.places place c.covers_it.of_it
      (subst (λ (l : List ℕ). Contains l place) c.places has) in
      (lit.1, subst (λ (l : List ℕ). Contains l lit.1) (sym c.cells) lit.2, ((c.part.exact place lit.1).0 lit.3).1)

  apart : (place i j : ℕ) → Contains (slice_index_or (places_of_each covers) i []) place
      → Contains (slice_index_or (places_of_each covers) j []) place → i ≡ j
  apart place i j in_i in_j =
      let a = lights_one i place in_i in
      let b = lights_one j place in_j in
      split.parts.apart place a.0 b.0 i j (place_of problem place a.0 a.2) a.2 b.2 a.1 b.1

  each_distinct : All AreDistinct (places_of_each covers)
  each_distinct = All-map AreDistinct (λ cover. cover.places) covers (λ k d h. (covering k d h).distinct)

  flat : (place : ℕ) → Contains (places_of covers) place
      → (k : ℕ) × Contains (slice_index_or (places_of_each covers) k []) place
  flat place has = in_one (places_of_each covers) place
      (subst (λ (l : List ℕ). Contains l place) (flat_places covers) has)

  distinct : AreDistinct (places_of covers)
  distinct = subst AreDistinct (sym (flat_places covers)) (distinct_all (places_of_each covers) each_distinct apart)

  legal : (place : ℕ) → Contains (places_of covers) place → Contains problem.places place
  legal place has = (let k = flat place has in let lit = lights_one k.0 place k.1 in place_of problem place lit.0 lit.2)

  covered : (cell : ℕ) → Contains problem.cells cell
      → (place : ℕ) × Contains (places_of covers) place × ListsIn problem place cell
  covered cell has =
      let k = in_one (cells_of_each (regions_in covers)) cell ((split.parts.exact cell).1 has) in
      let c = at k.0 (inside_cells covers k.0 cell k.1) in
      let by = c.covers_it.covers cell (subst (λ (l : List ℕ). Contains l cell) c.cells k.1) in
      let there = in_all (places_of_each covers)
      k.0 by.0 (subst (λ (l : List ℕ). Contains l by.0) (sym c.places) by.1) in (
        by.0,
        subst (λ (l : List ℕ). Contains l by.0) (sym (flat_places covers)) there,
        ((c.part.exact by.0 cell).0 by.2).1,
      )

-- torches hung at covers of all regions are safe
pub covers_are_safe : (cave : Cave) (problem : Sparse) (covers : List Covering) (places : List ℕ) → IsSound cave
    → IsProblemOf cave problem → AreRegionsOf problem (regions_in covers) → All IsCover covers
    → IsPermutation (places_of covers) places → IsSafe cave (hung cave places)
covers_are_safe cave problem covers places sound is split covering moved =
    problems.cover_is_safe cave problem places sound is
    (distinct_moved (places_of covers) places moved (distinct cave problem covers is split covering))
    (All-permutation (Contains problem.places) (places_of covers) places moved
    (λ k d h. legal cave problem covers is split covering (get_or (places_of covers) k d)
    (Contains-get_or (places_of covers) k d h)))
    (λ cell has. (let by = covered cave problem covers is split covering cell has in
    (by.0, Contains-permutation (places_of covers) places by.0 moved by.1, by.2)))
