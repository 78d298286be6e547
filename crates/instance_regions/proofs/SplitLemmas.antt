-- The regions of all labels are those of the instance.
use Rattle.std.proofs.Common.{◌≡◌, ℕ, ◌+◌, ◌<◌, ◌≤◌, List, [], ◌∷◌, ◌++◌, length, map, get_or, slice_index}
use Rattle.std.proofs.Common.{slice_index_or, All, Contains, refl, sym, ap, subst, ◌∙◌, arith, inl, inr}
use Rattle.std.proofs.Common.{length-append}
use Rattle.std.specs.List.Sorted.{IsStrictlyIncreasing}
use Rattle.std.proofs.lemmas.Bool.{cases_lt}
use Rattle.std.proofs.lemmas.List.{length-map, get_or-map, get_or_past, get_or_push, get_or_append_left}
use Rattle.std.proofs.lemmas.List.Elements.{All-map}
use Rattle.std.proofs.lemmas.List.Kept.{AllPairs-from_increasing}
use Rattle.cave_model.specs.Plan.{AreDistinct}
use Rattle.cave_model.specs.Regions.{ArePartsOf, all_cells}
use Rattle.cave_model.proofs.ListingLemmas.{ListsBelow, lists_skip, lists_push}
use Rattle.set_cover.proofs.ListLemmas.{none_in}
use Rattle.set_cover.specs.Instance.{Instance}
use Rattle.set_cover.specs.Sparse.{Sparse, IsSparse, ListsIn, ListsAt, of_sparse}
use Rattle.set_cover.proofs.OrderLemmas.{element_at, element_of, rises, stands_once}
use Rattle.instance_regions.specs.Joining.{AreLabels}
use Rattle.instance_regions.specs.Splitting.{AreRegionsOf, IsPartOf, cells_of_each, least_cell}
use Rattle.instance_regions.specs.Trees.{HasLabel, IsRegionOf, IsLabel}
use Rattle.instance_regions.proofs.FlatLemmas.{in_all, in_one, distinct_all}

-- the regions of the labels below this one
pub record Splitting (sparse : Sparse) (labels : List ℕ) (count : ℕ) (regions : List Instance) : Type 0 where
  pub roots : List ℕ
  pub listed : ListsBelow (IsLabel labels) count roots
  pub long : length regions ≡ length roots
  pub each : (k : ℕ) (d : Instance) → k < length roots
      → IsRegionOf sparse labels (slice_index roots k) (get_or regions k d)

-- a cell that is no label begins no region
pub splitting_skip : (sparse : Sparse) (labels : List ℕ) (count : ℕ) (regions : List Instance)
    → (IsLabel labels count → ⊥) → Splitting sparse labels count regions
    → Splitting sparse labels (count + 1) regions
splitting_skip sparse labels count regions other s =
    record {
      roots = s.roots;
      listed = lists_skip (IsLabel labels) count s.roots s.listed other;
      long = s.long;
      each = s.each;
    }

-- a label's region is the next
pub splitting_push : (sparse : Sparse) (labels : List ℕ) (count : ℕ) (regions : List Instance) (region : Instance)
    → IsLabel labels count → IsRegionOf sparse labels count region → Splitting sparse labels count regions
    → Splitting sparse labels (count + 1) (regions ++ region ∷ [])
splitting_push sparse labels count regions region label is s = record {
  roots = s.roots ++ count ∷ [];
  listed = lists_push (IsLabel labels) count s.roots s.listed label;
  long = omega (arith, s.long, length-append regions (region ∷ []), length-append s.roots (count ∷ []));
  each = λ k d h. (elim (cases_lt k (length s.roots)) [
    | inl lt ↦ subst (λ (l : ℕ). IsRegionOf sparse labels l (get_or (regions ++ region ∷ []) k d))
        (sym (get_or_append_left s.roots (count ∷ []) 0 k lt))
        (subst (IsRegionOf sparse labels (slice_index s.roots k))
        (sym (get_or_append_left regions (region ∷ []) d k (omega (arith, s.long)))) (s.each k d lt))
    | inr le ↦ (let last : k ≡ length s.roots = omega (arith, length-append s.roots (count ∷ [])) in
        subst (λ (l : ℕ). IsRegionOf sparse labels l (get_or (regions ++ region ∷ []) k d))
        (sym (get_or_push s.roots count 0 k (sym last)))
        (subst (IsRegionOf sparse labels count) (sym (get_or_push regions region d k (s.long ∙ sym last))) is))
  ]);
}

abbrev no_region : Instance
no_region = record { cells = []; places = []; width = 0; words = [] }

module _ (sparse : Sparse) (labels : List ℕ) (regions : List Instance) (count : ℕ) (kept : IsSparse sparse)
    (are : AreLabels sparse labels) (all : length labels ≤ count) (s : Splitting sparse labels count regions) where
  abbrev lists : List (List ℕ)
  lists = cells_of_each regions

  at : (k : ℕ) → k < length s.roots → IsRegionOf sparse labels (slice_index s.roots k) (get_or regions k no_region)
  at k h = s.each k no_region h

  list_at : (k : ℕ) → k < length s.roots → slice_index_or lists k [] ≡ (get_or regions k no_region).cells
  list_at k h = get_or-map (λ region. region.cells) regions k no_region [] (omega (arith, s.long))

  -- a cell in a list has the label of that region
  found : (k x : ℕ) → Contains (slice_index_or lists k []) x
      → (k < length s.roots) × HasLabel sparse labels (slice_index s.roots k) x
  found k x has = elim (cases_lt k (length s.roots)) [
    | inl lt ↦ (lt, ((at k lt).cells x).0 (subst (λ (l : List ℕ). Contains l x) (list_at k lt) has))
    | inr past ↦ (let none : slice_index_or lists k [] ≡ [] = get_or_past lists k []
        (omega (arith, s.long, length-map regions (λ (region : Instance). region.cells))) in
        none_in x (subst (λ (l : List ℕ). Contains l x) none has))
  ]

  -- regions of one label are one
  same_root : (i j : ℕ) → i < length s.roots → j < length s.roots
      → slice_index s.roots i ≡ slice_index s.roots j → i ≡ j
  same_root i j hi hj e = stands_once s.roots s.listed.ascending i j hi hj e

  -- cells that one place lights are of one region
  apart : (place a b i j : ℕ) → ListsIn sparse place a → ListsIn sparse place b
      → Contains (slice_index_or lists i []) a → Contains (slice_index_or lists j []) b → i ≡ j
  apart place a b i j lit_a lit_b in_i in_j =
      let x = found i a in_i in
      let y = found j b in_j in
      let same_place : lit_a.place_index ≡ lit_b.place_index =
      stands_once sparse.places kept.places_ascend lit_a.place_index lit_b.place_index lit_a.place_there.inside
      lit_b.place_there.inside (lit_a.place_there.there ∙ sym lit_b.place_there.there) in
      let cell_a : lit_a.cell_index ≡ x.1.index =
      stands_once sparse.cells kept.cells_ascend lit_a.cell_index x.1.index lit_a.cell_there.inside x.1.inside
      (lit_a.cell_there.there ∙ sym x.1.there) in
      let cell_b : lit_b.cell_index ≡ y.1.index =
      stands_once sparse.cells kept.cells_ascend lit_b.cell_index y.1.index lit_b.cell_there.inside y.1.inside
      (lit_b.cell_there.there ∙ sym y.1.there) in
      let linked = are.linked lit_b.place_index lit_b.place_there.inside lit_a.cell_index lit_b.cell_index
      (subst (λ (q : ℕ). ListsAt sparse q lit_a.cell_index) same_place lit_a.lit) lit_b.lit in
      same_root i j x.0 y.0 (sym x.1.labelled ∙ sym (ap (slice_index labels) cell_a) ∙ linked
      ∙ ap (slice_index labels) cell_b ∙ y.1.labelled)

  once : (x i j : ℕ) → Contains (slice_index_or lists i []) x → Contains (slice_index_or lists j []) x → i ≡ j
  once x i j in_i in_j =
      let a = found i x in_i in
      let b = found j x in_j in
      let same : a.1.index ≡ b.1.index =
      stands_once sparse.cells kept.cells_ascend a.1.index b.1.index a.1.inside b.1.inside
      (a.1.there ∙ sym b.1.there) in
      same_root i j a.0 b.0 (sym a.1.labelled ∙ ap (slice_index labels) same ∙ b.1.labelled)

  each_part : All (IsPartOf sparse) regions
  each_part = λ k d h. (s.each k d (omega (arith, h, s.long))).part

  distinct : All AreDistinct lists
  distinct = All-map AreDistinct (λ region. region.cells) regions (λ k d h i j e lt g.
      (λ same. (let r = AllPairs-from_increasing (get_or regions k d).cells (each_part k d h).kept.kept.cells_ascend
      i j e lt g in
      absurd (omega (arith, r, same)))))

  -- each cell of the instance is in some list
  listed : (x : ℕ) → Contains sparse.cells x → Contains (all_cells lists) x
  listed x has =
      let inside : has.0 < length labels = omega (arith, has.1, are.whole) in
      let low = are.low has.0 inside in
      let label : IsLabel labels (slice_index labels has.0) =
      record { inside = omega arith; own = are.top has.0 inside } in
      let k = s.listed.all_such (slice_index labels has.0) (omega (arith, label.inside, all)) label in
      let root = element_at s.roots (slice_index labels has.0) k in
      let in_region = ((at k.0 k.1).cells x).1
      (record { index = has.0; inside = has.1; there = element_at sparse.cells x has; labelled = sym root }) in
      in_all lists k.0 x (subst (λ (l : List ℕ). Contains l x) (sym (list_at k.0 k.1)) in_region)

  in_sparse : (x : ℕ) → Contains (all_cells lists) x → Contains sparse.cells x
  in_sparse x has = (let k = in_one lists x has in let f = found k.0 x k.1 in
      element_of sparse.cells x f.1.index f.1.inside f.1.there)

  parts : ArePartsOf (of_sparse sparse) (Contains sparse.cells) lists
  parts = record {
    filled = All-map (λ cells. 0 < length cells) (λ region. region.cells) regions
        (λ k d h. (each_part k d h).kept.filled);
    once = distinct_all lists distinct once;
    exact = λ cell. (λ has. in_sparse cell has, λ has. listed cell has);
    apart = λ place a b i j legal lit_a lit_b in_i in_j. apart place a b i j lit_a lit_b in_i in_j;
  }

  ordered : IsStrictlyIncreasing (map least_cell regions)
  ordered k h =
      let next : k + 1 < length s.roots = omega (arith, s.long, length-map regions least_cell) in
      let here : k < length s.roots = omega arith in
      let a = get_or-map least_cell regions k no_region 0 (omega (arith, s.long)) in
      let b = get_or-map least_cell regions (k + 1) no_region 0 (omega (arith, s.long)) in
      let up = s.listed.ascending k next in
      let label = (s.listed.are_such (slice_index s.roots (k + 1))
      (element_of s.roots (slice_index s.roots (k + 1)) (k + 1) next refl)).1 in
      let inside : slice_index s.roots (k + 1) < length sparse.cells = omega (arith, label.inside, are.whole) in
      let r = rises sparse.cells kept.cells_ascend (slice_index s.roots k) (slice_index s.roots (k + 1)) up inside in
      omega (arith, a, b, (at k here).least, (at (k + 1) next).least)

  -- after the last cell these are the regions
  pub regions_of : AreRegionsOf sparse regions
  regions_of = record {
    parts = parts;
    each = each_part;
    finest = λ k d h. (s.each k d (omega (arith, h, s.long))).one;
    ordered = ordered;
  }
