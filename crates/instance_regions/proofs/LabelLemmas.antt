-- The cells of one label make a region.
use Rattle.std.proofs.Common.{◌≡◌, ℕ, ◌<◌, List, length, slice_index, Contains, refl, sym, ap, subst, ◌∙◌, arith}
use Rattle.std.proofs.lemmas.List.Elements.{Contains-get_or}
use Rattle.cave_model.specs.Listing.{ListsAll}
use Rattle.set_cover.specs.Instance.{Instance, of_instance}
use Rattle.set_cover.specs.Sparse.{Sparse, IsSparse, ListsAt, of_sparse}
use Rattle.set_cover.proofs.OrderLemmas.{element_at, element_of, ascends, stands_once}
use Rattle.instance_regions.specs.Grouping.{IsCellOf, IsPlaceOfLabel}
use Rattle.instance_regions.specs.Joining.{AreJoined, AreLabels}
use Rattle.instance_regions.specs.Restricting.{AreIndices, IsSelfContained, IsRestriction}
use Rattle.instance_regions.specs.Splitting.{AreChained, IsPartOf, IsOnePiece}
use Rattle.instance_regions.specs.Splitting.AreChained.{here, onward}
use Rattle.instance_regions.specs.Trees.{HasLabel, IsRegionOf, IsLabel}
use Rattle.instance_regions.proofs.PartLemmas.{part_of, from_own, to_region, cell_at}
use Rattle.instance_regions.proofs.TreeLemmas.{joined_on, joined_back}

-- listed indices of some kind ascend below a limit
indices : (Kind : ℕ → Type 0) (these items : List ℕ) → ListsAll Kind these → ((k : ℕ) → Kind k → k < length items)
    → AreIndices these items
indices Kind these items lists inside = record {
  ascending = lists.ascending;
  inside = λ k d h. inside _ ((lists.exact _).0 (Contains-get_or these k d h));
}

-- a cell of a label has a label that is its own
pub is_label : (sparse : Sparse) (labels : List ℕ) (label cell : ℕ) → AreLabels sparse labels
    → IsCellOf labels label cell → IsLabel labels label
is_label sparse labels label cell are is = record {
  inside = (let low = are.low cell is.inside in omega (arith, is.inside, is.there));
  own = sym (ap (slice_index labels) is.there) ∙ are.top cell is.inside ∙ is.there;
}

module _ (sparse : Sparse) (labels own placed : List ℕ) (label : ℕ) (is : IsSparse sparse)
    (are : AreLabels sparse labels)
    (cells : ListsAll (IsCellOf labels label) own)
    (places : ListsAll (IsPlaceOfLabel sparse labels label) placed) where
  -- the cells of a label and the places that light them are closed
  pub closed_label : 0 < length own → IsSelfContained sparse own placed
  closed_label filled = record {
    filled = filled;
    cells = indices (IsCellOf labels label) own sparse.cells cells
        (λ k kind. (let inside = kind.inside in omega (arith, are.whole)));
    places = indices (IsPlaceOfLabel sparse labels label) placed sparse.places places (λ k kind. kind.inside);
    lighting = λ place has. (let kind = (places.exact place).0 has in (kind.cell, kind.lit));
    to_own = λ place cell has lit.
        (let kind = (places.exact place).0 has in
        let inside = is.of_cells place cell kind.inside lit in
        (cells.exact cell).1 (record {
          inside = omega (arith, inside, are.whole);
          there = are.linked place kind.inside cell kind.cell lit kind.lit ∙ kind.there;
        }));
    by_placed = λ place cell h has lit.
        (let kind = (cells.exact cell).0 has in
        (places.exact place).1 (record { inside = h; cell = cell; lit = lit; there = kind.there }));
  }

  module _ (region : Instance) (closed : IsSelfContained sparse own placed)
      (made : IsRestriction sparse own placed region) where
    part : IsPartOf sparse region
    part = part_of sparse region own placed is closed made

    labelled : (cell : ℕ) → Contains region.cells cell → HasLabel sparse labels label cell
    labelled cell has =
        let c = from_own sparse region own placed is closed made cell has in
        let kind = (cells.exact c.0).0 c.1 in
        record { index = c.0; inside = omega (arith, kind.inside, are.whole); there = c.2; labelled = kind.there }

    with_label : (cell : ℕ) → HasLabel sparse labels label cell → Contains region.cells cell
    with_label cell has = subst (Contains region.cells) has.there
        (to_region sparse region own placed is closed made
        has.index ((cells.exact has.index).1
        (record { inside = omega (arith, has.inside, are.whole); there = has.labelled })))

    -- the first cell is that of the label
    first : slice_index own 0 ≡ label
    first =
        let kind = (cells.exact (slice_index own 0)).0 (element_of own (slice_index own 0) 0 closed.filled refl) in
        let own_label = is_label sparse labels label (slice_index own 0) are kind in
        let has = (cells.exact label).1 (record { inside = own_label.inside; there = own_label.own }) in
        let low = are.low (slice_index own 0) kind.inside in
        let up = ascends own cells.ascending 0 has.0 (omega arith) has.1 in
        omega (arith, element_at own label has, kind.there)

    -- what is joined with a cell of the region is of the region
    stays : {a b : ℕ} → AreChained (of_sparse sparse) a b → Contains region.cells a
        → Contains region.cells b × AreChained (of_instance region) a b
    stays here has = (has, here)
    stays (onward {before = b} p cell l) has =
        let before = stays p has in
        let lit_before = (part.exact l.0 b).1 (before.0, l.1) in
        let here_is = labelled b before.0 in
        let same_place : l.1.place_index ≡ l.2.place_index =
        stands_once sparse.places is.places_ascend l.1.place_index l.2.place_index l.1.place_there.inside
        l.2.place_there.inside (l.1.place_there.there ∙ sym l.2.place_there.there) in
        let same_cell : l.1.cell_index ≡ here_is.index =
        stands_once sparse.cells is.cells_ascend l.1.cell_index here_is.index l.1.cell_there.inside here_is.inside
        (l.1.cell_there.there ∙ sym here_is.there) in
        let linked = are.linked l.2.place_index l.2.place_there.inside l.2.cell_index l.1.cell_index l.2.lit
        (subst (λ (q : ℕ). ListsAt sparse q l.1.cell_index) same_place l.1.lit) in
        let now = with_label cell (record {
          index = l.2.cell_index;
          inside = l.2.cell_there.inside;
          there = l.2.cell_there.there;
          labelled = linked ∙ ap (slice_index labels) same_cell
              ∙ here_is.labelled;
        }) in
        (now, onward before.1 cell (l.0, lit_before, (part.exact l.0 cell).1 (now, l.2)))

    one_piece : IsOnePiece region
    one_piece a b in_a in_b =
        let x = labelled a in_a in
        let y = labelled b in_b in
        let to_label : AreChained (of_sparse sparse) a (slice_index sparse.cells label) =
        subst (λ (c : ℕ). AreChained (of_sparse sparse) c (slice_index sparse.cells label)) x.there
        (subst (AreJoined sparse x.index) x.labelled (are.joined x.index x.inside)) in
        let also : AreChained (of_sparse sparse) b (slice_index sparse.cells label) =
        subst (λ (c : ℕ). AreChained (of_sparse sparse) c (slice_index sparse.cells label)) y.there
        (subst (AreJoined sparse y.index) y.labelled (are.joined y.index y.inside)) in
        (stays (joined_on to_label (joined_back also)) in_a).1

    -- and their restriction is the label's region
    pub region_of : IsRegionOf sparse labels label region
    region_of = record {
      part = part;
      cells = λ cell. (λ has. labelled cell has, λ has. with_label cell has);
      least = cell_at sparse region own placed is closed made 0 closed.filled ∙ ap (slice_index sparse.cells) first;
      one = one_piece;
    }
