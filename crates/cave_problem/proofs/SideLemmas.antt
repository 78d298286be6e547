-- The sides of cells are listed.
use Rattle.std.proofs.Common.{◌≡◌, ℕ, ◌+◌, ◌*◌, ◌<◌, ◌≤◌, List, length, set, slice_index, get_or, Option, Some}
use Rattle.std.proofs.Common.{None, refl, sym, subst, ◌∙◌, arith, inl, inr}
use Rattle.std.proofs.Common.{get_or-set_same, get_or-set_other, length-set}
use Rattle.std.specs.Prelude.{IfSome}
use Rattle.std.proofs.lemmas.Bool.{cases_lt, cases_eq}
use Rattle.cave_base.specs.Box.{Point, cell_count}
use Rattle.cave_model.specs.Cells.{neighbours_of}
use Rattle.cave_model.specs.Cave.{Cave}
use Rattle.cave_model.specs.Light.{entering_cost}
use Rattle.cave_model.proofs.NeighbourLemmas.{listed_inside}
use Rattle.cave_problem.specs.Reach.{AreInside, AreSides, AreSidesOf, IsSide}

-- what lies beyond a face lies in the box
pub beyond_inside : (size : Point) (cell face : ℕ) (beyond : Option ℕ) → cell < cell_count size
    → get_or (neighbours_of size cell) face None ≡ beyond → IfSome beyond (λ to. to < cell_count size)
beyond_inside size cell face None h e = tt
beyond_inside size cell face (Some to) h e = listed_inside size cell face to h e

-- a cell that no light enters is each of its sides
pub is_itself : (cave : Cave) (cell : ℕ) (beyond : Option ℕ) → 15 ≤ entering_cost cave cell
    → IsSide cave cell beyond cell
is_itself cave cell beyond opaque = record { leads = inl refl; opens = λ other e lets_in. absurd (omega arith) }

-- the next side of a cell
pub sides_next : (cave : Cave) (cell face to : ℕ) (old new : List ℕ) → 6 * cell + face < length new
    → IsSide cave cell (get_or (neighbours_of cave.size cell) face None) to → AreSidesOf cave cell face old new
    → AreSidesOf cave cell (face + 1) old (set new (6 * cell + face) to)
sides_next cave cell face to old new room is s = record {
  whole = length-set new (6 * cell + face) to ∙ s.whole;
  here = λ any lt. elim (cases_eq any face) [
    | inl e ↦ subst (λ (f : ℕ). IsSide cave cell (get_or (neighbours_of cave.size cell) f None)
        (slice_index (set new (6 * cell + face) to) (6 * cell + f))) (sym e)
        (subst (IsSide cave cell (get_or (neighbours_of cave.size cell) face None))
        (sym (get_or-set_same new (6 * cell + face) to 0 room)) is)
    | inr ne ↦ subst (IsSide cave cell (get_or (neighbours_of cave.size cell) any None))
        (sym (get_or-set_other new (6 * cell + face) (6 * cell + any) to 0 (λ e. ne (omega arith))))
        (s.here any (omega arith))
  ];
  rest = λ k lt. get_or-set_other new (6 * cell + face) k to 0 (λ e. omega arith) ∙ s.rest k lt;
}

-- the sides of the next cell
pub sides_more : (cave : Cave) (cell : ℕ) (old new : List ℕ) → AreSides cave cell old
    → AreSidesOf cave cell 6 old new → AreSides cave (cell + 1) new
sides_more cave cell old new s more = record {
  whole = more.whole ∙ s.whole;
  each = λ other face lt small. elim (cases_lt other cell) [
    | inl before ↦ subst (IsSide cave other (get_or (neighbours_of cave.size other) face None))
        (sym (more.rest (6 * other + face) (omega arith))) (s.each other face before small)
    | inr le ↦ (let last : cell ≡ other = omega arith in
        subst (λ (c : ℕ). IsSide cave c (get_or (neighbours_of cave.size c) face None)
        (slice_index new (6 * c + face))) last (more.here face small))
  ];
}

-- sides lie in the box
pub sides_within : (cave : Cave) (sides : List ℕ) → AreSides cave (cell_count cave.size) sides
    → AreInside (cell_count cave.size) sides
sides_within cave sides s = record {
  whole = s.whole;
  each = λ cell face h small. (let is = s.each cell face h small in elim is.leads [
    | inl self ↦ omega arith
    | inr beyond ↦ listed_inside cave.size cell face (slice_index sides (6 * cell + face)) h beyond
  ]);
}
