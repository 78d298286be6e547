-- A step to a neighbour and the way back.
use Rattle.std.proofs.Common.{◌≡◌, ℕ, ◌+◌, ◌-◌, ◌<◌, Bool, true, false, nat_lt, Option, Some, None, option_map, refl}
use Rattle.std.proofs.Common.{ap, subst, ◌∙◌, arith, ltb-true, lt-ltb}
use Rattle.cave_base.specs.Box.{Point, cell_count, number, coordinates}
use Rattle.cave_base.proofs.CellLemmas.{IsWithin, number-coordinates, coordinates-number, coordinates_within}
use Rattle.cave_base.proofs.CellLemmas.{number_below}
use Rattle.cave_model.specs.Cells.{Face, west, east, north, south, below, above, point_if, step, beyond, AreNeighbours}

-- points with equal coordinates are equal
point_is : (x y z x' y' z' : ℕ) → x ≡ x' → y ≡ y' → z ≡ z'
    → ◌≡◌ {A = Point} (record { x = x; y = y; z = z }) (record { x = x'; y = y'; z = z' })
point_is x y z x' y' z' p q r = cc

-- the face on the other side
abbrev pub opposite : Face → Face
opposite west = east
opposite east = west
opposite north = south
opposite south = north
opposite below = above
opposite above = below

-- a step that is made
made : (fits : Bool) (at to : Point) → point_if fits at ≡ Some to → (fits ≡ true) × (at ≡ to)
made true at to e = (refl, cc)
made false at to e = absurd (cc)

-- a point that fits is made
makes : (fits : Bool) (at to : Point) → fits ≡ true → at ≡ to → point_if fits at ≡ Some to
makes fits at to e f = cc

-- a step stays in the box, and the opposite one leads back
pub record LeadsBack (size at : Point) (face : Face) (to : Point) : Type 0 where
  pub within : IsWithin size to
  pub back : step size (opposite face) to ≡ Some at

-- a step through a face leads back through the opposite one
pub leads_back : (size at : Point) (face : Face) (to : Point) → IsWithin size at → step size face at ≡ Some to
    → LeadsBack size at face to
leads_back size at west to w e =
    let m = made (nat_lt 0 at.x) (record at { x = at.x - 1 }) to e in
    let lt : 0 < at.x = ltb-true 0 at.x m.0 in
    let lt' : at.x - 1 + 1 < size.x = omega (arith, w.x_in) in
    subst (LeadsBack size at west) m.1 (record {
      within = record { x_in = omega (arith, w.x_in); y_in = w.y_in; z_in = w.z_in };
      back = makes _ _ at (lt-ltb (at.x - 1 + 1) size.x lt') (point_is _ _ _ _ _ _ (omega arith) refl refl);
    })
leads_back size at east to w e =
    let m = made (nat_lt (at.x + 1) size.x) (record at { x = at.x + 1 }) to e in
    let lt : at.x + 1 < size.x = ltb-true (at.x + 1) size.x m.0 in
    let lt' : 0 < at.x + 1 = omega arith in
    subst (LeadsBack size at east) m.1 (record {
      within = record { x_in = lt; y_in = w.y_in; z_in = w.z_in };
      back = makes _ _ at (lt-ltb 0 (at.x + 1) lt') (point_is _ _ _ _ _ _ (omega arith) refl refl);
    })
leads_back size at north to w e =
    let m = made (nat_lt 0 at.z) (record at { z = at.z - 1 }) to e in
    let lt : 0 < at.z = ltb-true 0 at.z m.0 in
    let lt' : at.z - 1 + 1 < size.z = omega (arith, w.z_in) in
    subst (LeadsBack size at north) m.1 (record {
      within = record { x_in = w.x_in; y_in = w.y_in; z_in = omega (arith, w.z_in) };
      back = makes _ _ at (lt-ltb (at.z - 1 + 1) size.z lt') (point_is _ _ _ _ _ _ refl refl (omega arith));
    })
leads_back size at south to w e =
    let m = made (nat_lt (at.z + 1) size.z) (record at { z = at.z + 1 }) to e in
    let lt : at.z + 1 < size.z = ltb-true (at.z + 1) size.z m.0 in
    let lt' : 0 < at.z + 1 = omega arith in
    subst (LeadsBack size at south) m.1 (record {
      within = record { x_in = w.x_in; y_in = w.y_in; z_in = lt };
      back = makes _ _ at (lt-ltb 0 (at.z + 1) lt') (point_is _ _ _ _ _ _ refl refl (omega arith));
    })
leads_back size at below to w e =
    let m = made (nat_lt 0 at.y) (record at { y = at.y - 1 }) to e in
    let lt : 0 < at.y = ltb-true 0 at.y m.0 in
    let lt' : at.y - 1 + 1 < size.y = omega (arith, w.y_in) in
    subst (LeadsBack size at below) m.1 (record {
      within = record { x_in = w.x_in; y_in = omega (arith, w.y_in); z_in = w.z_in };
      back = makes _ _ at (lt-ltb (at.y - 1 + 1) size.y lt') (point_is _ _ _ _ _ _ refl (omega arith) refl);
    })
leads_back size at above to w e =
    let m = made (nat_lt (at.y + 1) size.y) (record at { y = at.y + 1 }) to e in
    let lt : at.y + 1 < size.y = ltb-true (at.y + 1) size.y m.0 in
    let lt' : 0 < at.y + 1 = omega arith in
    subst (LeadsBack size at above) m.1 (record {
      within = record { x_in = w.x_in; y_in = lt; z_in = w.z_in };
      back = makes _ _ at (lt-ltb 0 (at.y + 1) lt') (point_is _ _ _ _ _ _ refl (omega arith) refl);
    })

-- what a map of an option gives came of something
mapped : (f : Point → ℕ) (o : Option Point) (n : ℕ) → option_map f o ≡ Some n
    → (at : Point) × (o ≡ Some at) × (f at ≡ n)
mapped f None n e = absurd (cc)
mapped f (Some at) n e = (at, refl, cc)

-- the way back from a cell beyond a face
pub record IsMutual (size : Point) (face : Face) (first second : ℕ) : Type 0 where
  pub inside : second < cell_count size
  pub back : beyond size (opposite face) second ≡ Some first

-- the cell beyond a face has the first beyond the opposite one
pub mutual_beyond : (size : Point) (face : Face) (first second : ℕ) → first < cell_count size
    → beyond size face first ≡ Some second → IsMutual size face first second
mutual_beyond size face first second h e =
    let m = mapped (number size) (step size face (coordinates size first)) second e in
    let b = leads_back size (coordinates size first) face m.0 (coordinates_within size first h) m.1 in
    subst (IsMutual size face first) m.2 (record {
      inside = number_below size m.0 b.within;
      back = ap (λ (at : Point). option_map (number size) (step size (opposite face) at))
          (coordinates-number size m.0 b.within)
          ∙ ap (option_map (number size)) b.back
          ∙ ap (λ (n : ℕ). Some n) (number-coordinates size first);
    })

-- neighbours are so both ways
pub neighbours_mutual : (size : Point) (first second : ℕ) → AreNeighbours size first second
    → AreNeighbours size second first
neighbours_mutual size first second n =
    let m = mutual_beyond size n.face first second n.inside n.there in
    record { inside = m.inside; face = opposite n.face; there = m.back }
