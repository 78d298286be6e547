-- The list of neighbours.
use Rattle.std.proofs.Common.{◌≡◌, ℕ, zero, suc, ◌<◌, get_or, Some, None, refl, arith}
use Rattle.cave_base.specs.Box.{Point, cell_count}
use Rattle.cave_model.specs.Cells.{Face, west, east, north, south, below, above, beyond, neighbours_of, AreNeighbours}
use Rattle.cave_model.proofs.FaceLemmas.{neighbours_mutual}

-- a neighbour that is listed lies beyond a face
face_at : (size : Point) (from j to : ℕ) → get_or (neighbours_of size from) j None ≡ Some to
    → (face : Face) × (beyond size face from ≡ Some to)
face_at size from zero to e = (west, e)
face_at size from (suc zero) to e = (east, e)
face_at size from (suc (suc zero)) to e = (north, e)
face_at size from (suc (suc (suc zero))) to e = (south, e)
face_at size from (suc (suc (suc (suc zero)))) to e = (below, e)
face_at size from (suc (suc (suc (suc (suc zero))))) to e = (above, e)
face_at size from (suc (suc (suc (suc (suc (suc j)))))) to e = absurd cc

-- a cell of the list shares a face
pub listed_shares : (size : Point) (from j to : ℕ) → from < cell_count size
    → get_or (neighbours_of size from) j None ≡ Some to → AreNeighbours size from to
listed_shares size from j to h e = let f = face_at size from j to e in record { inside = h; face = f.0; there = f.1 }

-- and it lies in the box
pub listed_inside : (size : Point) (from j to : ℕ) → from < cell_count size
    → get_or (neighbours_of size from) j None ≡ Some to → to < cell_count size
listed_inside size from j to h e = (neighbours_mutual size from to (listed_shares size from j to h e)).inside

-- the number of a face in the list of neighbours
pub index_of : Face → ℕ
index_of west = 0
index_of east = 1
index_of north = 2
index_of south = 3
index_of below = 4
index_of above = 5

-- there are six
pub index_below : (face : Face) → index_of face < 6
unfolding index_of
index_below west = omega arith
index_below east = omega arith
index_below north = omega arith
index_below south = omega arith
index_below below = omega arith
index_below above = omega arith

-- at the number of a face stands the cell beyond it
pub listed_at : (size : Point) (from : ℕ) (face : Face)
    → get_or (neighbours_of size from) (index_of face) None ≡ beyond size face from
unfolding index_of
listed_at size from west = refl
listed_at size from east = refl
listed_at size from north = refl
listed_at size from south = refl
listed_at size from below = refl
listed_at size from above = refl
