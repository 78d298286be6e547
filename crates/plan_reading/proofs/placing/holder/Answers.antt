use Rattle.std.proofs.Common.{◌≡◌, ℕ, ◌<◌, List, Option, Some, None, get_or, ap, sym}
use Rattle.std.specs.Prelude.{IfSome}
use Rattle.cave_base.specs.Box.{Point, cell_count}
use Rattle.cave_model.specs.Cells.{neighbours_of}
use Rattle.cave_model.proofs.NeighbourLemmas.{listed_inside}
use Rattle.plan_reading.proofs.placing.holder.Goals as goal

-- a neighbour that is one lies in the box
some_inside : (size : Point) (from j : ℕ) (found : Option ℕ) → from < cell_count size
    → get_or (neighbours_of size from) j None ≡ found → IfSome found (λ to. to < cell_count size)
some_inside size from j None inside e = tt
some_inside size from j (Some to) inside e = listed_inside size from j to inside e

-- each of them does
inside : (size : Point) (from j : ℕ) (listed : List (Option ℕ)) → from < cell_count size
    → listed ≡ neighbours_of size from → IfSome (get_or listed j None) (λ to. to < cell_count size)
inside size from j listed in_box e =
    some_inside size from j (get_or listed j None) in_box (ap (λ (l : List (Option ℕ)). get_or l j None) (sym e))

pub returns-in-Floor-clause-in_box : goal.returns-in-Floor-clause-in_box
returns-in-Floor-clause-in_box c =
    inside c.args.world.now.size c.args.cell 4 c.neighbours.result c.requires.in_box c.neighbours.ensures

pub returns-in-North-clause-in_box : goal.returns-in-North-clause-in_box
returns-in-North-clause-in_box c =
    inside c.args.world.now.size c.args.cell 3 c.neighbours.result c.requires.in_box c.neighbours.ensures

pub returns-in-South-clause-in_box : goal.returns-in-South-clause-in_box
returns-in-South-clause-in_box c =
    inside c.args.world.now.size c.args.cell 2 c.neighbours.result c.requires.in_box c.neighbours.ensures

pub returns-in-West-clause-in_box : goal.returns-in-West-clause-in_box
returns-in-West-clause-in_box c =
    inside c.args.world.now.size c.args.cell 1 c.neighbours.result c.requires.in_box c.neighbours.ensures
