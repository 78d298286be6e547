-- The regions of a cave's problem are those of the cave.
use Rattle.std.proofs.Common.{ℕ, List, get_or, slice_index, All, Contains, refl}
use Rattle.cave_model.specs.Cave.{Cave}
use Rattle.cave_model.specs.Coverage.{Agrees, of_cave}
use Rattle.cave_model.specs.Regions.{AreRegions}
use Rattle.cave_problem.specs.Coverage.{IsProblemOf}
use Rattle.set_cover.specs.Instance.{Instance, LightsIn, of_instance}
use Rattle.set_cover.specs.Sparse.{Sparse, ListsIn}
use Rattle.set_cover.proofs.OrderLemmas.{element_at, element_of}
use Rattle.instance_regions.specs.Region.{IsRegion}
use Rattle.instance_regions.specs.Splitting.{AreRegionsOf, IsPartOf, cells_of_each}
use Rattle.instance_regions.proofs.FlatLemmas.{in_all}

-- the number of a place that lights something is one of the places
pub place_of : (problem : Sparse) (place cell : ℕ) → ListsIn problem place cell → Contains problem.places place
place_of problem place cell by =
    element_of problem.places place by.place_index by.place_there.inside by.place_there.there

-- and so it is in a region
place_in : (region : Instance) (place cell : ℕ) → LightsIn region place cell → Contains region.places place
place_in region place cell by =
    element_of region.places place by.place_index by.place_there.inside by.place_there.there

-- the regions of a cave's problem are regions of the cave
pub regions_are : (cave : Cave) (problem : Sparse) (regions : List Instance) → IsProblemOf cave problem
    → AreRegionsOf problem regions → AreRegions cave (cells_of_each regions)
regions_are cave problem regions is split = record {
  filled = split.parts.filled;
  once = split.parts.once;
  exact = λ cell. (
    λ has. (is.dark.exact cell).0 ((split.parts.exact cell).0 has),
    λ dark. (split.parts.exact cell).1 ((is.dark.exact cell).1 dark),
  );
  apart = λ place a b i j legal lights_a lights_b in_i in_j.
      (let dark_a = (is.dark.exact a).0 ((split.parts.exact a).0 (in_all (cells_of_each regions) i a in_i)) in
      let dark_b = (is.dark.exact b).0 ((split.parts.exact b).0 (in_all (cells_of_each regions) j b in_j)) in
      split.parts.apart place a b i j ((is.legal.exact place).1 legal) ((is.lit place a).1 (legal, dark_a, lights_a))
      ((is.lit place b).1 (legal, dark_b, lights_b)) in_i in_j);
}

-- each place of a region lights one of its cells
lights_some : (region : Instance) → IsRegion region → (place : ℕ) → Contains region.places place
    → (cell : ℕ) × LightsIn region place cell
lights_some region kept place has =
    let lit = kept.lighting has.0 has.1 in
    let inside = kept.kept.of_cells has.0 lit.0 has.1 lit.1 in (
      slice_index region.cells lit.0,
      record {
        place_index = has.0;
        cell_index = lit.0;
        place_there = record { inside = has.1; there = element_at region.places place has };
        cell_there = record { inside = inside; there = refl };
        lit = lit.1;
      },
    )

-- a part of the problem has of the cave's light what falls on its cells
agrees : (cave : Cave) (problem : Sparse) (region : Instance) → IsProblemOf cave problem → IsPartOf problem region
    → Agrees (of_instance region) (of_cave cave) region.cells
agrees cave problem region is part = record {
  wider = λ place has. (let lit = lights_some region part.kept place has in
      ((is.lit place lit.0).0 ((part.exact place lit.0).0 lit.1).1).0);
  there = λ place cell in_cells has lit. ((is.lit place cell).0 ((part.exact place cell).0 lit).1).2;
  back = λ place cell in_cells legal lights.
      (let dark = (is.dark.exact cell).0 (part.of_it cell in_cells) in
      let lit = (part.exact place cell).1 (in_cells, (is.lit place cell).1 (legal, dark, lights)) in
      (place_in region place cell lit, lit));
}

-- and each agrees with the cave on which places light its cells
pub regions_agree : (cave : Cave) (problem : Sparse) (regions : List Instance) → IsProblemOf cave problem
    → AreRegionsOf problem regions → All (λ region. Agrees (of_instance region) (of_cave cave) region.cells) regions
regions_agree cave problem regions is split = λ k d h. agrees cave problem (get_or regions k d) is (split.each k d h)
