-- The parts of a cave's instance make it, or name the least cell that no place lights.
use Rattle.std.proofs.Common.{◌≡◌, ℕ, ◌<◌, ◌≤◌, List, length, slice_index, Contains, refl, sym, ap, subst, ◌∙◌}
use Rattle.std.proofs.Common.{arith, inl, inr}
use Rattle.std.specs.Prelude.{◌↔◌}
use Rattle.std.proofs.lemmas.Bool.{cases_lt}
use Rattle.set_cover.specs.Bits.{Has}
use Rattle.cave_model.specs.Cave.{Cave}
use Rattle.cave_model.specs.Spawn.{IsDark, AreDarkCells}
use Rattle.cave_model.specs.Torches.{IsPlace, ArePlaces, Lights}
use Rattle.set_cover.specs.Instance.{StandsAt}
use Rattle.set_cover.specs.Sparse.{Sparse, IsSparse, ListsAt, ListsIn}
use Rattle.set_cover.proofs.OrderLemmas.{element_at, element_of, ascends}
use Rattle.cave_problem.specs.Coverage.{IsProblemOf, IsUnlightable, IsUnlightableFault}
use Rattle.cave_problem.specs.Filling.{LightsBy, IsFilling}
use Rattle.cave_problem.specs.Unlit.{IsFirstUnlit, AreLit}
use Rattle.cave_problem.specs.declared.fault.CoverFault.{CoverFault}
use Rattle.cave_problem.specs.declared.fault.CoverFault.TheVariants.{Unlightable}

-- what the parts of the instance say, and the row of the cells that some place lights
pub record AreParts (cave : Cave) (sparse : Sparse) (covered : List ℕ) : Type 0 where
  pub dark : AreDarkCells cave sparse.cells
  pub legal : ArePlaces cave sparse.places
  pub filled : IsFilling cave sparse.cells sparse.places sparse.lit covered

-- where a listed number stands
stands : (xs : List ℕ) (x : ℕ) → (has : Contains xs x) → StandsAt xs has.0 x
stands xs x has = record { inside = has.1; there = element_at xs x has }

module _ (cave : Cave) (sparse : Sparse) (covered : List ℕ) (parts : AreParts cave sparse covered) where
  -- a list has the cells that its place lights
  lights_by : (place cell : ℕ) → ListsAt sparse place cell ↔ LightsBy cave sparse.cells sparse.places place cell
  lights_by place cell = (parts.filled.lists.each place).exact cell

  -- a place lights a cell in the instance exactly where it does in the cave
  exactly : (place cell : ℕ) → ListsIn sparse place cell
      ↔ (IsPlace cave place × IsDark cave cell × Lights cave place cell)
  exactly place cell = (
    λ by. (let at = (lights_by by.place_index by.cell_index).0 by.lit in (
      (parts.legal.exact place).0 (element_of sparse.places place
          by.place_index by.place_there.inside by.place_there.there),
      (parts.dark.exact cell).0 (element_of sparse.cells cell by.cell_index by.cell_there.inside by.cell_there.there),
      subst (λ (p : ℕ). Lights cave p cell) by.place_there.there
          (subst (λ (c : ℕ). Lights cave (slice_index sparse.places by.place_index) c) by.cell_there.there at.lights),
    )),
    λ is. (let p = (parts.legal.exact place).1 is.0 in
        let c = (parts.dark.exact cell).1 is.1 in
        record {
          place_index = p.0;
          cell_index = c.0;
          place_there = stands sparse.places place p;
          cell_there = stands sparse.cells cell c;
          lit = (lights_by p.0 c.0).1 (record {
            listed = p.1;
            inside = c.1;
            lights = subst (λ (q : ℕ). Lights cave q (slice_index sparse.cells c.0))
                (sym (element_at sparse.places place p))
                (subst (λ (d : ℕ). Lights cave place d) (sym (element_at sparse.cells cell c)) is.2);
          });
        }),
  )

  -- where each dark cell has a place, this is an instance
  pub kept : AreLit covered sparse.cells → IsSparse sparse
  kept all = record {
    cells_ascend = parts.dark.ascending;
    places_ascend = parts.legal.ascending;
    whole = parts.filled.lists.whole;
    of_cells = λ place cell h lit. ((lights_by place cell).0 lit).inside;
    lightable = λ cell h. (let by = (parts.filled.row.exact cell).0 (all.each cell h) in
        (by.0, by.1.listed, (lights_by by.0 cell).1 by.1));
  }

  -- where all cells are covered it is the cave's problem
  pub problem : AreLit covered sparse.cells → IsProblemOf cave sparse
  problem all = record { kept = kept all; dark = parts.dark; legal = parts.legal; lit = exactly }

  -- the place of a covered cell lights it
  lit_legally : (index : ℕ) → index < length sparse.cells → Has covered index
      → (place : ℕ) × IsPlace cave place × Lights cave place (slice_index sparse.cells index)
  lit_legally index h has = (let by = (parts.filled.row.exact index).0 has in (
    slice_index sparse.places by.0,
    (parts.legal.exact (slice_index sparse.places by.0)).0
        (element_of sparse.places (slice_index sparse.places by.0) by.0 by.1.listed refl),
    by.1.lights,
  ))

  -- and no cell is without a place
  pub none_alone : AreLit covered sparse.cells → (e : CoverFault) → IsUnlightableFault cave e → ⊥
  none_alone all e fault =
      let has = (parts.dark.exact fault.0).1 fault.1.dark in
      let by = lit_legally has.0 has.1 (all.each has.0 has.1) in
      fault.1.alone by.0 by.1 (subst (λ (c : ℕ). Lights cave by.0 c) (element_at sparse.cells fault.0 has) by.2)

  -- a cell whose bit isn't set has no place, and no other such cell is before it
  alone : (cell : ℕ) → IsFirstUnlit covered sparse.cells cell → IsUnlightable cave cell
  alone cell first = record {
    dark = (parts.dark.exact cell).0
        (element_of sparse.cells cell first.index first.stands.inside first.stands.there);
    alone = λ place legal lights.
        (let p = (parts.legal.exact place).1 legal in
        first.unlit ((parts.filled.row.exact first.index).1 (
          p.0,
          record {
            listed = p.1;
            inside = first.stands.inside;
            lights = subst (λ (q : ℕ). Lights cave q (slice_index sparse.cells first.index))
                (sym (element_at sparse.places place p))
                (subst (λ (d : ℕ). Lights cave place d) (sym first.stands.there) lights);
          },
        )));
  }

  least_alone : (cell : ℕ) → IsFirstUnlit covered sparse.cells cell → (other : ℕ) → IsUnlightable cave other
      → cell ≤ other
  least_alone cell first other is =
      let has = (parts.dark.exact other).1 is.dark in
      let at = element_at sparse.cells other has in
      elim (cases_lt has.0 first.index) [
        | inl lt ↦ (let by = lit_legally has.0 has.1 (first.before has.0 lt) in
            absurd (is.alone by.0 by.1 (subst (λ (c : ℕ). Lights cave by.0 c) at by.2)))
        | inr le ↦ omega (
          arith,
          ascends sparse.cells parts.dark.ascending first.index has.0 le has.1,
          at,
          first.stands.there,
        )
      ]

  -- the first cell that isn't covered is the fault
  pub fault : (cell : ℕ) → IsFirstUnlit covered sparse.cells cell → IsUnlightableFault cave (Unlightable cell)
  fault cell first = (cell, alone cell first, least_alone cell first, refl)

  -- and the only one
  pub one_fault : (cell : ℕ) → IsFirstUnlit covered sparse.cells cell → (e : CoverFault) → IsUnlightableFault cave e
      → Unlightable cell ≡ e
  one_fault cell first e other =
      let before = least_alone cell first other.0 other.1 in
      let after = other.2 cell (alone cell first) in
      let same : cell ≡ other.0 = omega arith in
      ap Unlightable same ∙ sym other.3
