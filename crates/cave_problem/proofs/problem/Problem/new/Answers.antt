use Rattle.std.proofs.Common.{ℕ, List, subst, inl}
use Rattle.set_cover.specs.Sparse.{Sparse}
use Rattle.cave_problem.specs.Filling.{IsFilling}
use Rattle.cave_problem.specs.Unlit.{IsFirstUnlit, AreLit}
use Rattle.cave_problem.proofs.InstanceLemmas.{AreParts, kept, problem, none_alone, fault, one_fault}
use Rattle.cave_problem.proofs.problem.Problem.new.Goals.{After-first_unlit}
use Rattle.cave_problem.proofs.problem.Problem.new.Goals as goal

abbrev made : After-first_unlit → Sparse
made c = record {
  cells = c.in_ok-cells.cells.items;
  places = c.in_ok-places.places.items;
  lit = c.in_ok-lit.field-0.lit;
}

parts : (c : After-first_unlit) → AreParts c.args.world.now (made c) c.in_ok-lit.field-0.covered.items
parts c = record {
  dark = c.in_ok-cells.ensures.dark;
  legal = c.in_ok-places.ensures.places.legal;
  filled = subst (λ (cells : List ℕ). IsFilling c.args.world.now cells c.in_ok-places.places.items
      c.in_ok-lit.field-0.lit c.in_ok-lit.field-0.covered.items) c.deref.ensures.value
      (subst (λ (places : List ℕ). IsFilling c.args.world.now c.deref.result.now places
      c.in_ok-lit.field-0.lit c.in_ok-lit.field-0.covered.items) c.deref-2.ensures.value
      c.in_ok-lit.ensures.filled);
}

first : (c : After-first_unlit) (cell : ℕ) → IsFirstUnlit c.deref-3.result.now c.deref-4.result.now cell
    → IsFirstUnlit c.in_ok-lit.field-0.covered.items c.in_ok-cells.cells.items cell
first c cell is = subst (λ (covered : List ℕ). IsFirstUnlit covered c.in_ok-cells.cells.items cell)
    c.deref-3.ensures.value
    (subst (λ (cells : List ℕ). IsFirstUnlit c.deref-3.result.now cells cell) c.deref-4.ensures.value is)

all : (c : After-first_unlit) → AreLit c.deref-3.result.now c.deref-4.result.now
    → AreLit c.in_ok-lit.field-0.covered.items c.in_ok-cells.cells.items
all c is = subst (λ (covered : List ℕ). AreLit covered c.in_ok-cells.cells.items) c.deref-3.ensures.value
    (subst (AreLit c.deref-3.result.now) c.deref-4.ensures.value is)

pub returns-in-Some-clause-fault : goal.returns-in-Some-clause-fault
returns-in-Some-clause-fault c = λ not_memory.
    (let before = (goal.at.returns-in-Some-clause-fault c).After-first_unlit in
    fault c.args.world.now (made before) c.in_ok-lit.field-0.covered.items (parts before)
    c.in-Some.cell (first before c.in-Some.cell c.in-Some.ensures))

pub returns-in-Some-clause-refused : goal.returns-in-Some-clause-refused
returns-in-Some-clause-refused c = λ e other.
    (let before = (goal.at.returns-in-Some-clause-refused c).After-first_unlit in
    inl (one_fault c.args.world.now (made before) c.in_ok-lit.field-0.covered.items (parts before)
    c.in-Some.cell (first before c.in-Some.cell c.in-Some.ensures) e other))

pub new-requires : goal.new-requires
new-requires c =
    let before = (goal.at.new-requires c).After-first_unlit in
    kept c.args.world.now (made before) c.in_ok-lit.field-0.covered.items (parts before)
    (all before c.in-None.ensures)

pub returns-clause-found : goal.returns-clause-found
returns-clause-found c =
    let before = (goal.at.returns-clause-found c).After-first_unlit in
    rw c.new.ensures (problem c.args.world.now (made before) c.in_ok-lit.field-0.covered.items (parts before)
    (all before c.in-None.ensures))

pub returns-clause-refused : goal.returns-clause-refused
returns-clause-refused c = λ e other.
    (let before = (goal.at.returns-clause-refused c).After-first_unlit in
    none_alone c.args.world.now (made before) c.in_ok-lit.field-0.covered.items (parts before)
    (all before c.in-None.ensures) e other)
