use Rattle.std.proofs.Common.{ℕ, List, subst, sym}
use Rattle.set_cover.specs.Bits.{Has}
use Rattle.set_cover.specs.Instance.{StandsAt}
use Rattle.set_cover.proofs.LightLemmas.{by_bit}
use Rattle.set_cover.proofs.instance.Instance.lights.Goals as goal

pub returns-in-Some-find : goal.returns-in-Some-find
returns-in-Some-find c =
    let at_place = subst (λ (xs : List ℕ). StandsAt xs c.in-Some.row c.args.place)
    c.places.ensures.places c.in-Some.ensures in
    let at_cell = subst (λ (xs : List ℕ). StandsAt xs c.in-Some-find.bit c.args.cell)
    c.cells.ensures.cells c.in-Some-find.ensures in
    let by = by_bit c.args.self.now c.args.place c.args.cell c.in-Some.row c.in-Some-find.bit c.places.ensures.kept
    at_place at_cell in (
      λ t. by.0 (subst (λ (row : List ℕ). Has row c.in-Some-find.bit) c.row_at.ensures.row (c.has.ensures.0 t)),
      λ lights. c.has.ensures.1 (subst (λ (row : List ℕ). Has row c.in-Some-find.bit) (sym c.row_at.ensures.row)
          (by.1 lights)),
    )
