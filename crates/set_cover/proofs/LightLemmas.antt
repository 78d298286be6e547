-- What the row of a place says of its cells.
use Rattle.std.proofs.Common.{◌≡◌, ℕ, List, subst, sym, ◌∙◌}
use Rattle.std.specs.Prelude.{◌↔◌}
use Rattle.std.specs.List.Sorted.{IsStrictlyIncreasing}
use Rattle.set_cover.specs.Instance.{Instance, IsInstance, LightsIn, LightsAt, StandsAt}
use Rattle.set_cover.proofs.OrderLemmas.{stands_once}

-- a number stands at one index alone
pub at_once : (xs : List ℕ) (x i j : ℕ) → IsStrictlyIncreasing xs → StandsAt xs i x → StandsAt xs j x → i ≡ j
at_once xs x i j up a b = stands_once xs up i j a.inside b.inside (a.there ∙ sym b.there)

-- a place lights a cell exactly where its row has the bit
pub by_bit : (instance : Instance) (place cell p c : ℕ) → IsInstance instance → StandsAt instance.places p place
    → StandsAt instance.cells c cell
    → LightsAt instance p c ↔ LightsIn instance place cell
by_bit instance place cell p c is at_p at_c = (
  λ lit. record { place_index = p; cell_index = c; place_there = at_p; cell_there = at_c; lit = lit },
  λ by. (let same_p : by.place_index ≡ p = at_once instance.places place by.place_index p
      is.places_ascend by.place_there at_p in
      let same_c : by.cell_index ≡ c = at_once instance.cells cell by.cell_index c is.cells_ascend by.cell_there at_c in
      subst (λ (q : ℕ). LightsAt instance q c) same_p
      (subst (λ (d : ℕ). LightsAt instance by.place_index d) same_c by.lit)),
)
