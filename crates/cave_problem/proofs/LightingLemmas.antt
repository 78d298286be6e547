-- Light goes from a place to a cell exactly where it goes back.
use Rattle.std.proofs.Common.{◌≡◌, ◌↔◌, ℕ, ◌+◌, Bool, true, false, ◌&&◌, refl, arith}
use Rattle.cave_model.specs.Cave.{Cave, IsSound}
use Rattle.cave_model.specs.Light.{BringsFrom, entering_cost}
use Rattle.cave_model.specs.Torches.{IsPlace, Lights}
use Rattle.cave_model.proofs.LightLemmas.{brings_back}

-- where both hold the first does
first_true : (a b : Bool) → (a && b) ≡ true → a ≡ true
first_true true b e = refl
first_true false b e = e

-- entering a place costs 1
pub place_cost : (cave : Cave) (place : ℕ) → IsSound cave → IsPlace cave place → entering_cost cave place ≡ 1
place_cost cave place sound is =
    let clear = (sound.classed place).clear (first_true _ _ is.1) in omega (arith, clear)

-- a torch lights the cell from there exactly where one more than its light, at the cell, brings there what is needed
-- and what entering the cell costs
pub lights_back : (cave : Cave) (place cell : ℕ) → entering_cost cave place ≡ 1
    → BringsFrom cave cell 15 place (cave.rule.need + entering_cost cave cell) ↔ Lights cave place cell
lights_back cave place cell one = (
  λ back.
      (let b = brings_back cave cell place 15 (cave.rule.need + entering_cost cave cell) back in
      (b.0, b.1, omega (arith, b.2, one))),
  λ lights.
      (let b = brings_back cave place cell 14 cave.rule.need lights in
      (b.0, b.1, omega (arith, b.2, one))),
)
