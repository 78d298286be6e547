-- Light on its way back, from a cell to the places that light it.
use Rattle.std.proofs.Common.{◌≡◌, ℕ, ◌-◌, ◌<◌, ◌≤◌, Bool, true, false, IsTrue, List, refl, arith}
use Rattle.std.specs.Prelude.{◌&&◌}
use Rattle.cave_model.specs.Cave.{Cave, IsSound, class_at}
use Rattle.cave_model.specs.Light.{entering_cost}
use Rattle.cave_model.specs.Torches.{IsPlace}
use Rattle.cave_model.proofs.LightLemmas.{brings_back}
use Rattle.lit_lists.specs.Lists.{AreLitCells}
use Rattle.lit_lists.specs.Reached.{AreReached, IsLightBack}

-- where both hold the first does
first_true : (a b : Bool) → IsTrue (a && b) → IsTrue a
first_true true b e = refl
first_true false b e = e

-- a place is as air, so entering it costs light one level
place_cost : (cave : Cave) (place : ℕ) → IsSound cave → IsPlace cave place → entering_cost cave place ≡ 1
place_cost cave place sound is =
    let clear = (sound.classed place).clear (first_true (class_at cave place).put _ is.1) in omega (arith, clear)

-- the way back from a cell: what light loses as it enters this cell stands for what it loses as it enters the place
pub way_back : (cave : Cave) (cell light : ℕ) → IsSound cave → cave.rule.need ≤ 15 → 0 < cave.rule.need
    → light ≡ 16 - cave.rule.need - entering_cost cave cell → IsLightBack cave cell light
way_back cave cell light sound low pos is = record {
  exact = λ place at. (let one = place_cost cave place sound at in (
    λ there. (let b = brings_back cave place cell 14 cave.rule.need there in (b.0, b.1, omega (arith, b.2))),
    λ b. (let t = brings_back cave cell place light 1 b in (t.0, t.1, omega (arith, t.2, b.2))),
  ));
}

-- what a torch reaches with the light above what is needed it lights
pub lit_where_reached : (cave : Cave) (place : ℕ) (cells : List ℕ) → cave.rule.need ≤ 15
    → AreReached cave place (15 - cave.rule.need) cells → AreLitCells cave place cells
lit_where_reached cave place cells low r = record {
  once = r.once;
  exact = λ cell. (
    λ has. (let b = (r.exact cell).0 has in (b.0, b.1, omega (arith, b.2))),
    λ b. (r.exact cell).1 (b.0, b.1, omega (arith, b.2)),
  );
}
