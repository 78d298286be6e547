-- From a settled flood to the levels of light.
use Rattle.std.proofs.Common.{◌≡◌, ℕ, ◌<◌, ◌≤◌, List, length, slice_index}
use Rattle.std.proofs.Common.{arith}
use Rattle.cave_base.specs.Box.{cell_count}
use Rattle.cave_model.specs.Cave.{Cave, class_at}
use Rattle.cave_model.proofs.LightLemmas.{AreSettled, settled_level}
use Rattle.light_flood.specs.Levels.{AreLevelsOf}
use Rattle.light_flood.specs.Spreading.{AreEmissions, IsFloodIn, IsSettled}
use Rattle.light_flood.proofs.SpreadLemmas.{source_inside, spread_brought}

-- ---- the start

-- the cells before this one have their emissions
pub record Seeded (cave : Cave) (count : ℕ) (levels : List ℕ) (waiting : List (List ℕ)) : Type 0 where
  pub flood : IsFloodIn cave 16 16 (length levels) (slice_index levels) waiting
  pub each : (cell : ℕ) → cell < count → slice_index levels cell ≡ (class_at cave cell).emission
  pub dark : (cell : ℕ) → count ≤ cell → slice_index levels cell ≡ 0

-- ---- the end

-- a flood that settled from the emissions has the levels of light
pub settled_levels : (cave : Cave) (start levels : List ℕ) → AreEmissions cave start
    → IsSettled cave (slice_index start) (slice_index levels) → length levels ≡ cell_count cave.size
    → AreLevelsOf cave levels
settled_levels cave start levels glow s whole = record {
  whole = whole;
  each = λ cell h. settled_level cave (slice_index levels) cell settled h;
}
  where
    settled : AreSettled cave (λ source. (class_at cave source).emission) (slice_index levels)
    settled = record {
      brought_there = λ cell h lit. (let b = spread_brought cave (slice_index start)
          (slice_index levels) cell s.brought_there h in let from = glow.each b.0 (source_inside b.1.1) in
          (b.0, (b.1.0, b.1.1, omega (arith, b.1.2))));
      covered = λ cell h. (let up = s.covered cell in let e = glow.each cell h in omega arith);
      settled = s.settled;
    }
