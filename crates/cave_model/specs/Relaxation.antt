-- Light by rounds: in each, every cell takes the most that a neighbour brings. This is one way to compute it.
use Rattle.std.specs.Prelude.{ℕ, zero, suc, ◌-◌, max, Option, Some, None}
use Rattle.cave_model.specs.Cells.{west, east, north, south, below, above, beyond}
use Rattle.cave_model.specs.Cave.{Cave, class_at}
use Rattle.cave_model.specs.Light.{entering_cost}

-- what a neighbour brings to the cell
abbrev pub brought : Cave → (ℕ → ℕ) → ℕ → Option ℕ → ℕ
brought cave levels cell None = 0
brought cave levels cell (Some before) = levels before - entering_cost cave cell

-- the level of the cell, or the most that a neighbour brings, whichever is more
abbrev pub best_of : Cave → (ℕ → ℕ) → ℕ → ℕ
best_of cave levels cell = max (levels cell)
    (max (brought cave levels cell (beyond cave.size west cell))
    (max (brought cave levels cell (beyond cave.size east cell))
    (max (brought cave levels cell (beyond cave.size north cell))
    (max (brought cave levels cell (beyond cave.size south cell))
    (max (brought cave levels cell (beyond cave.size below cell))
    (brought cave levels cell (beyond cave.size above cell)))))))

-- the level after a given number of rounds
unfoldable pub relaxed : Cave → ℕ → ℕ → ℕ
relaxed cave zero cell = (class_at cave cell).emission
relaxed cave (suc rounds) cell = best_of cave (relaxed cave rounds) cell
