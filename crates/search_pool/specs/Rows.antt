-- The results of workers in a row. This is this project's own.
use Rattle.std.specs.Prelude.{◌≡◌, ◌^◌, ℕ, ◌+◌, ◌-◌, min, List, [], ◌∷◌}
use Rattle.worker_results.specs.Results.{Handed}

-- they are of the workers from this number on
abbrev pub AreFrom : ℕ → List Handed → Type 0
AreFrom first [] = Unit {0}
AreFrom first (handed ∷ rest) = (handed.holdings.worker ≡ first) × AreFrom (first + 1) rest

-- a sum as far as 64 bits count
abbrev pub counted : ℕ → ℕ
counted sum = min sum (2 ^ 64 - 1)
