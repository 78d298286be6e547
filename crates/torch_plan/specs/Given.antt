-- How many workers and turns a plan is given. This is this project's own.
use Rattle.std.specs.Prelude.{ℕ, Option}
use Rattle.search_traits.specs.declared.planner.Allowance.{Allowance}

-- what is allowed: `workers` workers, and `turns` turns a region or any number of them
abbrev pub given : ℕ → Option ℕ → Allowance
given workers turns = record { workers = workers; turns = turns }
