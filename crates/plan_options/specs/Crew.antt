-- How many workers there may be. This is this project's own.
use Rattle.std.specs.Prelude.{ℕ, ◌&&◌, Bool, nat_lt, nat_le}

-- how many workers may plan at most
abbrev pub most_workers : ℕ
most_workers = 64

-- a number of workers: one at least, and no more than that
abbrev pub is_crew : ℕ → Bool
is_crew number = nat_lt 0 number && nat_le number most_workers
