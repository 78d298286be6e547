-- Names of nothing, from which a call picks others. This is this project's own.
use Rattle.std.specs.Prelude.{[]}
use Rattle.atomic_table.specs.Seated.{TableId}
use Rattle.set_cover.specs.Instance.{Instance}
use Rattle.worker_results.specs.Naming.{DequeId}

-- no beacon
abbrev pub no_table : TableId
no_table = record { words = 0; slots = 0; views_name = 0; atom = 0; block = 0; offset = 0; slot_names = [] }

-- no deque
abbrev pub no_deque : DequeId
no_deque = ((0, 0), record { memory = record { seal = tt } })

-- a region of nothing
abbrev pub no_region : Instance
no_region = record { cells = []; places = []; width = 0; words = [] }
