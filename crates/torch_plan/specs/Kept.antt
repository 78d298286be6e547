-- What a file that was made holds at the end of a run. This is this project's own.
use Rattle.std.specs.Prelude.{ℕ, List, Option, Some, None}

-- what is known of it, by how that is told of such a file; nothing where none was made
abbrev pub held_by : {K : Type 0} → (K → Option (List ℕ)) → Option K → Option (List ℕ)
held_by contents None = None
held_by contents (Some file) = contents file
