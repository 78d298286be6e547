-- What the judge has kept of the lines so far. This is this project's own.
use Rattle.std.specs.Prelude.{◌≡◌, ℕ, ◌+◌, Bool, true, false, if◌then◌else◌, List, [], ◌∷◌, ◌++◌, length, flat_map}
use Rattle.cave_base.specs.Box.{cell_count}
use Rattle.cave_model.specs.Cave.{Cave}
use Rattle.cave_model.specs.Spawn.{IsDark}
use Rattle.lit_lists.specs.Lists.{AreListsOf}
use Rattle.certificate_lines.specs.Said.{Said, said}
use Rattle.certificate_lines.specs.declared.kind.LineKind.{LineKind}
use Rattle.certificate_lines.specs.declared.kind.LineKind.TheVariants as kind
use Rattle.proof_check.specs.Refused.{IsListed}
use Rattle.proof_check.specs.Judged.{Judged, at, stuck, Runs, start}
use Rattle.proof_check.specs.Kept.{IsWide, Keeps}
use Rattle.proof_check.specs.Homes.{AreHomesOf}
use Rattle.proof_check.specs.declared.judge.Judge.{Judge}

-- the numbers of a line as one list, where they are asked for, and none elsewhere
abbrev pub part_if : Bool → List ℕ → List (List ℕ)
part_if b numbers = if b then numbers ∷ [] else []

-- whether such a line lists the cells of a region
abbrev pub is_dark_line : LineKind → Bool
is_dark_line kind.Dark = true
is_dark_line other = false

-- whether such a line lists the torches of a region
abbrev pub is_torch_line : LineKind → Bool
is_torch_line kind.Torches = true
is_torch_line other = false

-- the cells on each line that lists a region's cells, a list for each such line
abbrev pub dark_parts : List Said → List (List ℕ)
dark_parts all = flat_map (λ s. part_if (is_dark_line s.kind) s.numbers) all

-- the torches on each line that lists a region's torches, a list for each such line
abbrev pub torch_parts : List Said → List (List ℕ)
torch_parts all = flat_map (λ s. part_if (is_torch_line s.kind) s.numbers) all

-- the next line has this number
abbrev pub IsBefore : Judged → ℕ → Type 0
IsBefore (at state) line = state.line ≡ line
IsBefore (stuck bad) line = Unit {0}

-- of the lines so far, where all regions have dark cells alone, the judge of nodes is where they lead
pub record IsLed (cave : Cave) (judge : Judge) (all : List Said) : Type 0 where
  pub j : Judged
  pub runs : Runs cave all start j
  pub keeps : Keeps cave judge.lists judge.nodes j
  pub before : IsBefore j (length all + 1)

-- the judge after these lines
pub record IsAfter (cave : Cave) (judge : Judge) (all : List Said) : Type 0 where
  pub known : AreListsOf cave judge.lists
  pub wide : IsWide judge.lists judge.nodes
  pub torches : AreHomesOf (torch_parts all) judge.torches
  pub regions : AreHomesOf (dark_parts all) judge.regions
  pub torch_cells : length judge.torches.homes ≡ cell_count cave.size
  pub region_cells : length judge.regions.homes ≡ cell_count cave.size
  pub led : ((cell : ℕ) → IsListed (dark_parts all) cell → IsDark cave cell) → IsLed cave judge all

-- a line more
pub record Hears (k : LineKind) (numbers : List ℕ) (line : ℕ) (old new : Judge) : Type 0 where
  pub each : (cave : Cave) (all : List Said) → IsAfter cave old all → line ≡ length all + 1
      → IsAfter cave new (all ++ said k numbers ∷ [])
