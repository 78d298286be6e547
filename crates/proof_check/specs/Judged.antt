-- How nodes are judged, line by line: which piece the next tree is of, and which comes after it.
-- This is this project's own.
use Rattle.std.specs.Prelude.{◌≡◌, ℕ, ◌+◌, ◌<◌, ◌⊎◌, nat_lt, Bool, true, false, if◌then◌else◌, List, [], ◌∷◌, ◌++◌}
use Rattle.std.specs.Prelude.{length, Option, Some, None}
use Rattle.std.specs.Option.{option_or}
use Rattle.std.specs.List.Sorted.{IsStrictlyIncreasing}
use Rattle.cave_model.specs.Cave.{Cave}
use Rattle.cave_model.specs.Coverage.{of_cave}
use Rattle.cave_model.specs.Plan.{AreDistinct}
use Rattle.proof_rules.specs.declared.groups.Share.{Share}
use Rattle.proof_rules.specs.declared.groups.Group.{Group}
use Rattle.proof_rules.specs.Groups.{AreGroups, places_for_all}
use Rattle.proof_rules.specs.Omitted.{left_without, MayBeOmitted}
use Rattle.proof_rules.specs.Good.{AreScattered, AreWeighted, IsDominated, MayBePicked}
use Rattle.certificate_lines.specs.Said.{Said}
use Rattle.certificate_lines.specs.declared.kind.LineKind.{LineKind}
use Rattle.certificate_lines.specs.declared.kind.LineKind.TheVariants as kind
use Rattle.proof_check.specs.Refused.{IsBranching}

-- an open branch: its piece with the cells left out, the place of the kid that is judged, with those before it
-- barred, and the later places; or an open pick, whose tree with its place chosen is judged
pub record Frame : Type 0 where
  pub chosen : List ℕ
  pub barred : List ℕ
  pub omitted : List ℕ
  pub place : ℕ
  pub later : List ℕ
  -- whether the place was picked: the tree with it barred comes after its own
  pub picked : Bool

-- the piece of the next tree, the cells left out of the region, and the open branches and picks, the innermost first
pub record Spot : Type 0 where
  pub chosen : List ℕ
  pub barred : List ℕ
  pub omitted : List ℕ
  pub frames : List Frame

-- the next of these places, or what comes after the branch where none is left
abbrev pub enter_or : List ℕ → List ℕ → List ℕ → List ℕ → List Frame → Spot → Spot
enter_or chosen barred omitted [] frames closed = closed
enter_or chosen barred omitted (place ∷ places) frames closed = record {
  chosen = chosen ++ place ∷ [];
  barred = barred;
  omitted = omitted;
  frames = record {
    chosen = chosen;
    barred = barred;
    omitted = omitted;
    place = place;
    later = places;
    picked = false;
  } ∷ frames;
}

-- where nothing is chosen, barred or left out, and no branch or pick is open
abbrev pub outset : Spot
outset = record { chosen = []; barred = []; omitted = []; frames = [] }

-- where the tree with the picked place barred is judged, whose end is the pick's
abbrev pub without_place : Frame → List Frame → Spot
without_place frame frames = record {
  chosen = frame.chosen;
  barred = frame.barred ++ frame.place ∷ [];
  omitted = frame.omitted;
  frames = frames;
}

-- what comes after a tree
abbrev pub close : List Frame → Spot
close [] = outset
close (frame ∷ frames) = if frame.picked then without_place frame frames else
    enter_or frame.chosen (frame.barred ++ frame.place ∷ []) frame.omitted frame.later frames (close frames)

-- where a branch on these places leads: to its first kid, or where it has none to what comes after the branch
abbrev pub enter : List ℕ → List ℕ → List ℕ → List ℕ → List Frame → Spot
enter chosen barred omitted places frames = enter_or chosen barred omitted places frames (close frames)

-- where a pick of this place leads: to the tree with it chosen, after which the one with it barred comes
abbrev pub pick_at : List ℕ → List ℕ → List ℕ → ℕ → List Frame → Spot
pick_at chosen barred omitted place frames = record {
  chosen = chosen ++ place ∷ [];
  barred = barred;
  omitted = omitted;
  frames = record {
    chosen = chosen;
    barred = barred;
    omitted = omitted;
    place = place;
    later = [];
    picked = true;
  } ∷ frames;
}

-- a weighted leaf of which not all groups are told: its line, how many groups are to come, and those before them
pub record Weighing : Type 0 where
  pub line : ℕ
  pub to_come : ℕ
  pub groups : List Group

-- no such leaf
abbrev pub idle : Weighing
idle = record { line = 0; to_come = 0; groups = [] }

-- the number of the next line, the region, the size that it is to prove, the spot, the first weak line, and the
-- weighted leaf that is told
pub record JudgeState : Type 0 where
  pub line : ℕ
  pub cells : List ℕ
  pub floor : ℕ
  pub spot : Spot
  pub weak : Option ℕ
  pub weighing : Weighing

-- what is left of the region
abbrev pub left : JudgeState → List ℕ
left j = left_without j.spot.omitted j.cells

-- the same state, one line further
abbrev pub next_line : JudgeState → JudgeState
next_line j = record j { line = j.line + 1 }

-- the state one line further, at this spot
abbrev pub goes_to : JudgeState → Spot → JudgeState
goes_to j spot = record j { line = j.line + 1; spot = spot }

-- judging goes on, or stands still at a bad line
pub data Judged : Type 0 where
  at : JudgeState → Judged
  stuck : ℕ → Judged

-- the state after a leaf of `count` cells, at what comes after it; its line is the first weak one where none was before
-- and the cells and the chosen places are fewer than the size to prove
abbrev pub after_leaf : JudgeState → ℕ → JudgeState
after_leaf j count = record j {
  line = j.line + 1;
  spot = close j.spot.frames;
  weak = option_or j.weak (if nat_lt (length j.spot.chosen + count) j.floor then Some j.line else None);
}

-- the state after a weighted leaf with these groups and this line, which is weak as that of a leaf is
abbrev pub after_groups : JudgeState → List Group → ℕ → JudgeState
after_groups j groups line = record j {
  line = j.line + 1;
  spot = close j.spot.frames;
  weak = option_or j.weak (if nat_lt (length j.spot.chosen + places_for_all groups) j.floor then Some line else None);
  weighing = idle;
}

-- a test: what comes next where it holds, and where it doesn't
abbrev pub Tests : Type 0 → JudgeState → Judged → Judged → Type 0
Tests Holds j good new = (Holds × (new ≡ good)) ⊎ ((¬ Holds) × (new ≡ stuck j.line))

-- whether the cells may stand in a leaf; that they are distinct is known of every certificate
abbrev pub LeafSteps : Cave → List ℕ → JudgeState → Judged → Type 0
LeafSteps cave these j new =
    ((AreDistinct these → AreScattered (of_cave cave) (left j) j.spot.chosen j.spot.barred these)
    × (new ≡ at (after_leaf j (length these))))
    ⊎ ((AreDistinct these → ¬ AreScattered (of_cave cave) (left j) j.spot.chosen j.spot.barred these)
    × (new ≡ stuck j.line))

-- whether the groups may stand in a weighted leaf with this line; that they are in their one form is known of every
-- certificate
abbrev pub WeightedSteps : Cave → List Group → ℕ → JudgeState → Judged → Type 0
WeightedSteps cave groups line j new =
    ((AreGroups groups → AreWeighted (of_cave cave) (left j) j.spot.chosen j.spot.barred groups)
    × (new ≡ at (after_groups j groups line)))
    ⊎ ((¬ AreWeighted (of_cave cave) (left j) j.spot.chosen j.spot.barred groups) × (new ≡ stuck line))

-- the group is one more of the weighted leaf that is told, or its last; else it says nothing
abbrev pub GroupSteps : Cave → Group → JudgeState → Judged → Type 0
GroupSteps cave group j new =
    ((j.weighing.to_come ≡ 0) × (new ≡ at (next_line j)))
    ⊎ ((j.weighing.to_come ≡ 1) × WeightedSteps cave (j.weighing.groups ++ group ∷ []) j.weighing.line j new)
    ⊎ ((more : ℕ) × (j.weighing.to_come ≡ more + 1) × (0 < more) × (new ≡ at (record (next_line j) {
      weighing = record { line = j.weighing.line; to_come = more; groups = j.weighing.groups ++ group ∷ [] };
    })))

-- whether the cell is unlit and `count` places may light it: the branch on these is entered, or its line is bad
abbrev pub BranchSteps : Cave → ℕ → ℕ → JudgeState → Judged → Type 0
BranchSteps cave cell count j new =
    ((places : List ℕ) × IsBranching cave (left j) j.spot.chosen j.spot.barred cell places count
    × (new ≡ at (goes_to j (enter j.spot.chosen j.spot.barred j.spot.omitted places j.spot.frames))))
    ⊎ (((places : List ℕ) → ¬ IsBranching cave (left j) j.spot.chosen j.spot.barred cell places count)
    × (new ≡ stuck j.line))

-- whether the place may be left out for the other: it is barred too, or its line is bad
abbrev pub BarSteps : Cave → ℕ → ℕ → JudgeState → Judged → Type 0
BarSteps cave place by j new = Tests (IsDominated (of_cave cave) (left j) j.spot.chosen j.spot.barred place by) j
    (at (goes_to j (record j.spot { barred = j.spot.barred ++ place ∷ [] }))) new

-- whether the cells may be left out: they are for the tree below, or their line is bad; that they are some and ascend
-- is known of every certificate
abbrev pub OmitSteps : Cave → List ℕ → JudgeState → Judged → Type 0
OmitSteps cave these j new =
    ((0 < length these → IsStrictlyIncreasing these → MayBeOmitted (left j) these)
    × (new ≡ at (goes_to j (record j.spot { omitted = j.spot.omitted ++ these }))))
    ⊎ ((¬ MayBeOmitted (left j) these) × (new ≡ stuck j.line))

-- whether the place may be picked: its two trees come next, or its line is bad
abbrev pub PickSteps : Cave → ℕ → JudgeState → Judged → Type 0
PickSteps cave place j new = Tests (MayBePicked (of_cave cave) j.spot.chosen j.spot.barred place) j
    (at (goes_to j (pick_at j.spot.chosen j.spot.barred j.spot.omitted place j.spot.frames))) new

-- the shares of a group's line, each a cell and its weight
abbrev pub shares_of : List ℕ → List Share
shares_of (cell ∷ weight ∷ numbers) = record { cell = cell; weight = weight } ∷ shares_of numbers
shares_of other = []

-- by the kind and the numbers of a line; a node of another shape, which no certificate has, says nothing
abbrev pub NodeSteps : Cave → LineKind → List ℕ → JudgeState → Judged → Type 0
NodeSteps cave kind.Leaf (count ∷ these) j new = LeafSteps cave these j new
NodeSteps cave kind.Branch (cell ∷ count ∷ []) j new = BranchSteps cave cell count j new
NodeSteps cave kind.Bar (place ∷ by ∷ []) j new = BarSteps cave place by j new
NodeSteps cave kind.Weighted (count ∷ []) j new =
    new ≡ at (record (next_line j) { weighing = record { line = j.line; to_come = count; groups = [] } })
NodeSteps cave kind.Group (capacity ∷ count ∷ numbers) j new =
    GroupSteps cave (record { capacity = capacity; shares = shares_of numbers }) j new
NodeSteps cave kind.Omit (count ∷ these) j new = OmitSteps cave these j new
NodeSteps cave kind.Pick (place ∷ []) j new = PickSteps cave place j new
NodeSteps cave kind.Dark cells j new = new ≡ at (record (next_line j) { cells = cells })
NodeSteps cave kind.Torches torches j new =
    new ≡ at (record (next_line j) { floor = length torches; spot = outset })
NodeSteps cave other numbers j new = new ≡ at (next_line j)

-- what judging makes of a line more; at a bad line it stands still
abbrev pub StepsOver : Cave → Said → Judged → Judged → Type 0
StepsOver cave s (at j) new = NodeSteps cave s.kind s.numbers j new
StepsOver cave s (stuck bad) new = new ≡ stuck bad

-- what judging makes of these lines, one after another
abbrev pub Runs : Cave → List Said → Judged → Judged → Type 0
Runs cave [] old new = old ≡ new
Runs cave (s ∷ all) old new = (next : Judged) × StepsOver cave s old next × Runs cave all next new

-- before the first line
abbrev pub start : Judged
start = at (record {
  line = 1;
  cells = [];
  floor = 0;
  spot = outset;
  weak = None;
  weighing = idle;
})
