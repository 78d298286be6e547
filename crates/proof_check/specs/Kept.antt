-- What the judge of nodes keeps, and what it makes of a line. This is this project's own.
use Rattle.std.specs.Prelude.{◌≡◌, ℕ, ◌<◌, ◌≤◌, List, [], length, Contains, Some, None}
use Rattle.cave_model.specs.Cave.{Cave}
use Rattle.cave_model.specs.Spawn.{IsDark}
use Rattle.lit_lists.specs.Lists.{LitLists, AreListsOf}
use Rattle.certificate_lines.specs.declared.kind.LineKind.{LineKind}
use Rattle.certificate_lines.specs.declared.kind.LineKind.TheVariants as kind
use Rattle.proof_rules.specs.declared.groups.Group.{Group}
use Rattle.proof_rules.specs.Omitted.{left_without}
use Rattle.proof_check.specs.Judged.{Weighing, idle, JudgeState, Judged, at, stuck, LeafSteps, WeightedSteps}
use Rattle.proof_check.specs.Judged.{GroupSteps}
use Rattle.proof_check.specs.Judged.{BranchSteps, BarSteps, OmitSteps, PickSteps, NodeSteps}
use Rattle.proof_check.specs.Track.{IsAt}
use Rattle.weight_judge.specs.Rooms.{AreNoRooms}
use Rattle.node_judges.specs.Tests.{AreInside, AreMatched}
use Rattle.proof_check.specs.declared.nodes.NodeJudge.{NodeJudge}
use Rattle.proof_check.specs.declared.weighing.Weighing as held

-- the tallies are as wide as the box, none is seen, and no place has a room
pub record IsWide (lists : LitLists) (nodes : NodeJudge) : Type 0 where
  pub region : length nodes.region.counts ≡ length lists.places
  pub seen : length nodes.seen.counts ≡ length lists.places
  pub chosen : length nodes.track.chosen.counts ≡ length lists.places
  pub barred : length nodes.track.barred.counts ≡ length lists.places
  pub omitted : length nodes.track.omitted.counts ≡ length lists.places
  pub few : length lists.places ≤ 4294967296
  pub none : nodes.seen.items ≡ []
  pub inside : AreInside lists (length lists.places)
  pub matched : AreMatched lists (length lists.places)
  pub rooms : AreNoRooms (length lists.places) nodes.rooms

-- nothing is judged, in a box of `count` cells
pub record IsNew (count : ℕ) (nodes : NodeJudge) : Type 0 where
  pub region : length nodes.region.counts ≡ count
  pub seen : length nodes.seen.counts ≡ count
  pub chosen : length nodes.track.chosen.counts ≡ count
  pub barred : length nodes.track.barred.counts ≡ count
  pub omitted : length nodes.track.omitted.counts ≡ count
  pub few : count ≤ 4294967296
  pub no_region : nodes.region.items ≡ []
  pub no_seen : nodes.seen.items ≡ []
  pub no_chosen : nodes.track.chosen.items ≡ []
  pub no_barred : nodes.track.barred.items ≡ []
  pub no_omitted : nodes.track.omitted.items ≡ []
  pub no_frames : nodes.track.frames.items ≡ []
  pub floor : nodes.floor ≡ 0
  pub weak : nodes.weak ≡ None
  pub bad : nodes.bad ≡ None
  pub weighed_at : nodes.weighing.line ≡ 0
  pub to_come : nodes.weighing.to_come ≡ 0
  pub no_groups : nodes.weighing.groups.items ≡ []
  pub rooms : AreNoRooms count nodes.rooms

-- what is left of the region
abbrev pub left_in : NodeJudge → List ℕ
left_in nodes = left_without nodes.track.omitted.items nodes.region.items

-- the weighted leaf as it is kept
pub record IsWeighing (inner : held.Weighing) (weighing : Weighing) : Type 0 where
  pub line : inner.line ≡ weighing.line
  pub to_come : inner.to_come ≡ weighing.to_come
  pub groups : inner.groups.items ≡ weighing.groups

-- the judge is in this state
pub record IsIn (cave : Cave) (lists : LitLists) (nodes : NodeJudge) (state : JudgeState) : Type 0 where
  pub good : nodes.bad ≡ None
  pub cells : nodes.region.items ≡ state.cells
  pub floor : nodes.floor ≡ state.floor
  pub weak : nodes.weak ≡ state.weak
  pub spot : IsAt lists state.spot nodes.track.chosen.items nodes.track.barred.items nodes.track.omitted.items
      nodes.track.frames.items
  pub weighing : IsWeighing nodes.weighing state.weighing
  pub dark : (cell : ℕ) → Contains state.cells cell → IsDark cave cell

-- the judge of nodes keeps what judging has come to: its state, or the bad line
abbrev pub Keeps : Cave → LitLists → NodeJudge → Judged → Type 0
Keeps cave lists nodes (at state) = IsIn cave lists nodes state
Keeps cave lists nodes (stuck bad) = nodes.bad ≡ Some bad

-- from any state on this line the judge takes the step of a leaf with these cells
pub record JudgesLeaf (lists : LitLists) (these : List ℕ) (line : ℕ) (old new : NodeJudge) : Type 0 where
  pub each : (cave : Cave) (state : JudgeState) → AreListsOf cave lists → IsIn cave lists old state → line ≡ state.line
      → (next : Judged) × LeafSteps cave these state next × Keeps cave lists new next

-- from any state on this line the judge takes the step of a branch on this cell with `count` kids
pub record JudgesBranch (lists : LitLists) (cell count line : ℕ) (old new : NodeJudge) : Type 0 where
  pub each : (cave : Cave) (state : JudgeState) → AreListsOf cave lists → IsIn cave lists old state → line ≡ state.line
      → (next : Judged) × BranchSteps cave cell count state next × Keeps cave lists new next

-- from any state on this line the judge takes the step of a bar of this place by the other
pub record JudgesBar (lists : LitLists) (place by line : ℕ) (old new : NodeJudge) : Type 0 where
  pub each : (cave : Cave) (state : JudgeState) → AreListsOf cave lists → IsIn cave lists old state → line ≡ state.line
      → (next : Judged) × BarSteps cave place by state next × Keeps cave lists new next

-- from any state in which no weighted leaf is told the judge takes the step of one with these groups, whose line was
-- this one
pub record JudgesWeighted (lists : LitLists) (groups : List Group) (line : ℕ) (old new : NodeJudge) : Type 0 where
  pub each : (cave : Cave) (state : JudgeState) → AreListsOf cave lists → IsIn cave lists old state
      → IsWeighing old.weighing idle → (next : Judged) × WeightedSteps cave groups line state next
      × Keeps cave lists new next

-- from any state the judge takes the step of this group
pub record JudgesGroup (lists : LitLists) (group : Group) (old new : NodeJudge) : Type 0 where
  pub each : (cave : Cave) (state : JudgeState) → AreListsOf cave lists → IsIn cave lists old state
      → (next : Judged) × GroupSteps cave group state next × Keeps cave lists new next

-- from any state on this line the judge takes the step of an omission of these cells
pub record JudgesOmission (lists : LitLists) (these : List ℕ) (line : ℕ) (old new : NodeJudge) : Type 0 where
  pub each : (cave : Cave) (state : JudgeState) → AreListsOf cave lists → IsIn cave lists old state → line ≡ state.line
      → (next : Judged) × OmitSteps cave these state next × Keeps cave lists new next

-- from any state on this line the judge takes the step of a pick of this place
pub record JudgesPick (lists : LitLists) (place line : ℕ) (old new : NodeJudge) : Type 0 where
  pub each : (cave : Cave) (state : JudgeState) → AreListsOf cave lists → IsIn cave lists old state → line ≡ state.line
      → (next : Judged) × PickSteps cave place state next × Keeps cave lists new next

-- a line of the kind Dark has dark cells alone
abbrev pub AreDarkAt : Cave → LineKind → List ℕ → Type 0
AreDarkAt cave k numbers = k ≡ kind.Dark → (cell : ℕ) → Contains numbers cell → IsDark cave cell

-- from any state on this line, a step with the numbers of a line of this kind
pub record StepsOn (lists : LitLists) (k : LineKind) (numbers : List ℕ) (line : ℕ) (old new : NodeJudge) : Type 0 where
  pub each : (cave : Cave) (state : JudgeState) → AreListsOf cave lists → IsIn cave lists old state
      → line ≡ state.line → AreDarkAt cave k numbers
      → (next : Judged) × NodeSteps cave k numbers state next × Keeps cave lists new next

-- a line is judged; after a bad one nothing is
pub record Judges (lists : LitLists) (k : LineKind) (numbers : List ℕ) (line : ℕ) (old new : NodeJudge) : Type 0 where
  pub steps : old.bad ≡ None → StepsOn lists k numbers line old new
  pub still : (bad : ℕ) → old.bad ≡ Some bad → new.bad ≡ Some bad

-- the region has these cells, where all are of the box; all else stays
pub record BeginsRegion (cells : List ℕ) (old new : NodeJudge) : Type 0 where
  pub region : ((cell : ℕ) → Contains cells cell → cell < length old.region.counts) → new.region.items ≡ cells
  pub whole : length new.region.counts ≡ length old.region.counts
  pub seen : new.seen ≡ old.seen
  pub rooms : new.rooms ≡ old.rooms
  pub track : new.track ≡ old.track
  pub floor : new.floor ≡ old.floor
  pub weak : new.weak ≡ old.weak
  pub bad : new.bad ≡ old.bad
  pub weighing : new.weighing ≡ old.weighing

-- `count` places are to be proved, and no branch or pick is open; all else stays
pub record Expects (count : ℕ) (old new : NodeJudge) : Type 0 where
  pub floor : new.floor ≡ count
  pub chosen : new.track.chosen.items ≡ []
  pub barred : new.track.barred.items ≡ []
  pub omitted : new.track.omitted.items ≡ []
  pub frames : new.track.frames.items ≡ []
  pub whole : length new.track.chosen.counts ≡ length old.track.chosen.counts
  pub wide : length new.track.barred.counts ≡ length old.track.barred.counts
  pub long : length new.track.omitted.counts ≡ length old.track.omitted.counts
  pub region : new.region ≡ old.region
  pub seen : new.seen ≡ old.seen
  pub rooms : new.rooms ≡ old.rooms
  pub weak : new.weak ≡ old.weak
  pub bad : new.bad ≡ old.bad
  pub weighing : new.weighing ≡ old.weighing
