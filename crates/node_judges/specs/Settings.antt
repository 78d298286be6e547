-- What a node is judged in. This is this project's own.
use Rattle.std.specs.Prelude.{◌≡◌, ℕ, List, [], length, Option}
use Rattle.proof_rules.specs.Omitted.{left_without}
use Rattle.weight_judge.specs.Rooms.{AreNoRooms}
use Rattle.weight_judge.specs.declared.rooms.Room.{Room}
use Rattle.node_judges.specs.Tally.{Tally}
use Rattle.node_judges.specs.Tests.{AreAscendingBelow, AreMatched}
use Rattle.node_judges.specs.declared.setting.Setting.{Setting}

-- the cells of the region that aren't left out
abbrev pub left_in : Setting → List ℕ
left_in setting = left_without setting.omitted.now.items setting.region.now.items

-- the lists and the region are those of a box of `count` cells
pub record IsOfBox (setting : Setting) (count : ℕ) : Type 0 where
  pub region : length setting.region.now.counts ≡ count
  pub places : AreAscendingBelow setting.lists.now count
  pub matched : AreMatched setting.lists.now count

-- no cell is seen, and none of `count` places has a room
pub record AreClear (count : ℕ) (seen : Tally) (rooms : List (Option Room)) : Type 0 where
  pub none : seen.items ≡ []
  pub no_rooms : AreNoRooms count rooms
