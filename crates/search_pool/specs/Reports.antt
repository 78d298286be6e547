-- What a report of many workers tells. This is this project's own.
use Rattle.std.specs.Prelude.{◌≡◌, ◌≤◌, ℕ, ◌+◌, List, [], ◌∷◌, length, min, Option}
use Rattle.set_cover.specs.Instance.{Instance}
use Rattle.proof_tree.specs.Shape.{tree_of}
use Rattle.proof_tree.specs.Piece.{Subproblem}
use Rattle.search_traits.specs.Planned.{IsStopped}
use Rattle.search_traits.specs.Turns.{AreSpent}
use Rattle.schedule_law.specs.Joined.{all_back, all_opened, all_pieces}
use Rattle.schedule_law.specs.Worked.{Worked}
use Rattle.gathering.specs.Gathered.{IsGathered}
use Rattle.search_traits.specs.declared.region_fault.RegionFault.{RegionFault}
use Rattle.search_traits.specs.declared.region_fault.RegionFault.TheVariants.{Stopped, NoThread, OutOfMemory}
use Rattle.gathering.specs.declared.merge.Gathered.{Gathered}
use Rattle.search_pool.specs.Runs.{IsRun}
use Rattle.search_pool.specs.Rows.{counted}
use Rattle.search_pool.specs.Tallies.{all_kept}
use Rattle.search_pool.specs.declared.piece_counts.PieceCounts.{PieceCounts}
use Rattle.search_pool.specs.declared.report.Report.{Report}

-- the numbers added up
abbrev pub sum_of : List ℕ → ℕ
sum_of [] = 0
sum_of (number ∷ numbers) = number + sum_of numbers

-- each piece that was pushed was opened again, closed by a worker, or gleaned; and no more were gleaned than were left
-- or handed back
pub record AddsUp (report : Report) : Type 0 where
  pub whole : sum_of report.closed_by.items + report.gleaned + report.opened ≡ report.pushed
  pub gleaned_few : report.gleaned ≤ report.left + report.handed_back

-- the numbers are those of what workers handed over; the names are those of the pieces that the caller closed
pub record AreNumbersOf (region : Instance) (works : List Worked) (left : List Subproblem) (names : List (List ℕ))
    (report : Report) : Type 0 where
  pub pushed : report.pushed + length (all_kept works) ≡ length (all_pieces region works)
  pub opened : report.opened ≡ length (all_opened works)
  pub handed_back : report.handed_back ≡ length (all_back works)
  pub left_over : report.left ≡ length left
  pub gleaned : report.gleaned + length (all_kept works) ≡ length names

-- the report of what was gathered, where workers handed over these counts of pieces, left `left` pieces, and were
-- granted `granted` turns
pub record TellsOf (gathered : Gathered) (counts : PieceCounts) (left granted : ℕ) (report : Report) : Type 0 where
  pub cover : report.cover ≡ gathered.cover
  pub tree : tree_of report.proof ≡ tree_of gathered.proof
  pub closed_by : report.closed_by.items ≡ gathered.closed_by.items
  pub pushed : report.pushed ≡ counts.closed + counts.opened + counts.held + left
  pub opened : report.opened ≡ counts.opened
  pub handed_back : report.handed_back ≡ counts.held + counts.kept
  pub left_over : report.left ≡ left
  pub gleaned : report.gleaned + counts.kept ≡ length gathered.gleaned.items
  pub turns : report.turns ≡ counted (granted + gathered.turns)

-- workers ran from this cover of the region on, after this size, and the report is what their results merge to
pub record IsMerged (region : Instance) (first : List ℕ) (aim workers : ℕ) (report : Report) : Type 0 where
  pub works : List Worked
  pub left : List Subproblem
  pub run : IsRun region (min aim (length first)) workers works left
  pub names : List (List ℕ)
  pub gathered : IsGathered region first aim works (record {
    cover = report.cover;
    tree = tree_of report.proof;
    closed_by = report.closed_by.items;
    gleaned = names;
  })
  pub numbers : AreNumbersOf region works left names report

-- turns ran out: all that were given were taken
abbrev pub StopsPool : Instance → Option ℕ → RegionFault → Type 0
StopsPool region turns (Stopped found) =
    IsStopped region turns found.cover found.floor × AreSpent turns found.granted
StopsPool region turns NoThread = Unit {0}
StopsPool region turns OutOfMemory = Unit {0}
