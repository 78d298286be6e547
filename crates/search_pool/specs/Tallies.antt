-- How many pieces workers handed over. This is this project's own.
use Rattle.std.specs.Prelude.{◌≡◌, ◌+◌, List, length, flat_map}
use Rattle.proof_tree.specs.Piece.{Subproblem}
use Rattle.schedule_law.specs.Worked.{Worked}
use Rattle.schedule_law.specs.Joined.{all_back, all_closed, all_opened}
use Rattle.search_pool.specs.declared.piece_counts.PieceCounts.{PieceCounts}

-- the kids that workers keep
abbrev pub all_kept : List Worked → List Subproblem
all_kept works = flat_map (λ work. work.kept) works

-- each number is that of such pieces
pub record AreTallied (works : List Worked) (tally : PieceCounts) : Type 0 where
  pub closed : tally.closed ≡ length (all_closed works)
  pub opened : tally.opened ≡ length (all_opened works)
  pub back : tally.held + tally.kept ≡ length (all_back works)
  pub kept : tally.kept ≡ length (all_kept works)
