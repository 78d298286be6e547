use Rattle.std.proofs.Common.{ℕ, ◌<◌, [], slice_index_or}
use Rattle.search_cases.specs.Made.{IsRowFor}
use Rattle.search_cases.proofs.making.each_is_row.Given as goal

abbrev pub invariant-loop-place : goal.invariant-loop-place
invariant-loop-place l = (place : ℕ) → place < l.place → IsRowFor l.count (slice_index_or l.rows place [])
