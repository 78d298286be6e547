use Rattle.std.proofs.Common.{length}
use Rattle.search_pool.proofs.piece_counts.+count_pieces.Given as goal

abbrev pub decreases-count_pieces : goal.decreases-count_pieces
decreases-count_pieces l = length l.works.now
