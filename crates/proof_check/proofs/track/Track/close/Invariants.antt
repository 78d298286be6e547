use Rattle.std.proofs.Common.{◌≡◌, length}
use Rattle.proof_check.proofs.TrackLemmas.{Closing}
use Rattle.proof_check.proofs.track.Track.close.Given as goal

abbrev pub invariant-loop-frame : goal.invariant-loop-frame
invariant-loop-frame l = record {
  whole : length l.self.chosen.counts ≡ length l.fn.self.chosen.counts;
  wide : length l.self.barred.counts ≡ length l.fn.self.barred.counts;
  long : length l.self.omitted.counts ≡ length l.fn.self.omitted.counts;
  closing : Closing (length l.fn.self.chosen.counts)
      l.fn.self.chosen.items l.fn.self.barred.items l.fn.self.omitted.items l.fn.self.frames.items
      l.self.chosen.items l.self.barred.items l.self.omitted.items l.self.frames.items;
}

abbrev pub decreases-loop-frame : goal.decreases-loop-frame
decreases-loop-frame l = length l.self.frames.items
