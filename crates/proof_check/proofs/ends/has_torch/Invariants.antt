use Rattle.std.proofs.Common.{ℕ, ◌<◌, slice_index}
use Rattle.std.specs.Prelude.{IsTrue}
use Rattle.proof_check.specs.Ends.{is_somewhere, home_of}
use Rattle.proof_check.proofs.ends.has_torch.Given as goal

abbrev pub invariant-loop-place : goal.invariant-loop-place
invariant-loop-place l = (k : ℕ) → k < l.place-index
    → ¬ IsTrue (is_somewhere (home_of l.torches (slice_index l.places k)))
