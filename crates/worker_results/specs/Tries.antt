-- What a try to take a piece by one of the passes leaves. This is this project's own.
use Rattle.std.specs.Prelude.{◌≡◌, ℕ, List, Contains}
use Rattle.piece_deque.specs.Rule.{WasEmpty}
use Rattle.piece_deque.specs.declared.answer.Take.{Take}
use Rattle.piece_deque.specs.declared.answer.Take.TheVariants.{Got, Empty, Again}
use Rattle.worker_results.specs.Passes.{KnownPass, TookOne}

-- one of them is at the deque of this number, which was empty at one moment
pub record SawEmpty (passes : List KnownPass) (deque : ℕ) : Type 0 where
  pub pass : KnownPass
  pub has : Contains passes pass
  pub at : pass.deque ≡ deque
  pub empty : WasEmpty pass.knows

-- one of them took the piece that is answered, or none took any; of a deque that is said to be empty one saw it so
abbrev pub TriedOne : ℕ → List KnownPass → Take → List KnownPass → Type 0
TriedOne deque old (Got piece) new = TookOne old piece new
TriedOne deque old Empty new = (new ≡ old) × SawEmpty old deque
TriedOne deque old Again new = new ≡ old
