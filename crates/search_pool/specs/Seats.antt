-- The first seat, when others are split off. This is this project's own.
use Rattle.std.specs.Prelude.{◌≡◌, ℕ, ◌+◌, true}
use Rattle.beacon.specs.Marks.{Seated}

-- `count` seats were split off, and the first one has told what it had
pub record SplitsOff (old : Seated) (count : ℕ) (new : Seated) : Type 0 where
  pub same : new.beacon ≡ old.beacon
  pub chief : new.knows.first ≡ true
  pub told : new.knows.told ≡ old.knows.told
  pub out : new.knows.out ≡ old.knows.out + count
