-- What a test says in its branches.
use Rattle.std.proofs.Common.{◌≡◌}
use Rattle.std.specs.Prelude.{Bool, true, false, MatchBool}

-- where the test holds
pub on : (b : Bool) (P Q : Type 0) → b ≡ true → MatchBool b P Q → P
on true P Q e m = m
on false P Q e m = absurd cc

-- and where it doesn't
pub off : (b : Bool) (P Q : Type 0) → b ≡ false → MatchBool b P Q → Q
off true P Q e m = absurd cc
off false P Q e m = m
