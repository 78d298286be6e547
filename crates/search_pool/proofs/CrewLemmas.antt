-- How many workers there are.
use Rattle.std.proofs.Common.{◌≡◌, ℕ, ◌≤◌, Bool, true, false, refl, arith}
use Rattle.std.specs.Prelude.{◌&&◌, IsTrue, nat_lt, nat_le}
use Rattle.std.proofs.lemmas.Bool.{ltb-true, leb-true}
use Rattle.plan_options.specs.Crew.{is_crew, most_workers}

-- where both flags are set each is
both : (a b : Bool) → (a && b) ≡ true → (a ≡ true) × (b ≡ true)
both true true e = (refl, refl)
both true false e = absurd (cc)
both false b e = absurd (cc)

-- one at least, and no more than there may be
pub few_workers : (number : ℕ) → IsTrue (is_crew number) → (1 ≤ number) × (number ≤ most_workers)
few_workers number some =
    let parts = both (nat_lt 0 number) (nat_le number most_workers) some in
    let low = ltb-true 0 number parts.0 in
    (omega (arith, low), leb-true number most_workers parts.1)
