-- Turns of one search and of a later one.
use Rattle.std.proofs.Common.{◌≡◌, ◌+◌, ◌-◌, ◌*◌, ◌≤◌, ℕ, Option, Some, ap, ◌∙◌, sym, subst, arith}
use Rattle.std.proofs.Math.Nat.{le-mul_of_pos_right}
use native.Mathlib.Nat.{add-mul}
use Rattle.search_traits.specs.Turns.{AreSpent, IsShareSpent}

-- where all turns were granted, so was the share of one worker
pub all_spent : (workers : ℕ) (turns : Option ℕ) (granted : ℕ) → 1 ≤ workers → AreSpent turns granted
    → IsShareSpent workers turns granted
all_spent workers turns granted some is =
    let scaled : granted + 1 ≤ (granted + 1) * workers = le-mul_of_pos_right (granted + 1) some in
    subst (λ (t : Option ℕ). IsShareSpent workers t granted) (sym is) (omega arith, omega (arith, scaled))

-- the share of what was left, and what was granted before, are a share of all
pub share_later : (workers limit granted later : ℕ) → 1 ≤ workers → granted ≤ limit
    → IsShareSpent workers (Some (limit - granted)) later → IsShareSpent workers (Some limit) (granted + later)
share_later workers limit granted later some within spent =
    let before : granted ≤ granted * workers = le-mul_of_pos_right granted some in
    let regrouped : granted + later + 1 ≡ granted + (later + 1) = omega arith in
    let both : (granted + later + 1) * workers ≡ granted * workers + (later + 1) * workers =
    ap (λ (n : ℕ). n * workers) regrouped ∙ add-mul granted (later + 1) workers in
    (omega (arith, spent.0, within), omega (arith, spent.1, before, both, within))
