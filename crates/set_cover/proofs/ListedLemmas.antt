-- Each row is that of some list.
use Rattle.std.proofs.Common.{◌≡◌, ℕ, zero, suc, ◌*◌, ◌<◌, List, [], ◌∷◌, ◌++◌, length, Contains, subst, arith}
use Rattle.std.proofs.Common.{inl, inr}
use Rattle.std.specs.Prelude.{◌↔◌}
use Rattle.std.proofs.lemmas.Bool.{cases_lt}
use Rattle.std.proofs.lemmas.List.Elements.{Contains-push, Contains-push_cases, Contains-append_left}
use Rattle.set_cover.specs.Bits.{Has, IsRowOf}
use Rattle.set_cover.proofs.BitLemmas.{has_or_not, has_inside}

-- the bits below a number
listed_below : (words : List ℕ) (count : ℕ)
    → (bits : List ℕ) × ((bit : ℕ) → Contains bits bit ↔ ((bit < count) × Has words bit))
listed_below words zero = ([], λ bit. (λ c. absurd (omega (arith, c.1)), λ b. absurd (omega (arith, b.0))))
listed_below words (suc count) =
    let before = listed_below words count in
    elim (has_or_not words count) [
      | inl has ↦ (
        before.0 ++ count ∷ [],
        λ bit. (
          λ c. elim (Contains-push_cases before.0 count bit c) [
            | inl was ↦ (let b = (before.1 bit).0 was in (omega (arith, b.0), b.1))
            | inr e ↦ (omega arith, subst (Has words) e has)
          ],
          λ b. elim (cases_lt bit count) [
            | inl lt ↦ Contains-append_left before.0 (count ∷ []) bit ((before.1 bit).1 (lt, b.1))
            | inr le ↦ (let e : count ≡ bit = omega (arith, b.0) in
                subst (Contains (before.0 ++ count ∷ [])) e (Contains-push before.0 count))
          ],
        ),
      )
      | inr not ↦ (
        before.0,
        λ bit. (
          λ c. (let b = (before.1 bit).0 c in (omega (arith, b.0), b.1)),
          λ b. elim (cases_lt bit count) [
            | inl lt ↦ (before.1 bit).1 (lt, b.1)
            | inr le ↦ (let e : bit ≡ count = omega (arith, b.0) in absurd (not (subst (Has words) e b.1)))
          ],
        ),
      )
    ]

-- each row is that of some list
pub row_listed : (words : List ℕ) → (bits : List ℕ) × IsRowOf bits words
row_listed words =
    let all = listed_below words (64 * length words) in (
      all.0,
      record { exact = λ bit. (λ h. (all.1 bit).1 (has_inside words bit h, h), λ c. ((all.1 bit).0 c).1) },
    )
