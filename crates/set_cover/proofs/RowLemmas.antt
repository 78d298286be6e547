-- The bits of a row among those of all rows, one after another.
use Rattle.std.proofs.Common.{◌≡◌, ℕ, ◌+◌, ◌-◌, ◌*◌, ◌/◌, ◌%◌, ◌<◌, ◌≤◌, List, length, drop, slice_index, sym, subst}
use Rattle.std.proofs.Common.{◌∙◌, arith}
use Rattle.std.specs.Prelude.{◌↔◌, slice_range}
use Rattle.std.specs.Int.{bit_at}
use Rattle.std.proofs.lemmas.List.{length-take, get_or-take, get_or-drop}
use Rattle.set_cover.specs.Bits.{Has}
use Rattle.set_cover.proofs.BitLemmas.{one_if, has_if, has_inside}

-- a word of a row
word_at : (words : List ℕ) (start width k : ℕ) → k < width
    → slice_index (slice_range words start (start + width)) k ≡ slice_index words (start + k)
word_at words start width k lt =
    let inside : k < start + width - start = omega arith in
    get_or-take (start + width - start) (drop start words) k 0 inside ∙ get_or-drop start words k 0

-- a row has no more words than its width
narrow : (words : List ℕ) (start width : ℕ) → length (slice_range words start (start + width)) ≤ width
narrow words start width = omega (arith, length-take (start + width - start) (drop start words))

-- a row has those bits that stand there among all words
pub row_has : (words : List ℕ) (start width bit : ℕ)
    → Has (slice_range words start (start + width)) bit ↔ ((bit < 64 * width) × Has words (64 * start + bit))
row_has words start width bit = (
  λ h. (let inside = has_inside (slice_range words start (start + width)) bit h in
      let within : bit < 64 * width = omega (arith, inside, narrow words start width) in
      let one = one_if (slice_range words start (start + width)) bit h in (
        within,
        has_if words (64 * start + bit)
            (subst (λ (k : ℕ). bit_at (slice_index words k) ((64 * start + bit) % 64) ≡ 1) word
            (subst (λ (i : ℕ). bit_at (slice_index words (start + bit / 64)) i ≡ 1) place
            (subst (λ (w : ℕ). bit_at w (bit % 64) ≡ 1)
            (word_at words start width (bit / 64) (omega (arith, within))) one))),
      )),
  λ b. (let one = one_if words (64 * start + bit) b.1 in
      has_if (slice_range words start (start + width)) bit
      (subst (λ (w : ℕ). bit_at w (bit % 64) ≡ 1) (sym (word_at words start width (bit / 64) (omega (arith, b.0))))
      (subst (λ (i : ℕ). bit_at (slice_index words (start + bit / 64)) i ≡ 1) (sym place)
      (subst (λ (k : ℕ). bit_at (slice_index words k) ((64 * start + bit) % 64) ≡ 1) (sym word) one)))),
)
  where
    word : start + bit / 64 ≡ (64 * start + bit) / 64
    word = omega arith

    place : bit % 64 ≡ (64 * start + bit) % 64
    place = omega arith
