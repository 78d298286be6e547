-- A text of small numbers, each after a space, has these numbers alone.
use Rattle.std.proofs.Common.{◌≡◌, ℕ, ◌≤◌, List, [], ◌∷◌, ◌++◌, All}
use Rattle.std.proofs.Common.{refl, sym, ap, subst, ◌∙◌, arith, append-nil}
use Rattle.std.specs.Prelude.{decimal}
use Rattle.std.proofs.lemmas.List.{append_cancel_left}
use Rattle.std.proofs.lemmas.List.Elements.{All-head, All-tail}
use Rattle.cave_base.specs.Box.{most_cells}
use Rattle.proof_rules.specs.Certificate.{AreListed}
use Rattle.proof_rules.specs.Text.{line}
use Rattle.certificate_lines.specs.Numbers.{IsSmall, IsCut, numbers_text}
use Rattle.certificate_lines.proofs.Digits.{AreDigits, read_on, digits_of, value_of, longest, no_more}
use Rattle.certificate_lines.proofs.Reading.{numbers_cut}

-- what comes behind digits in digits is digits
behind : (front back digits : List ℕ) → digits ≡ front ++ back → AreDigits digits → AreDigits back
behind [] back digits e are = subst AreDigits e are
behind (d ∷ front) back [] e are = absurd (cc)
behind (d ∷ front) back (c ∷ digits) e are = behind front back digits (cc) are.2

-- a number in front of what is no digit
pub one_number : (m n : ℕ) (a b : List ℕ) → IsSmall m → IsSmall n → IsCut a → IsCut b → decimal m ++ a ≡ decimal n ++ b
    → (m ≡ n) × (a ≡ b)
one_number m n a b small_m small_n cut_a cut_b e =
    let r = longest (decimal m) a (decimal n) b (digits_of m small_m) cut_b e in
    let none : r.0 ≡ [] =
    no_more r.0 a b (behind (decimal m) r.0 (decimal n) r.1 (digits_of n small_n)) cut_a r.2 in
    let same : decimal n ≡ decimal m =
    r.1 ∙ ap (λ (ds : List ℕ). decimal m ++ ds) none ∙ append-nil (decimal m) in (
      sym (value_of m small_m) ∙ ap (read_on 0) (sym same) ∙ value_of n small_n,
      r.2 ∙ ap (λ (ds : List ℕ). ds ++ b) none,
    )

-- numbers, each after a space
pub same_numbers : (a b : List ℕ) → All IsSmall a → All IsSmall b → numbers_text a ≡ numbers_text b → a ≡ b
same_numbers [] [] small_a small_b e = refl
same_numbers [] (n ∷ b) small_a small_b e = absurd (cc)
same_numbers (m ∷ a) [] small_a small_b e = absurd (cc)
same_numbers (m ∷ a) (n ∷ b) small_a small_b e =
    let text : decimal m ++ numbers_text a ≡ decimal n ++ numbers_text b = cc in
    let one = one_number m n (numbers_text a) (numbers_text b) (All-head IsSmall m a small_a)
    (All-head IsSmall n b small_b) (numbers_cut a) (numbers_cut b) text in
    let number = one.0 in
    let rest : a ≡ b = same_numbers a b (All-tail IsSmall m a small_a) (All-tail IsSmall n b small_b) one.1 in
    cc

-- a line with this word
pub same_line : (word a b : List ℕ) → All IsSmall a → All IsSmall b → line word a ≡ line word b → a ≡ b
same_line word a b small_a small_b e =
    same_numbers a b small_a small_b (append_cancel_left word (numbers_text a) (numbers_text b) e)

-- ascending cells of a box are small
pub listed_small : (count : ℕ) (cells : List ℕ) → count ≤ most_cells → AreListed count cells → All IsSmall cells
listed_small count cells few are = λ k d h. (let b = are.below k d h in omega arith)
