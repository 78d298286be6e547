-- What a test of a line answers: the one stage that comes next, or that there is none.
use Rattle.std.specs.Prelude.{◌≡◌, ◌≤◌, ℕ, List, [], ◌∷◌, ◌++◌, length, All, Option, MatchOption}
use Rattle.proof_rules.specs.Text.{line}
use Rattle.certificate_lines.specs.Numbers.{IsSmall, most_numbers}
use Rattle.certificate_lines.specs.declared.stage.Stage.{Stage}

-- it holds of this stage, and of no other
pub record IsJust (P : Stage → Type 0) (next : Stage) : Type 0 where
  pub is : P next
  pub only : (other : Stage) → P other → other ≡ next

-- it holds of no stage
pub record IsNone (P : Stage → Type 0) : Type 0 where
  pub none : (other : Stage) → P other → ⊥

-- the answer is the one stage of which it holds, or none where it holds of none
abbrev pub Decides : Option Stage → (Stage → Type 0) → Type 0
Decides r P = MatchOption r (IsNone P) (IsJust P)

-- the text is this word with these numbers, and with no other
pub record IsLineOf (text word numbers : List ℕ) : Type 0 where
  pub is : text ≡ line word numbers
  pub small : All IsSmall numbers
  pub only : (others : List ℕ) → All IsSmall others → text ≡ line word others → others ≡ numbers

-- the text isn't this word with numbers that a line may have, whichever they are
pub record IsNoLineOf (text word : List ℕ) : Type 0 where
  pub none : (numbers : List ℕ) → All IsSmall numbers → length numbers ≤ most_numbers → text ≡ line word numbers → ⊥

-- the text doesn't begin with this word
pub record HasNoFront (text word : List ℕ) : Type 0 where
  pub none : (rest : List ℕ) → text ≡ word ++ rest → ⊥

-- ---- how many numbers there are

-- there isn't just one number
pub record IsNotOne (numbers : List ℕ) : Type 0 where
  pub none : (a : ℕ) → numbers ≡ a ∷ [] → ⊥

-- there aren't just two numbers
pub record IsNotTwo (numbers : List ℕ) : Type 0 where
  pub none : (a b : ℕ) → numbers ≡ a ∷ b ∷ [] → ⊥

-- there aren't just three numbers
pub record IsNotThree (numbers : List ℕ) : Type 0 where
  pub none : (a b c : ℕ) → numbers ≡ a ∷ b ∷ c ∷ [] → ⊥
