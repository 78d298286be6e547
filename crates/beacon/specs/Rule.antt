-- What always holds of a beacon's word and its seats. This is this project's own.
use Rattle.std.specs.Prelude.{◌≡◌, ℕ, ◌+◌, ◌≤◌, Bool, true, false, List, [], ◌∷◌, Some}
use mathlib.Core.Option.{some}
use lib.ListN.{get_elem?}
use Rattle.beacon.specs.declared.known.Known.{Known}
use Rattle.beacon.specs.Marks.{AtLeast}

-- one for a seat that isn't spent
abbrev pub one_if_unspent : Bool → ℕ
one_if_unspent true = 0
one_if_unspent false = 1

-- how many seats are not spent
abbrev pub unspent : List Known → ℕ
unspent [] = 0
unspent (seat ∷ seats) = one_if_unspent seat.spent + unspent seats

-- the word is at most what a seat has seen and told
abbrev pub IsBelow : ℕ → Known → Type 0
IsBelow word seat = (word ≤ seat.seen) × AtLeast word seat.told

-- the word is below an unspent seat's marks; only the seat at this number may be the first, which counts the others
abbrev pub Fits : ℕ → ℕ → ℕ → ℕ → Known → Type 0
Fits word chief alive number seat =
    (seat.spent ≡ false → IsBelow word seat) × (seat.first ≡ true → (number ≡ chief) × (alive ≡ seat.out + 1))

-- each of the seats fits
abbrev pub AllFit : ℕ → ℕ → ℕ → List Known → Type 0
AllFit word chief alive seats =
    (number : ℕ) (seat : Known) → get_elem? seats number ≡ some seat → Fits word chief alive number seat

-- an unspent seat has told the size
abbrev pub IsTold : ℕ → List Known → Type 0
IsTold size seats = (number : ℕ) × (seat : Known) × (get_elem? seats number ≡ some seat) × (seat.spent ≡ false)
    × (seat.told ≡ Some size)

-- there is one word; an unspent seat has told it, and no seat saw or told less. The unspent seats are the first one
-- and those that it counts
pub record IsLeastTold (words : List ℕ) (seats : List Known) : Type 0 where
  pub word : ℕ
  pub chief : ℕ
  pub alone : words ≡ word ∷ []
  pub told : IsTold word seats
  pub fit : AllFit word chief (unspent seats) seats
