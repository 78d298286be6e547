-- How many numbers of a kind there are. This is this project's own.
use Rattle.std.specs.Prelude.{◌≡◌, ◌≢◌, ◌↔◌, ℕ, List, length, AllPairs, Contains}

-- the list has each number of the kind once, and no other
pub record ListsOnce (Kind : ℕ → Type 0) (bits : List ℕ) : Type 0 where
  pub once : AllPairs (λ a b. a ≢ b) bits
  pub exact : (bit : ℕ) → Contains bits bit ↔ Kind bit

-- there is such a list, and every such list has `count` numbers
pub record IsCount (Kind : ℕ → Type 0) (count : ℕ) : Type 0 where
  pub some : (bits : List ℕ) × ListsOnce Kind bits
  pub every : (bits : List ℕ) → ListsOnce Kind bits → length bits ≡ count
