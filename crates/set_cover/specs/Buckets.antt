-- Numbers in lists by a key. This is this project's own.
use Rattle.std.specs.Prelude.{◌≡◌, ◌≢◌, ℕ, List, [], ◌∷◌, ◌++◌, length, slice_index_or}
use Rattle.cave_model.specs.Listing.{ListsAll}

-- the list of a key
abbrev pub bucket : List (List ℕ) → ℕ → List ℕ
bucket buckets key = slice_index_or buckets key []

-- `count` empty lists
pub record AreNone (count : ℕ) (buckets : List (List ℕ)) : Type 0 where
  pub whole : length buckets ≡ count
  pub none : (key : ℕ) → bucket buckets key ≡ []

-- one list has this item more
pub record IsPushed (old : List (List ℕ)) (key item : ℕ) (new : List (List ℕ)) : Type 0 where
  pub whole : length new ≡ length old
  pub here : bucket new key ≡ bucket old key ++ item ∷ []
  pub others : (other : ℕ) → other ≢ key → bucket new other ≡ bucket old other

-- the items of each key, ascending
pub record AreBucketsOf (Kind : ℕ → ℕ → Type 0) (count : ℕ) (buckets : List (List ℕ)) : Type 0 where
  pub whole : length buckets ≡ count
  pub each : (key : ℕ) → ListsAll (Kind key) (bucket buckets key)
