-- Numbers that are counted, and lists that are filled, each in its own part of one list. This is this project's own.
use Rattle.std.specs.Prelude.{◌≡◌, ◌≤◌, ◌<◌, ◌+◌, ◌-◌, ◌==◌, ℕ, List, length, map, sum, take, slice_index, All}
use Rattle.std.specs.List.{count_by, range_with_len, slice_range}
use Rattle.lit_lists.specs.Rows.{AreEmptyRows, AreWhole}

-- how often the number stands in the list
abbrev pub times : List ℕ → ℕ → ℕ
times numbers number = count_by (λ other. other == number) numbers

-- each of the numbers below `count` is counted as often as it stands in the list, which has no others
pub record AreCounts (count : ℕ) (numbers counts : List ℕ) : Type 0 where
  pub whole : length counts ≡ count
  pub each : (number : ℕ) → number < count → slice_index counts number ≡ times numbers number
  pub total : sum counts ≡ length numbers

-- the sums of no count, of the first, of the first two, and so on
pub record AreSumsOf (counts sums : List ℕ) : Type 0 where
  pub whole : length sums ≡ length counts + 1
  pub each : (index : ℕ) → index ≤ length counts → slice_index sums index ≡ sum (take index counts)

-- what stands in the part from its start up to where the next number goes
abbrev pub filled : List ℕ → List ℕ → List ℕ → ℕ → List ℕ
filled starts next numbers part = slice_range numbers (slice_index starts part) (slice_index next part)

-- the lists so far, one in each part; the last start is the end of the last part
abbrev pub lists_in : List ℕ → List ℕ → List ℕ → List (List ℕ)
lists_in starts next numbers = map (filled starts next numbers) (range_with_len 0 (length starts - 1))

-- in each part the next number goes no further than to the end of the part
pub record IsFilling (starts next numbers : List ℕ) : Type 0 where
  pub whole : length next ≡ length starts
  pub parts : AreWhole starts numbers
  pub begun : (part : ℕ) → part + 1 < length starts → slice_index starts part ≤ slice_index next part
  pub within : (part : ℕ) → part + 1 < length starts → slice_index next part ≤ slice_index starts (part + 1)

-- this is a part, and it isn't full
pub record HasRoom (starts next : List ℕ) (part : ℕ) : Type 0 where
  pub there : part + 1 < length starts
  pub room : slice_index next part < slice_index starts (part + 1)

-- these are parts, and each has room for as many numbers as it stands in the list
pub record HaveRoom (starts next parts : List ℕ) : Type 0 where
  pub there : All (λ part. part + 1 < length starts) parts
  pub each : (part : ℕ) → part + 1 < length starts
      → slice_index next part + times parts part ≤ slice_index starts (part + 1)

-- each part has one number more for each time that it stands in the list
pub record AreFurther (old parts new : List ℕ) : Type 0 where
  pub each : (part : ℕ) → part < length old → slice_index new part ≡ slice_index old part + times parts part

-- each part has room for just as many numbers as it stands in the list
pub record AreOfSize (starts next parts : List ℕ) : Type 0 where
  pub each : (part : ℕ) → part + 1 < length starts
      → slice_index next part + times parts part ≡ slice_index starts (part + 1)

-- each part is full
pub record AreFull (starts next : List ℕ) : Type 0 where
  pub each : (part : ℕ) → part + 1 < length starts → slice_index next part ≡ slice_index starts (part + 1)

-- `count` empty lists, each with room for just as many numbers as its part stands in the list
pub record AreReady (count : ℕ) (starts next numbers parts : List ℕ) : Type 0 where
  pub lists : length starts ≡ count + 1
  pub empty : AreEmptyRows count (lists_in starts next numbers)
  pub room : AreOfSize starts next parts
