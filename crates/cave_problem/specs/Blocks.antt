-- Which cells of a block bring a level of light to a cell: words with a bit for each of the block's cells, by its
-- index. A cell's words stand by its number in the reach. This is this project's own.
use Rattle.std.specs.Prelude.{◌≡◌, ◌<◌, ◌≤◌, ◌↔◌, ℕ, ◌+◌, ◌*◌, ◌^◌, List, length, slice_index, All}
use Rattle.std.specs.Int.{bit_at}
use Rattle.cave_base.specs.Box.{cell_count}
use Rattle.cave_model.specs.Cave.{Cave}
use Rattle.cave_model.specs.Light.{BringsFrom, entering_cost}
use Rattle.cave_problem.specs.Reach.{AreLinked, AreOnce, AreSides, BeginsWith}

-- light of 15 at the source, less what entering the source costs, brings at least this level to the cell
abbrev pub Reaches : Cave → ℕ → ℕ → ℕ → Type 0
Reaches cave source level cell = BringsFrom cave source 15 cell (level + entering_cost cave source)

-- the bit of a word is set
abbrev pub IsSet : ℕ → ℕ → Type 0
IsSet word bit = bit_at word bit ≡ 1

-- the word has just the bits of the sources that bring the level to the cell
pub record IsWordAt (cave : Cave) (sources : List ℕ) (level cell word : ℕ) : Type 0 where
  pub exact : (bit : ℕ) → bit < 64
      → IsSet word bit ↔ ((bit < length sources) × Reaches cave (slice_index sources bit) level cell)

-- the word at a level of the cell with this number, out of 16 for each
abbrev pub word_at : List ℕ → ℕ → ℕ → ℕ
word_at levels number level = slice_index levels (16 * number + level)

-- from this number on there are no words
pub record AreBlank (levels : List ℕ) (count : ℕ) : Type 0 where
  pub none : (k : ℕ) → 16 * count ≤ k → slice_index levels k ≡ 0

-- room for the words of `count` cells, where words that come have no bit
pub record AreWidened (count : ℕ) (old new : List ℕ) : Type 0 where
  pub long : length new ≡ 16 * count
  pub same : (k : ℕ) → k < 16 * count → slice_index new k ≡ slice_index old k

-- six sides are there for the number, whose words are there
pub record AreInRoom (near levels : List ℕ) (number : ℕ) : Type 0 where
  pub sides : 6 * number + 6 ≤ length near
  pub words : (face : ℕ) → face < 6 → 16 * slice_index near (6 * number + face) + 16 ≤ length levels

-- the same for the first `count` numbers of a reach of `long` cells, whose words are there too
pub record AreSized (long : ℕ) (near levels : List ℕ) (count : ℕ) : Type 0 where
  pub few : count ≤ long
  pub here : 16 * long ≤ length levels
  pub each : (number : ℕ) → number < count → AreInRoom near levels number

-- a reach in the box, of which the first `count` cells are linked, with at most 64 sources
pub record HasRoom (cave : Cave) (reach near levels : List ℕ) (sources count : ℕ) : Type 0 where
  pub inside : All (λ cell. cell < cell_count cave.size) reach
  pub sized : AreSized (length reach) near levels count
  pub small : length reach < 2 ^ 32
  pub few : sources ≤ 64

-- the word has just the bits that one of the first `count` sides has at the level
pub record IsUnion (near levels : List ℕ) (number level count word : ℕ) : Type 0 where
  pub exact : (bit : ℕ) → IsSet word bit
      ↔ ((face : ℕ) × (face < count) × IsSet (word_at levels (slice_index near (6 * number + face)) level) bit)

-- the words of the reach at the levels from this one up are there
pub record AreExact (cave : Cave) (sources reach : List ℕ) (least : ℕ) (levels : List ℕ) : Type 0 where
  pub exact : (number level : ℕ) → number < length reach → least ≤ level → level < 16
      → IsWordAt cave sources level (slice_index reach number) (word_at levels number level)

-- a reach that begins with the sources, with the links of its first `count` cells
pub record IsLinked (cave : Cave) (sources reach near : List ℕ) (count : ℕ) : Type 0 where
  pub begins : BeginsWith sources reach
  pub once : AreOnce reach
  pub links : (sides : List ℕ) × AreSides cave (cell_count cave.size) sides × AreLinked sides reach near count

-- the word is that of the number at the level, for whichever sources the words above it are
pub record IsWordBy (cave : Cave) (reach near levels : List ℕ) (sources number level word : ℕ) : Type 0 where
  pub exact : (cells : List ℕ) → length cells ≡ sources → IsLinked cave cells reach near (number + 1)
      → AreExact cave cells reach (level + 1) levels → IsWordAt cave cells level (slice_index reach number) word

-- each cell to which one of the sources brings the level is one of the first `count`
pub record IsComplete (cave : Cave) (sources reach : List ℕ) (count level : ℕ) : Type 0 where
  pub each : (bit cell : ℕ) → bit < length sources → Reaches cave (slice_index sources bit) level cell
      → (number : ℕ) × (number < count) × (slice_index reach number ≡ cell)

-- the words at the levels from this one up are there, and there are no others
pub record AreLevels (cave : Cave) (sources reach : List ℕ) (least : ℕ) (levels : List ℕ) : Type 0 where
  pub there : AreExact cave sources reach least levels
  pub none : (number level : ℕ) → level < least → level < 16 → word_at levels number level ≡ 0
  pub others : AreBlank levels (length reach)

-- the words at one level more are there, for whichever sources those above it are
pub record Settles (cave : Cave) (reach near : List ℕ) (sources count level : ℕ) (old new : List ℕ) : Type 0 where
  pub settled : (cells : List ℕ) → length cells ≡ sources → IsLinked cave cells reach near count
      → IsComplete cave cells reach count level
      → AreLevels cave cells reach (level + 1) old → AreLevels cave cells reach level new
