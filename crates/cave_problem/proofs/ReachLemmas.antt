-- Bits of words, where light comes from, and the sides of cells.
use Rattle.std.proofs.Common.{◌≡◌, ◌↔◌, ◌⊎◌, ℕ, ◌+◌, ◌*◌, ◌<◌, ◌≤◌, List, slice_index}
use Rattle.std.proofs.Common.{refl, sym, ap, subst, ◌∙◌, arith, inl, inr}
use Rattle.std.specs.Int.{bit_at}
use lib.Bits.{bit_or}
use Rattle.std.proofs.lemmas.Bool.{cases_eq}
use Rattle.std.proofs.lemmas.Nat.Bits.{bit_at-zero, bit_at-lt, bit_at_or}
use Rattle.cave_base.specs.Box.{cell_count}
use Rattle.cave_model.specs.Cells.{AreNeighbours}
use Rattle.cave_model.specs.Cave.{Cave}
use Rattle.cave_model.specs.Light.{entering_cost}
use Rattle.cave_model.specs.Light.Path.{start, onward}
use Rattle.cave_model.proofs.NeighbourLemmas.{listed_shares, listed_at, index_of, index_below}
use Rattle.cave_problem.specs.Blocks.{Reaches, IsSet}
use Rattle.cave_problem.specs.Reach.{AreLinked, AreSides, IsNumberOf}

-- ---- bits of words

-- zero has no bit
pub zero_unset : (word bit : ℕ) → word ≡ 0 → ¬ IsSet word bit
zero_unset word bit zero is = (let none : bit_at word bit ≡ 0 = ap (λ (n : ℕ). bit_at n bit) zero ∙ bit_at-zero bit in
    absurd (omega (arith, none, is)))

-- a bit of either is one of both together
pub either_set : (a b bit : ℕ) → IsSet (bit_or a b) bit ↔ (IsSet a bit ⊎ IsSet b bit)
either_set a b bit = (
  λ is. elim (cases_eq (bit_at a bit) 1) [
    | inl e ↦ inl e
    | inr ne ↦ inr (omega (arith, bit_at_or a b bit, bit_at-lt a bit, bit_at-lt b bit, is, ne))
  ],
  λ h. elim h [
    | inl one ↦ omega (arith, bit_at_or a b bit, bit_at-lt b bit, one)
    | inr one ↦ omega (arith, bit_at_or a b bit, bit_at-lt a bit, one)
  ],
)

-- ---- where light comes from

module _ (cave : Cave) (source : ℕ) where
  -- a source brings a level to itself where entering it leaves that much
  pub reaches_here : (level : ℕ) → source < cell_count cave.size → level + entering_cost cave source < 16
      → Reaches cave source level source
  reaches_here level inside le = (0, start inside, omega arith)

  -- and to a cell what is left of a neighbour's level
  pub reaches_on : (level before cell : ℕ) → AreNeighbours cave.size before cell
      → Reaches cave source (level + entering_cost cave cell) before → Reaches cave source level cell
  reaches_on level before cell n r = (
    r.0 + entering_cost cave cell,
    onward {before = before} {cost = r.0} r.1 cell n,
    omega (arith, r.2),
  )

  -- a higher level is enough
  pub reaches_less : (level more cell : ℕ) → level ≤ more → Reaches cave source more cell
      → Reaches cave source level cell
  reaches_less level more cell le r = (r.0, r.1, omega (arith, r.2))

  -- light comes only where entering leaves something
  pub reaches_cost : (level cell : ℕ) → 1 ≤ level → Reaches cave source level cell
      → level + entering_cost cave cell < 16
  reaches_cost level cell p (cost, start h, le) = omega (arith, le)
  reaches_cost level cell p (cost, onward {before = b} {cost = c} path to n, le) = omega (arith, le)

  -- it is the source's own, or comes from a neighbour
  pub reaches_from : (level cell : ℕ) → Reaches cave source level cell
      → (source ≡ cell) ⊎ ((before : ℕ) × AreNeighbours cave.size before cell
      × Reaches cave source (level + entering_cost cave cell) before)
  reaches_from level cell (cost, start h, le) = inl refl
  reaches_from level cell (cost, onward {before = b} {cost = c} path to n, le) =
      inr (b, n, (c, path, omega (arith, le)))

-- ---- sides

module _ (cave : Cave) (sides reach near : List ℕ) (count : ℕ) (s : AreSides cave (cell_count cave.size) sides)
    (links : AreLinked sides reach near count) where
  -- a side of a cell is the cell itself or a neighbour
  pub side_leads : (number face : ℕ) → number < count → face < 6 → slice_index reach number < cell_count cave.size
      → (slice_index reach (slice_index near (6 * number + face)) ≡ slice_index reach number)
      ⊎ AreNeighbours cave.size (slice_index reach number)
      (slice_index reach (slice_index near (6 * number + face)))
  side_leads number face lt small inside =
      let is = links.each number face lt small in
      let side = s.each (slice_index reach number) face inside small in
      elim side.leads [
        | inl self ↦ inl (is.there ∙ self)
        | inr beyond ↦ inr (subst (AreNeighbours cave.size (slice_index reach number)) (sym is.there)
            (listed_shares cave.size (slice_index reach number) face
            (slice_index sides (6 * slice_index reach number + face)) inside beyond))
      ]

  -- each neighbour that light can enter is a side
  pub side_to : (number to : ℕ) → number < count → slice_index reach number < cell_count cave.size
      → AreNeighbours cave.size (slice_index reach number) to
      → entering_cost cave (slice_index reach number) < 15 → entering_cost cave to < 15
      → (face : ℕ) × (face < 6) × IsNumberOf reach to (slice_index near (6 * number + face))
  side_to number to lt inside n lets_in passes =
      let face = index_of n.face in
      let side = s.each (slice_index reach number) face inside (index_below n.face) in
      let at = side.opens to (listed_at cave.size (slice_index reach number) n.face ∙ n.there) lets_in passes in (
        face,
        index_below n.face,
        subst (λ (c : ℕ). IsNumberOf reach c (slice_index near (6 * number + face))) at
            (links.each number face lt (index_below n.face)),
      )
