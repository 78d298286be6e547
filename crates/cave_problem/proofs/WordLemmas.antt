-- The word of a cell, by those of its sides at a higher level.
use Rattle.std.proofs.Common.{◌≡◌, ◌↔◌, ◌⊎◌, ℕ, ◌+◌, ◌*◌, ◌%◌, ◌^◌, ◌<◌, ◌≤◌, List, length, slice_index}
use Rattle.std.proofs.Common.{refl, sym, ap, subst, ◌∙◌, arith, inl, inr}
use Rattle.std.specs.Int.{w64}
use mir.Val.{bits}
use lib.Bits.{bit_or}
use Rattle.std.proofs.lemmas.Bool.{cases_eq}
use Rattle.std.proofs.lemmas.Nat.Bits.{bit_at_set_same, bit_at_set_other}
use Rattle.cave_base.specs.Box.{cell_count}
use Rattle.cave_model.specs.Cells.{AreNeighbours}
use Rattle.cave_model.specs.Cave.{Cave}
use Rattle.cave_model.specs.Light.{entering_cost}
use Rattle.cave_model.proofs.FaceLemmas.{neighbours_mutual}
use Rattle.cave_problem.specs.Blocks.{Reaches, IsSet, word_at, IsUnion, AreExact, IsLinked, IsWordBy}
use Rattle.cave_problem.specs.Reach.{AreOnce, BeginsWith}
use Rattle.cave_problem.proofs.ReachLemmas.{either_set, reaches_cost, reaches_from, reaches_here, reaches_less}
use Rattle.cave_problem.proofs.ReachLemmas.{reaches_on, side_leads, side_to, zero_unset}

-- ---- a word of the sides' words

-- before the first side
pub union_none : (near levels : List ℕ) (number level : ℕ) → IsUnion near levels number level 0 0
union_none near levels number level = record {
  exact = λ bit. (λ is. absurd (zero_unset 0 bit refl is), λ b. absurd (omega (arith, b.1)));
}

-- the next side
pub union_next : (near levels : List ℕ) (number level face word : ℕ) → IsUnion near levels number level face word
    → IsUnion near levels number level (face + 1)
    (bit_or word (word_at levels (slice_index near (6 * number + face)) level))
union_next near levels number level face word s = record {
  exact = λ bit. (
    λ is. elim ((either_set word (word_at levels (slice_index near (6 * number + face)) level) bit).0 is) [
      | inl was ↦ (let b = (s.exact bit).0 was in (b.0, omega (arith, b.1), b.2))
      | inr more ↦ (face, omega arith, more)
    ],
    λ b. (either_set word (word_at levels (slice_index near (6 * number + face)) level) bit).1
        (elim (cases_eq b.0 face) [
          | inl e ↦ inr (subst (λ (f : ℕ). IsSet (word_at levels (slice_index near (6 * number + f)) level) bit) e b.2)
          | inr ne ↦ inl ((s.exact bit).1 (b.0, omega (arith, b.1, ne), b.2))
        ]),
  );
}

-- ---- the word of a cell

-- a source's own bit is that of its number
pub own_bit : (sources reach : List ℕ) (number bit : ℕ) → BeginsWith sources reach → AreOnce reach
    → number < length reach
    → ((number < length sources) × (bit ≡ number))
    ↔ ((bit < length sources) × (slice_index sources bit ≡ slice_index reach number))
own_bit sources reach number bit b once h = (
  λ own. (omega (arith, own.0, own.1), ap (slice_index sources) own.1 ∙ sym (b.same number own.0)),
  λ is. (let same : bit ≡ number = once bit number (omega (arith, is.0, b.longer)) h (b.same bit is.0 ∙ is.1) in
      (omega (arith, is.0, same), same)),
)

-- where entering takes all, nothing is left
pub word_none : (cave : Cave) (reach near levels : List ℕ) (sources number level above : ℕ) → 1 ≤ level
    → above ≡ level + entering_cost cave (slice_index reach number) → 16 ≤ above
    → IsWordBy cave reach near levels sources number level 0
word_none cave reach near levels sources number level above lit e high = record {
  exact = λ cells long linked exact. record {
    exact = λ bit lt. (
      λ is. absurd (zero_unset 0 bit refl is),
      λ r. (let cost = reaches_cost cave (slice_index cells bit) level (slice_index reach number) lit r.1 in
          absurd (omega arith)),
    );
  };
}

module _ (cave : Cave) (reach near levels : List ℕ) (sources number level above union : ℕ)
    (h : number < length reach) (inside : slice_index reach number < cell_count cave.size) (lit : 1 ≤ level)
    (e : above ≡ level + entering_cost cave (slice_index reach number)) (low : above < 16)
    (s : IsUnion near levels number above 6 union) where
  abbrev cell : ℕ
  cell = slice_index reach number

  -- what the sides bring
  from_sides : (cells : List ℕ) → IsLinked cave cells reach near (number + 1)
      → AreExact cave cells reach (level + 1) levels → (bit : ℕ) → bit < 64 → IsSet union bit
      → (bit < length cells) × Reaches cave (slice_index cells bit) level (slice_index reach number)
  from_sides cells linked exact bit lt is =
      let b = (s.exact bit).0 is in
      let there = linked.links.2.each number b.0 (omega arith) b.1 in
      let r = ((exact.exact (slice_index near (6 * number + b.0)) above there.inside (omega arith) low).exact bit lt).0
      b.2 in (
        r.0,
        elim (side_leads cave linked.links.0 reach near (number + 1) linked.links.1 linked.links.2 number
            b.0 (omega arith) b.1 inside) [
              | inl self ↦ reaches_less cave (slice_index cells bit) level above cell (omega arith)
                  (subst (Reaches cave (slice_index cells bit) above) self r.1)
              | inr n ↦ reaches_on cave (slice_index cells bit) level
                  (slice_index reach (slice_index near (6 * number + b.0))) cell
                  (neighbours_mutual cave.size cell (slice_index reach (slice_index near (6 * number + b.0))) n)
                  (subst (λ (k : ℕ). Reaches cave (slice_index cells bit) k
                  (slice_index reach (slice_index near (6 * number + b.0)))) e r.1)
            ],
      )

  -- what comes from a neighbour they bring
  by_sides : (cells : List ℕ) → IsLinked cave cells reach near (number + 1)
      → AreExact cave cells reach (level + 1) levels → (bit before : ℕ) → bit < 64 → bit < length cells
      → AreNeighbours cave.size before (slice_index reach number)
      → Reaches cave (slice_index cells bit) (level + entering_cost cave (slice_index reach number)) before
      → IsSet union bit
  by_sides cells linked exact bit before lt source n r =
      let cost = reaches_cost cave (slice_index cells bit) (level + entering_cost cave cell) before (omega arith) r in
      let side = side_to cave linked.links.0 reach near (number + 1) linked.links.1 linked.links.2 number before
      (omega arith) inside (neighbours_mutual cave.size before cell n) (omega (arith, cost)) (omega arith) in
      (s.exact bit).1 (
        side.0,
        side.1,
        ((exact.exact (slice_index near (6 * number + side.0)) above side.2.inside (omega arith) low).exact bit lt).1 (
          source,
          subst (Reaches cave (slice_index cells bit) above) (sym side.2.there)
              (subst (λ (k : ℕ). Reaches cave (slice_index cells bit) k before) (sym e) r),
        ),
      )

  -- with the source's own bit the word is whole
  whole_word : (word : ℕ)
      → ((bit : ℕ) → bit < 64 → IsSet word bit ↔ (((number < sources) × (bit ≡ number)) ⊎ IsSet union bit))
      → IsWordBy cave reach near levels sources number level word
  whole_word word both = record {
    exact = λ cells long linked exact. record {
      exact = λ bit lt. (
        λ is. elim ((both bit lt).0 is) [
          | inl own ↦ (let b = (own_bit cells reach number bit linked.begins linked.once h).0
              (omega (arith, own.0, long), own.1) in (
                b.0,
                subst (λ (source : ℕ). Reaches cave source level cell) (sym b.1)
                    (reaches_here cave cell level inside (omega arith)),
              ))
          | inr some ↦ from_sides cells linked exact bit lt some
        ],
        λ r. (both bit lt).1 (elim (reaches_from cave (slice_index cells bit) level cell r.1) [
          | inl self ↦ inl (let own = (own_bit cells reach number bit linked.begins linked.once h).1 (r.0, self) in
              (omega (arith, own.0, long), own.1))
          | inr from ↦ inr (by_sides cells linked exact bit from.0 lt r.0 from.1 from.2)
        ]),
      );
    };
  }

  -- the cell is no source
  pub word_other : sources ≤ number → IsWordBy cave reach near levels sources number level union
  word_other past = whole_word union
      (λ bit lt. (λ is. inr is, λ b. elim b [ inl own ↦ absurd (omega (arith, own.0)) | inr is ↦ is ]))

  -- the cell is a source
  pub word_source : number < sources → number < 64
      → IsWordBy cave reach near levels sources number level (bit_or union (1 * 2 ^ number % 2 ^ bits w64))
  word_source is_source small = whole_word (bit_or union (1 * 2 ^ number % 2 ^ bits w64)) (λ bit lt. (
    λ is. elim (cases_eq bit number) [
      | inl same ↦ inl (is_source, same)
      | inr ne ↦ inr (sym (bit_at_set_other w64 union number small bit ne) ∙ is)
    ],
    λ b. elim (cases_eq bit number) [
      | inl same ↦ subst (IsSet (bit_or union (1 * 2 ^ number % 2 ^ bits w64))) (sym same)
          (bit_at_set_same w64 union number small)
      | inr ne ↦ elim b [
        | inl own ↦ absurd (ne own.1)
        | inr is ↦ bit_at_set_other w64 union number small bit ne ∙ is
      ]
    ],
  ))

-- fewer cells are linked too
pub linked_fewer : (cave : Cave) (cells reach near : List ℕ) (count fewer : ℕ) → fewer ≤ count
    → IsLinked cave cells reach near count → IsLinked cave cells reach near fewer
linked_fewer cave cells reach near count fewer le s = record {
  begins = s.begins;
  once = s.once;
  links = (
    s.links.0,
    s.links.1,
    record { each = λ number face lt small. s.links.2.each number face (omega arith) small },
  );
}
