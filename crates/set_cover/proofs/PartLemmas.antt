-- What is done to a part of a row is done to the row.
use Rattle.std.proofs.Common.{◌≡◌, ℕ, ◌+◌, ◌-◌, ◌*◌, ◌/◌, ◌<◌, ◌≤◌, ◌⊎◌, List, ◌++◌, length, take, drop, slice_index}
use Rattle.std.proofs.Common.{refl, sym, ap, subst, ◌∙◌, arith, inl, inr}
use Rattle.std.specs.Prelude.{◌↔◌, slice_range}
use Rattle.std.proofs.lemmas.List.{length-append, length-drop, length-take-le, get_or_append_left, get_or-append_right}
use Rattle.std.proofs.lemmas.List.{get_or-take, get_or-drop}
use Rattle.set_cover.specs.Bits.{Has, Meet, IsApart, IsWithApart, IsWithin, IsWithout}
use Rattle.set_cover.specs.Rows.{IsSpan}
use Rattle.set_cover.proofs.BitLemmas.{has_inside}
use Rattle.set_cover.proofs.RowLemmas.{row_has}
use Rattle.set_cover.proofs.WordLemmas.{WithinSoFar}
use Rattle.set_cover.proofs.SpanLemmas.{has_same, IsOutside, place_of, span_to, span_in, span_out, span_from}

-- the words with another part from an index on
abbrev pub changed : ℕ → ℕ → List ℕ → List ℕ → List ℕ
changed before count words part = take before words ++ (part ++ drop count (drop before words))

-- a part of the words, from an index on, was exchanged
pub record IsPut (old : List ℕ) (before : ℕ) (part new : List ℕ) : Type 0 where
  pub whole : length new ≡ length old
  pub inside : before + length part ≤ length old
  pub each : (k : ℕ) → k < length part → slice_index new (before + k) ≡ slice_index part k
  pub others : (k : ℕ) → (k < before) ⊎ (before + length part ≤ k) → slice_index new k ≡ slice_index old k

-- a write to a part exchanges it
pub put_part : (old part : List ℕ) (before count : ℕ) → before + count ≤ length old → length part ≡ count
    → IsPut old before part (changed before count old part)
put_part old part before count fits long = record {
  whole = omega (
    arith,
    length-append front (part ++ back),
    length-append part back,
    front_long,
    length-drop count (drop before old),
    length-drop before old,
    long,
    fits,
  );
  inside = omega (arith, long, fits);
  each = λ k lt. get_or-append_right front (part ++ back) before (before + k) 0 front_long (omega arith)
      ∙ ap (slice_index (part ++ back)) (shift k) ∙ get_or_append_left part back 0 k lt;
  others = λ k out. elim out [
    | inl lt ↦ get_or_append_left front (part ++ back) 0 k (omega (arith, front_long, lt))
        ∙ get_or-take before old k 0 lt
    | inr le ↦ get_or-append_right front (part ++ back) before k 0 front_long (omega arith)
        ∙ get_or-append_right part back count (k - before) 0 long (omega (arith, long, le))
        ∙ get_or-drop count (drop before old) (k - before - count) 0
        ∙ get_or-drop before old (count + (k - before - count)) 0
        ∙ ap (slice_index old) (back_at k le)
  ];
}
  where
    front : List ℕ
    front = take before old

    back : List ℕ
    back = drop count (drop before old)

    front_long : length front ≡ before
    front_long = length-take-le before old (omega arith)

    shift : (k : ℕ) → before + k - before ≡ k
    shift k = omega arith

    back_at : (k : ℕ) → before + length part ≤ k → before + (count + (k - before - count)) ≡ k
    back_at k le = omega (arith, long, le)

-- how long a part is
part_long : (words : List ℕ) (before count : ℕ) → before + count ≤ length words
    → length (slice_range words before (before + count)) ≡ count
part_long words before count fits = length-take-le (before + count - before) (drop before words)
    (omega (arith, length-drop before words, fits)) ∙ omega arith

-- the bits of the exchanged part
put_in : (old : List ℕ) (before : ℕ) (part new : List ℕ) (i : ℕ) → IsPut old before part new → i < 64 * length part
    → Has new (64 * before + i) ↔ Has part i
put_in old before part new i put lt = (
  has_same new part (64 * before + i) i word (omega arith),
  has_same part new i (64 * before + i) (sym word) (omega arith),
)
  where
    word : slice_index new ((64 * before + i) / 64) ≡ slice_index part (i / 64)
    word = (let at : (64 * before + i) / 64 ≡ before + i / 64 = omega arith in
        ap (slice_index new) at ∙ put.each (i / 64) (omega arith))

-- and the other bits
put_out : (old : List ℕ) (before : ℕ) (part new : List ℕ) (bit : ℕ) → IsPut old before part new
    → IsOutside before (length part) bit → Has new bit ↔ Has old bit
put_out old before part new bit put out = (
  has_same new old bit bit (put.others (bit / 64) out) refl,
  has_same old new bit bit (sym (put.others (bit / 64) out)) refl,
)

-- a bit of a part is one of the row
part_to : (row : List ℕ) (before count i : ℕ) → Has (slice_range row before (before + count)) i
    → Has row (64 * before + i)
part_to row before count i h = ((row_has row before count i).0 h).1

-- a bit of the row at a part is one of the part
part_in : (row : List ℕ) (before count i : ℕ) → i < 64 * count → Has row (64 * before + i)
    → Has (slice_range row before (before + count)) i
part_in row before count i lt h = (row_has row before count i).1 (lt, h)

module _ (row : List ℕ) (before : ℕ) (kept : List ℕ) (s : IsSpan row before kept) where
  -- the part of a row at the words that are kept
  abbrev part : List ℕ → List ℕ
  part words = slice_range words before (before + length kept)

  -- what meets the words that are kept meets the row
  pub meet_span : (words : List ℕ) → Meet kept (part words) ↔ Meet row words
  meet_span words = (
    λ m. (64 * before + m.0, span_to row before kept s m.0 m.1, part_to words before (length kept) m.0 m.2),
    λ m. (let from = span_from row before kept s m.0 m.1 in (
      from.0,
      from.2,
      part_in words before (length kept) from.0 (has_inside kept from.0 from.2) (subst (Has words) from.1 m.2),
    )),
  )

  -- what is cleared in the part is cleared in the whole
  pub without_span : (old cleared : List ℕ) → length row ≡ length old → IsWithout (part old) kept cleared
      → IsWithout old row (changed before (before + length kept - before) old cleared)
  without_span old cleared same is = record {
    whole = put.whole;
    exact = λ bit. elim (place_of before (length kept) bit) [
      | inl out ↦ (let there = put_out old before cleared new bit put (outside bit out) in
          (λ h. (there.0 h, span_out row before kept s bit out), λ h. there.1 h.0))
      | inr at ↦ (let lt : at.0 < 64 * length cleared = omega (arith, long, at.2) in
          let here = put_in old before cleared new at.0 put lt in (
            λ h. (let b = (is.exact at.0).0 (here.0 (subst (Has new) at.1 h)) in (
              subst (Has old) (sym at.1) (part_to old before (length kept) at.0 b.0),
              λ r. b.1 (span_in row before kept s at.0 at.2 (subst (Has row) at.1 r)),
            )),
            λ h. subst (Has new) (sym at.1) (here.1 ((is.exact at.0).1 (
              part_in old before (length kept) at.0 at.2 (subst (Has old) at.1 h.0),
              λ k. h.1 (subst (Has row) (sym at.1) (span_to row before kept s at.0 k)),
            ))),
          ))
    ];
  }
    where
      new : List ℕ
      new = changed before (before + length kept - before) old cleared

      fits : before + length kept ≤ length old
      fits = omega (arith, s.inside, same)

      long : length cleared ≡ length kept
      long = is.whole ∙ part_long old before (length kept) fits

      put : IsPut old before cleared new
      put = put_part old cleared before (before + length kept - before) (omega (arith, fits)) (omega (arith, long))

      outside : (bit : ℕ) → IsOutside before (length kept) bit → IsOutside before (length cleared) bit
      outside bit out = elim out [ inl lt ↦ inl lt | inr le ↦ inr (omega (arith, long, le)) ]

  -- before the words that are kept nothing of the row lies outside another
  pub within_begin : (words other : List ℕ) → WithinSoFar row words other (before + 0)
  within_begin words other = record {
    each = λ bit lt h g. absurd (span_out row before kept s bit (inl (omega arith)) h);
  }

  -- and none behind them
  pub within_end : (words other : List ℕ) (count : ℕ) → length kept ≤ count
      → WithinSoFar row words other (before + count) → IsWithin row words other
  within_end words other count all so_far bit h g = (let from = span_from row before kept s bit h in
      so_far.each bit (omega (arith, from.1, has_inside kept from.0 from.2, all)) h g)

  -- what is apart at the words that are kept is apart
  pub apart_span : (old other : List ℕ) → IsApart (part old) kept (part other) ↔ IsApart old row other
  apart_span old other = (
    λ apart bit h free was. (let from = span_from row before kept s bit h in
        let lt = has_inside kept from.0 from.2 in
        apart from.0 from.2
        (λ o. free (subst (Has other) (sym from.1) (part_to other before (length kept) from.0 o)))
        (part_in old before (length kept) from.0 lt (subst (Has old) from.1 was))),
    λ apart i h free was. apart (64 * before + i) (span_to row before kept s i h)
        (λ o. free (part_in other before (length kept) i (has_inside kept i h) o))
        (part_to old before (length kept) i was),
  )

  -- what is added to the part is added to the whole
  pub with_apart_span : (old other grown : List ℕ) → length row ≡ length old
      → IsWithApart (part old) kept (part other) grown
      → IsWithApart old row other (changed before (before + length kept - before) old grown)
  with_apart_span old other grown same is = record {
    whole = put.whole;
    apart = (apart_span old other).0 is.apart;
    exact = λ bit. elim (place_of before (length kept) bit) [
      | inl out ↦ (let there = put_out old before grown new bit put (outside bit out) in (
        λ h. inl (there.0 h),
        λ h. elim h [ inl was ↦ there.1 was | inr r ↦ absurd (span_out row before kept s bit out r.0) ],
      ))
      | inr at ↦ (let lt : at.0 < 64 * length grown = omega (arith, long, at.2) in
          let here = put_in old before grown new at.0 put lt in (
            λ h. elim ((is.exact at.0).0 (here.0 (subst (Has new) at.1 h))) [
              | inl was ↦ inl (subst (Has old) (sym at.1) (part_to old before (length kept) at.0 was))
              | inr r ↦ inr (
                subst (Has row) (sym at.1) (span_to row before kept s at.0 r.0),
                λ o. r.1 (part_in other before (length kept) at.0 at.2 (subst (Has other) at.1 o)),
              )
            ],
            λ h. subst (Has new) (sym at.1) (here.1 ((is.exact at.0).1 (elim h [
              | inl was ↦ inl (part_in old before (length kept) at.0 at.2 (subst (Has old) at.1 was))
              | inr r ↦ inr (
                span_in row before kept s at.0 at.2 (subst (Has row) at.1 r.0),
                λ o. r.1 (subst (Has other) (sym at.1) (part_to other before (length kept) at.0 o)),
              )
            ]))),
          ))
    ];
  }
    where
      new : List ℕ
      new = changed before (before + length kept - before) old grown

      fits : before + length kept ≤ length old
      fits = omega (arith, s.inside, same)

      long : length grown ≡ length kept
      long = is.whole ∙ part_long old before (length kept) fits

      put : IsPut old before grown new
      put = put_part old grown before (before + length kept - before) (omega (arith, fits)) (omega (arith, long))

      outside : (bit : ℕ) → IsOutside before (length kept) bit → IsOutside before (length grown) bit
      outside bit out = elim out [ inl lt ↦ inl lt | inr le ↦ inr (omega (arith, long, le)) ]
