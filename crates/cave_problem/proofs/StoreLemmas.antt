-- What a block's words say goes to the lists, one cell of the reach after another.
use Rattle.std.proofs.Common.{◌≡◌, ◌≢◌, ◌⊎◌, ◌↔◌, ℕ, ◌+◌, ◌*◌, ◌%◌, ◌<◌, ◌≤◌, List, [], ◌∷◌, ◌++◌, length}
use Rattle.std.proofs.Common.{slice_index, All, refl, sym, ap, subst, ◌∙◌, arith, inl, inr}
use lib.Bits.{bit_or}
use Rattle.std.proofs.lemmas.Bool.{cases_lt, cases_eq}
use Rattle.std.proofs.lemmas.List.{append_assoc}
use Rattle.std.proofs.lemmas.Grind.{get_or_default_zero}
use Rattle.std.specs.List.Sorted.{IsStrictlyIncreasing}
use Rattle.cave_base.specs.Box.{cell_count}
use Rattle.cave_model.specs.Cave.{Cave}
use Rattle.cave_model.proofs.ListingLemmas.{ListsBelow, lists_push, lists_all}
use Rattle.set_cover.specs.Bits.{Has, IsNext, HasNoneFrom}
use Rattle.set_cover.specs.Buckets.{bucket, IsPushed}
use Rattle.set_cover.proofs.BitLemmas.{at_has, has_at, not_past}
use Rattle.set_cover.proofs.OrderLemmas.{rises}
use Rattle.cave_problem.specs.Blocks.{Reaches, IsSet, IsWordAt, IsComplete}
use Rattle.cave_problem.specs.Filling.{AreIndices}
use Rattle.cave_problem.specs.Reach.{AreOnce}
use Rattle.cave_problem.specs.Storing.{HasMore, IsBlock, IsBitOf, IsLitBy, IsPushedWord, IsSourceOf, IsStored}
use Rattle.cave_problem.proofs.ReachLemmas.{either_set}
use Rattle.cave_problem.proofs.MoreLemmas.{lists_pass, more_as, more_none}

-- ---- a block

-- its cells lie in the box where all do
pub block_inside : (cells sources : List ℕ) (block count : ℕ) → IsBlock cells block sources
    → All (λ cell. cell < count) cells → All (λ cell. cell < count) sources
block_inside cells sources block count is inside k d h =
    let at = get_or_default_zero sources k d h in
    let there = inside (64 * block + k) 0 ((is.exact k (omega (arith, is.few))).0 h) in
    omega (arith, at, is.same k h, there)

-- its cells are distinct where all are
pub block_once : (cells sources : List ℕ) (block : ℕ) → IsBlock cells block sources → IsStrictlyIncreasing cells
    → AreOnce sources
block_once cells sources block is up i j h g e = elim (cases_lt i j) [
  | inl lt ↦ (let less = rises cells up (64 * block + i) (64 * block + j) (omega arith)
      ((is.exact j (omega (arith, is.few))).0 g) in absurd (omega (arith, less, is.same i h, is.same j g, e)))
  | inr le ↦ elim (cases_lt j i) [
    | inl lt ↦ (let less = rises cells up (64 * block + j) (64 * block + i) (omega arith)
        ((is.exact i (omega (arith, is.few))).0 h) in absurd (omega (arith, less, is.same i h, is.same j g, e)))
    | inr ge ↦ omega arith
  ]
]

-- ---- a word's bits

-- the bits of the word before this one are in the list
pub record Pushing (key block word from : ℕ) (old new : List (List ℕ)) : Type 0 where
  pub whole : length new ≡ length old
  pub tail : List ℕ
  pub parts : bucket new key ≡ bucket old key ++ tail
  pub listed : ListsBelow (IsBitOf block word) (64 * block + from) tail
  pub others : (other : ℕ) → other ≢ key → bucket new other ≡ bucket old other

-- a bit of a one-word row is one of the word
pub word_bit : (word bit : ℕ) → Has (word ∷ []) bit → (bit < 64) × IsSet word bit
word_bit word bit has = elim (cases_lt bit 64) [
  | inl lt ↦ (lt, at_has (word ∷ []) 0 bit bit lt (omega arith) has)
  | inr past ↦ absurd (not_past (word ∷ []) bit (omega arith) has)
]

-- a bit of the word is in its one-word row
bit_there : (word bit : ℕ) → bit < 64 → IsSet word bit → Has (word ∷ []) bit
bit_there word bit lt set = has_at (word ∷ []) 0 bit bit lt (omega arith) set

module _ (key block word : ℕ) where
  -- between two bits there is none
  none_between : (from bit cell : ℕ) → 64 * block + from ≤ cell → cell < 64 * block + bit → bit ≤ 64
      → ((other : ℕ) → from ≤ other → Has (word ∷ []) other → bit ≤ other) → ¬ IsBitOf block word cell
  none_between from bit cell after before le least is = (let later = least (cell % 64) (omega (arith, is.here))
      (bit_there word (cell % 64) (omega arith) is.set) in absurd (omega (arith, is.here, later)))

  -- the next bit goes into the list
  pub pushing_next : (from bit : ℕ) (old middle new : List (List ℕ)) → IsNext (word ∷ []) from bit
      → IsPushed middle key (64 * block + bit) new → Pushing key block word from old middle
      → Pushing key block word (bit + 1) old new
  pushing_next from bit old middle new next pushed s = record {
    whole = pushed.whole ∙ s.whole;
    tail = s.tail ++ (64 * block + bit) ∷ [];
    parts = pushed.here ∙ ap (λ (l : List ℕ). l ++ (64 * block + bit) ∷ []) s.parts
        ∙ append_assoc (bucket old key) s.tail ((64 * block + bit) ∷ []);
    listed = subst (λ (n : ℕ). ListsBelow (IsBitOf block word) n (s.tail ++ (64 * block + bit) ∷ [])) (omega arith)
        (lists_push (IsBitOf block word) (64 * block + bit) s.tail
        (lists_pass (IsBitOf block word) (64 * block + from) (64 * block + bit) s.tail (omega (arith, next.later))
        (λ cell after before. none_between from bit cell after before (omega (arith, is.0)) next.least) s.listed)
        (record { here = omega (arith, is.0); set = subst (IsSet word) (omega (arith, is.0)) is.1 }));
    others = λ other ne. pushed.others other ne ∙ s.others other ne;
  }
    where
      is : (bit < 64) × IsSet word bit
      is = word_bit word bit next.there

  -- after the last bit
  pub pushing_all : (from : ℕ) (old new : List (List ℕ)) → HasNoneFrom (word ∷ []) from
      → Pushing key block word from old new → IsPushedWord old key block word new
  pushing_all from old new none s = record {
    whole = s.whole;
    more = record {
      tail = s.tail;
      parts = s.parts;
      listed = lists_all (IsBitOf block word) (64 * block + from) s.tail
          (λ cell is. elim (cases_lt cell (64 * block + from)) [
            | inl lt ↦ lt
            | inr le ↦ absurd (none (cell % 64) (omega (arith, is.here))
                (bit_there word (cell % 64) (omega arith) is.set))
          ]) s.listed;
    };
    others = s.others;
  }

-- ---- storing

-- the cell is one of the first `count` of the reach
pub record IsFound (reach : List ℕ) (count cell : ℕ) : Type 0 where
  pub number : ℕ
  pub before : number < count
  pub there : slice_index reach number ≡ cell

-- a place that isn't found yet has the list that it had
pub record IsWaiting (reach places : List ℕ) (count place : ℕ) (old new : List (List ℕ)) : Type 0 where
  pub none : ¬ IsFound reach count (slice_index places place)
  pub same : bucket new place ≡ bucket old place

-- a place that is found has in its list what it lights of the block
pub record IsServed (cave : Cave) (sources reach places : List ℕ) (block count place : ℕ) (old new : List (List ℕ))
    : Type 0 where
  pub found : IsFound reach count (slice_index places place)
  pub more : HasMore (IsSourceOf cave sources block (slice_index places place)) (bucket old place) (bucket new place)

-- the first `count` of the reach's cells have what they light in the lists
pub record Storing (cave : Cave) (sources reach places : List ℕ) (block count : ℕ) (old new : List (List ℕ)) (all : ℕ)
    : Type 0 where
  pub whole : length new ≡ length old
  pub each : (place : ℕ) → place < length places
      → IsWaiting reach places count place old new ⊎ IsServed cave sources reach places block count place old new
  pub found : (bit : ℕ) → bit < 64 → IsSet all bit → IsLitBy cave sources places bit
  pub lit : (bit : ℕ) (by : IsLitBy cave sources places bit) → bit < 64
      → IsFound reach count (slice_index places by.place) → IsSet all bit

-- what was found stays so
found_later : (reach : List ℕ) (k count cell : ℕ) → k ≤ count → IsFound reach k cell → IsFound reach count cell
found_later reach k count cell le is =
    record { number = is.number; before = omega (arith, is.before); there = is.there }

-- found among one more: found before, or there
found_more : (reach : List ℕ) (k cell : ℕ) → IsFound reach (k + 1) cell
    → IsFound reach k cell ⊎ (slice_index reach k ≡ cell)
found_more reach k cell is = elim (cases_lt is.number k) [
  | inl lt ↦ inl (record { number = is.number; before = lt; there = is.there })
  | inr le ↦ (let same : k ≡ is.number = omega (arith, is.before) in inr (ap (slice_index reach) same ∙ is.there))
]

module _ (cave : Cave) (sources reach places indices : List ℕ) (block : ℕ)
    (indexed : AreIndices (cell_count cave.size) places indices)
    (inside : All (λ cell. cell < cell_count cave.size) reach) (once : AreOnce reach) where
  module _ (k : ℕ) (h : k < length reach) where
    abbrev pub here : ℕ
    here = slice_index reach k

    -- the cell is no place
    pub storing_pass : (old new : List (List ℕ)) (all : ℕ) → length places ≤ slice_index indices here
        → Storing cave sources reach places block k old new all
        → Storing cave sources reach places block (k + 1) old new all
    storing_pass old new all past s = record {
      whole = s.whole;
      each = λ place lt. elim (s.each place lt) [
        | inl waits ↦ inl (record { none = λ is. waits.none (earlier place lt is); same = waits.same })
        | inr served ↦ inr (record {
          found = found_later reach k (k + 1) (slice_index places place) (omega arith) served.found;
          more = served.more;
        })
      ];
      found = s.found;
      lit = λ bit by lt is. s.lit bit by lt (earlier by.place by.inside is);
    }
      where
        earlier : (place : ℕ) → place < length places → IsFound reach (k + 1) (slice_index places place)
            → IsFound reach k (slice_index places place)
        earlier place lt is = elim (found_more reach k (slice_index places place) is) [
          | inl before ↦ before
          | inr e ↦ (let at = (indexed.exact here place (inside k 0 h) lt).1 (sym e) in
              absurd (omega (arith, at, past, lt)))
        ]

    -- the cell is a place
    pub storing_next : (old middle new : List (List ℕ)) (all word : ℕ) → slice_index indices here < length places
        → IsWordAt cave sources cave.rule.need here word
        → IsPushedWord middle (slice_index indices here) block word new
        → Storing cave sources reach places block k old middle all
        → Storing cave sources reach places block (k + 1) old new (bit_or all word)
    storing_next old middle new all word lt is pushed s = record {
      whole = pushed.whole ∙ s.whole;
      each = λ place in_list. elim (cases_eq place index) [
        | inl e ↦ inr (subst (λ (p : ℕ). IsServed cave sources reach places block (k + 1) p old new) (sym e) served)
        | inr ne ↦ elim (s.each place in_list) [
          | inl waits ↦ inl (record {
            none = λ is. elim (found_more reach k (slice_index places place) is) [
              | inl before ↦ waits.none before
              | inr e ↦ ne (sym ((indexed.exact here place (inside k 0 h) in_list).1 (sym e)))
            ];
            same = pushed.others place ne ∙ waits.same;
          })
          | inr done ↦ inr (record {
            found = found_later reach k (k + 1) (slice_index places place) (omega arith) done.found;
            more = subst (HasMore (IsSourceOf cave sources block (slice_index places place)) (bucket old place))
                (sym (pushed.others place ne)) done.more;
          })
        ]
      ];
      found = λ bit small set. elim ((either_set all word bit).0 set) [
        | inl was ↦ s.found bit small was
        | inr mine ↦ (let b = (is.exact bit small).0 mine in record {
          place = index;
          inside = lt;
          source = b.0;
          reaches = subst (Reaches cave (slice_index sources bit) cave.rule.need) (sym place_here) b.1;
        })
      ];
      lit = λ bit by small found. (either_set all word bit).1 (elim (found_more reach k (slice_index places by.place)
          found) [
            | inl before ↦ inl (s.lit bit by small before)
            | inr e ↦ inr ((is.exact bit small).1 (
              by.source,
              subst (Reaches cave (slice_index sources bit) cave.rule.need) (sym e) by.reaches,
            ))
          ]);
    }
      where
        index : ℕ
        index = slice_index indices here

        place_here : slice_index places index ≡ here
        place_here = (indexed.exact here index (inside k 0 h) lt).0 refl

        -- the word's bits are the sources that reach the cell
        of_word : (cell : ℕ) → IsBitOf block word cell ↔ IsSourceOf cave sources block here cell
        of_word cell = (
          λ bit. (let b = (is.exact (cell % 64) (omega arith)).0 bit.set in
              record { here = bit.here; source = b.0; reaches = b.1 }),
          λ of. record { here = of.here; set = (is.exact (cell % 64) (omega arith)).1 (of.source, of.reaches) },
        )

        served : IsServed cave sources reach places block (k + 1) index old new
        served = elim (s.each index lt) [
          | inl waits ↦ record {
            found = record { number = k; before = omega arith; there = sym place_here };
            more = subst (λ (c : ℕ). HasMore (IsSourceOf cave sources block c) (bucket old index) (bucket new index))
                (sym place_here)
                (more_as (IsBitOf block word) (IsSourceOf cave sources block here) (bucket old index)
                (bucket new index) of_word
                (subst (λ (l : List ℕ). HasMore (IsBitOf block word) l (bucket new index)) waits.same pushed.more));
          }
          | inr done ↦ (let same = once done.found.number k (omega (arith, done.found.before)) h
              (done.found.there ∙ place_here) in absurd (omega (arith, same, done.found.before)))
        ]

  -- after the last cell the lists have the block's words
  pub storing_all : (old new : List (List ℕ)) (all k count : ℕ) → count ≤ k
      → IsComplete cave sources reach count cave.rule.need → Storing cave sources reach places block k old new all
      → IsStored cave sources places block old new all
  storing_all old new all k count last complete s = record {
    whole = s.whole;
    each = λ place lt. elim (s.each place lt) [
      | inl waits ↦ more_none (IsSourceOf cave sources block (slice_index places place)) (bucket old place)
          (bucket new place) waits.same
          (λ cell is. waits.none (found (slice_index places place)
          (complete.each (cell % 64) (slice_index places place) is.source is.reaches)))
      | inr served ↦ served.more
    ];
    lit = λ bit lt. (
      s.found bit lt,
      λ by. s.lit bit by lt (found (slice_index places by.place)
          (complete.each bit (slice_index places by.place) by.source by.reaches)),
    );
  }
    where
      found : (cell : ℕ) → (number : ℕ) × (number < count) × (slice_index reach number ≡ cell) → IsFound reach k cell
      found cell by = record { number = by.0; before = omega (arith, by.1); there = by.2 }
