-- Words are filled level by level, and a reach has the cells that get a level.
use Rattle.std.proofs.Common.{◌≡◌, ◌≢◌, ℕ, ◌+◌, ◌*◌, ◌<◌, ◌≤◌, List, length, set, slice_index}
use Rattle.std.proofs.Common.{sym, subst, ◌∙◌, arith, inl, inr, get_or-set_same, get_or-set_other}
use Rattle.std.proofs.lemmas.Bool.{cases_lt, cases_eq}
use Rattle.cave_base.specs.Box.{cell_count}
use Rattle.cave_model.specs.Cells.{AreNeighbours}
use Rattle.cave_model.specs.Cave.{Cave}
use Rattle.cave_model.specs.Light.{entering_cost}
use Rattle.cave_problem.specs.Blocks.{IsWordAt, AreBlank, word_at, AreExact, HasRoom, IsLinked}
use Rattle.cave_problem.specs.Blocks.{IsComplete, AreLevels}
use Rattle.cave_problem.specs.Reach.{AreOnce, BeginsWith}
use Rattle.cave_problem.proofs.ReachLemmas.{reaches_cost, reaches_from, reaches_less, side_to, zero_unset}

-- ---- a level is filled, cell by cell

-- other words have the same room
pub room_kept : (cave : Cave) (reach near old new : List ℕ) (sources count : ℕ) → length new ≡ length old
    → HasRoom cave reach near old sources count → HasRoom cave reach near new sources count
room_kept cave reach near old new sources count same s = record {
  inside = s.inside;
  sized = record {
    few = s.sized.few;
    here = omega (arith, same, s.sized.here);
    each = λ number lt. record {
      sides = (s.sized.each number lt).sides;
      words = λ face small. omega (arith, same, (s.sized.each number lt).words face small);
    };
  };
  small = s.small;
  few = s.few;
}

-- the first `count` of the reach's cells have their words at the level
pub record Settling (cave : Cave) (cells reach : List ℕ) (level count : ℕ) (levels : List ℕ) : Type 0 where
  pub there : AreExact cave cells reach (level + 1) levels
  pub none : (number lower : ℕ) → lower < level → lower < 16 → word_at levels number lower ≡ 0
  pub others : AreBlank levels (length reach)
  pub done : (number : ℕ) → number < count
      → IsWordAt cave cells level (slice_index reach number) (word_at levels number level)
  pub rest : (number : ℕ) → count ≤ number → word_at levels number level ≡ 0

module _ (cave : Cave) (cells reach : List ℕ) (level : ℕ) (low : level < 16) where
  -- before the first cell
  pub settling_none : (levels : List ℕ) → AreLevels cave cells reach (level + 1) levels
      → Settling cave cells reach level 0 levels
  settling_none levels s = record {
    there = s.there;
    none = λ number lower lt small. s.none number lower (omega arith) small;
    others = s.others;
    done = λ number lt. absurd (omega arith);
    rest = λ number le. s.none number level (omega arith) low;
  }

  -- the next cell
  pub settling_next : (levels : List ℕ) (k word : ℕ) → k < length reach → 16 * k + level < length levels
      → IsWordAt cave cells level (slice_index reach k) word → Settling cave cells reach level k levels
      → Settling cave cells reach level (k + 1) (set levels (16 * k + level) word)
  settling_next levels k word h room is s = record {
    there = record {
      exact = λ number any lt le small. subst (IsWordAt cave cells any (slice_index reach number))
          (sym (kept (16 * number + any) (λ e. omega arith))) (s.there.exact number any lt le small);
    };
    none = λ number lower lt small. kept (16 * number + lower) (λ e. omega arith) ∙ s.none number lower lt small;
    others = record { none = λ j le. kept j (λ e. omega arith) ∙ s.others.none j le };
    done = λ number lt. elim (cases_eq number k) [
      | inl e ↦ subst (λ (n : ℕ). IsWordAt cave cells level (slice_index reach n)
          (word_at (set levels (16 * k + level) word) n level)) (sym e)
          (subst (IsWordAt cave cells level (slice_index reach k))
          (sym (get_or-set_same levels (16 * k + level) word 0 room)) is)
      | inr ne ↦ subst (IsWordAt cave cells level (slice_index reach number))
          (sym (kept (16 * number + level) (λ e. ne (omega arith)))) (s.done number (omega arith))
    ];
    rest = λ number le. kept (16 * number + level) (λ e. omega arith) ∙ s.rest number (omega arith);
  }
    where
      kept : (j : ℕ) → j ≢ 16 * k + level → slice_index (set levels (16 * k + level) word) j ≡ slice_index levels j
      kept j ne = get_or-set_other levels (16 * k + level) j word 0 ne

  -- after the last: light comes to no other
  pub settling_all : (levels : List ℕ) (k count : ℕ) → count ≤ k → k ≤ length reach → k ≤ count → AreOnce reach
      → IsComplete cave cells reach count level → Settling cave cells reach level k levels
      → AreLevels cave cells reach level levels
  settling_all levels k count all within exactly once complete s = record {
    there = record {
      exact = λ number any lt le small. elim (cases_lt level any) [
        | inl more ↦ s.there.exact number any lt (omega arith) small
        | inr ge ↦ (let same : level ≡ any = omega arith in
            subst (λ (n : ℕ). IsWordAt cave cells n (slice_index reach number) (word_at levels number n)) same
            (at number lt))
      ];
    };
    none = s.none;
    others = s.others;
  }
    where
      at : (number : ℕ) → number < length reach
          → IsWordAt cave cells level (slice_index reach number) (word_at levels number level)
      at number lt = elim (cases_lt number k) [
        | inl done ↦ s.done number done
        | inr past ↦ record {
          exact = λ bit small. (
            λ is. absurd (zero_unset (word_at levels number level) bit (s.rest number past) is),
            λ r. (let by = complete.each bit (slice_index reach number) r.0 r.1 in
                let same : by.0 ≡ number = once by.0 number (omega (arith, by.1, exactly, all, within)) lt by.2 in
                absurd (omega (arith, by.1))),
          );
        }
      ]

-- ---- the start

-- without words there is no level of 15, which no light has after entering its source
pub levels_none : (cave : Cave) (cells reach levels : List ℕ) → AreBlank levels 0
    → AreLevels cave cells reach 15 levels
levels_none cave cells reach levels blank = record {
  there = record {
    exact = λ number level lt le small. record {
      exact = λ bit low. (
        λ is. absurd (zero_unset (word_at levels number level) bit (blank.none (16 * number + level) (omega arith)) is),
        λ r. (let cost = reaches_cost cave (slice_index cells bit) level (slice_index reach number) (omega arith) r.1
            in absurd (omega arith)),
      );
    };
  };
  none = λ number level lt small. blank.none (16 * number + level) (omega arith);
  others = record { none = λ k le. blank.none k (omega arith) };
}

-- at 14 light is only where it begins
pub complete_first : (cave : Cave) (cells : List ℕ) → IsComplete cave cells cells (length cells) 14
complete_first cave cells = record {
  each = λ bit cell inside r. elim (reaches_from cave (slice_index cells bit) 14 cell r) [
    | inl self ↦ (bit, inside, self)
    | inr from ↦ (let cost = reaches_cost cave (slice_index cells bit) (14 + entering_cost cave cell) from.0
        (omega arith) from.2 in absurd (omega arith))
  ];
}

-- a reach that grows has no light of these levels in its new cells
pub levels_grown : (cave : Cave) (cells old new levels : List ℕ) (least level : ℕ) → level ≤ least
    → BeginsWith old new → AreOnce new → IsComplete cave cells old (length old) level
    → AreLevels cave cells old least levels → AreLevels cave cells new least levels
levels_grown cave cells old new levels least level le b once complete s = record {
  there = record {
    exact = λ number any lt more small. elim (cases_lt number (length old)) [
      | inl was ↦ subst (λ (c : ℕ). IsWordAt cave cells any c (word_at levels number any)) (sym (b.same number was))
          (s.there.exact number any was more small)
      | inr past ↦ record {
        exact = λ bit low. (
          λ is. absurd (zero_unset (word_at levels number any) bit (s.others.none (16 * number + any) (omega arith))
              is),
          λ r. (let by = complete.each bit (slice_index new number) r.0
              (reaches_less cave (slice_index cells bit) level any (slice_index new number) (omega arith) r.1) in
              let same : by.0 ≡ number = once by.0 number (omega (arith, by.1, b.longer)) lt
              (b.same by.0 by.1 ∙ by.2) in
              absurd (omega (arith, by.1))),
        );
      }
    ];
  };
  none = s.none;
  others = record { none = λ k past. s.others.none k (omega (arith, past, b.longer)) };
}

-- the cells that got the level keep their numbers
pub complete_kept : (cave : Cave) (cells old new : List ℕ) (level : ℕ) → BeginsWith old new
    → IsComplete cave cells old (length old) level → IsComplete cave cells new (length old) level
complete_kept cave cells old new level b s = record {
  each = λ bit cell inside r. (let by = s.each bit cell inside r in (by.0, by.1, b.same by.0 by.1 ∙ by.2));
}

-- one level lower light is where sides of these cells are
pub complete_next : (cave : Cave) (cells reach near : List ℕ) (count level : ℕ) → 1 ≤ level
    → IsLinked cave cells reach near count → count ≤ length reach
    → ((number : ℕ) → number < length reach → slice_index reach number < cell_count cave.size)
    → IsComplete cave cells reach count (level + 1) → IsComplete cave cells reach (length reach) level
complete_next cave cells reach near count level lit linked le inside s = record {
  each = λ bit cell source r. elim (reaches_from cave (slice_index cells bit) level cell r) [
    | inl self ↦ (bit, omega (arith, source, linked.begins.longer), linked.begins.same bit source ∙ self)
    | inr from ↦ (let before = s.each bit from.0 source (reaches_less cave (slice_index cells bit) (level + 1)
        (level + entering_cost cave cell) from.0 (omega arith) from.2) in
        let cost = reaches_cost cave (slice_index cells bit) level cell lit r in
        let own = reaches_cost cave (slice_index cells bit) (level + entering_cost cave cell) from.0 (omega arith)
        from.2 in
        let side = side_to cave linked.links.0 reach near count linked.links.1 linked.links.2 before.0 cell before.1
        (inside before.0 (omega (arith, before.1, le)))
        (subst (λ (c : ℕ). AreNeighbours cave.size c cell) (sym before.2) from.1)
        (subst (λ (c : ℕ). entering_cost cave c < 15) (sym before.2) (omega (arith, own))) (omega arith) in
        (slice_index near (6 * before.0 + side.0), side.2.inside, side.2.there))
  ];
}

-- where it has the cells of a level it has those of a higher one
pub complete_more : (cave : Cave) (cells reach : List ℕ) (count level more : ℕ) → level ≤ more
    → IsComplete cave cells reach count level → IsComplete cave cells reach count more
complete_more cave cells reach count level more le s = record {
  each = λ bit cell inside r. s.each bit cell inside
      (reaches_less cave (slice_index cells bit) level more cell le r);
}
