-- A flood from a block's cells, level by level.
use Rattle.std.proofs.Common.{◌≡◌, ℕ, ◌+◌, ◌-◌, ◌*◌, ◌≤◌, List, [], length, slice_index, refl, sym, ap}
use Rattle.std.proofs.Common.{subst, ◌∙◌, arith, inl, inr}
use Rattle.std.proofs.lemmas.Bool.{cases_lt}
use Rattle.std.proofs.lemmas.List.{get_or_past}
use Rattle.cave_base.specs.Box.{cell_count}
use Rattle.cave_model.specs.Cave.{Cave}
use Rattle.cave_problem.specs.Blocks.{AreBlank, AreExact, AreLevels, AreSized, AreWidened, HasRoom, IsComplete}
use Rattle.cave_problem.specs.Blocks.{IsLinked, IsWordAt}
use Rattle.cave_problem.specs.BlockFlood.{AreWide, HasSpread}
use Rattle.cave_problem.specs.Reach.{AreLinked, AreSides, BeginsWith, IsReach}
use Rattle.cave_problem.specs.declared.block_flood.BlockFlood.{BlockFlood}
use Rattle.cave_problem.proofs.NumberedLemmas.{begins_on, cell_inside, reach_few, reach_once}
use Rattle.cave_problem.proofs.LevelLemmas.{levels_none, levels_grown, complete_first, complete_kept, complete_next}
use Rattle.cave_problem.proofs.LevelLemmas.{complete_more}

-- ---- before the flood

-- memory that is ready has no word
pub blank_ready : (reach levels : List ℕ) → reach ≡ [] → AreBlank levels (length reach) → AreBlank levels 0
blank_ready reach levels none s = record { none = λ k le. s.none k (omega (arith, ap length none)) }

-- ---- the flood

-- what a flood leaves in these lists
pub record IsSpread (cave : Cave) (cells local reach near levels : List ℕ) (cell_count count : ℕ) : Type 0 where
  pub wide : AreWide cell_count local near
  pub found : IsReach local reach
  pub sized : AreSized (length reach) near levels count
  pub linked : IsLinked cave cells reach near count
  pub there : AreExact cave cells reach (cave.rule.need + 1) levels
  pub complete : IsComplete cave cells reach count cave.rule.need
  pub others : AreBlank levels (length reach)

-- down to this level
pub record Spreading (cave : Cave) (cells sides local reach near levels : List ℕ) (from level : ℕ) : Type 0 where
  pub found : IsReach local reach
  pub begins : BeginsWith cells reach
  pub within : from ≤ length reach
  pub linked : AreLinked sides reach near from
  pub filled : AreLevels cave cells reach level levels
  pub complete : IsComplete cave cells reach (length reach) (level - 1)

-- at first
pub spreading_none : (cave : Cave) (cells sides local reach near levels : List ℕ) → reach ≡ cells
    → IsReach local reach → AreBlank levels 0 → Spreading cave cells sides local reach near levels 0 15
spreading_none cave cells sides local reach near levels e found blank = record {
  found = found;
  begins = subst (BeginsWith cells) (sym e) (record { longer = omega arith; same = λ k h. refl });
  within = omega arith;
  linked = record { each = λ number face lt. absurd (omega arith) };
  filled = levels_none cave cells reach levels blank;
  complete = subst (λ (l : List ℕ). IsComplete cave cells l (length l) 14) (sym e) (complete_first cave cells);
}

-- sides and words have room for the reach
pub reach_sized : (sides local reach near levels : List ℕ) (count cells : ℕ) → IsReach local reach
    → AreWide cells local near → AreLinked sides reach near count → count ≤ length reach
    → length levels ≡ 16 * length reach → AreSized (length reach) near levels count
reach_sized sides local reach near levels count cells found wide linked le long =
    let few = reach_few local reach found in
    record {
      few = le;
      here = omega (arith, long);
      each = λ number lt. record {
        sides = omega (arith, lt, le, few, wide.numbers, wide.sides);
        words = λ face small. omega (arith, (linked.each number face lt small).inside, long);
      };
    }

-- room for more words changes none
pub levels_widened : (cave : Cave) (cells reach old new : List ℕ) (least : ℕ) → AreWidened (length reach) old new
    → AreLevels cave cells reach least old → AreLevels cave cells reach least new
levels_widened cave cells reach old new least w s = record {
  there = record {
    exact = λ number level lt le small. subst (IsWordAt cave cells level (slice_index reach number))
        (sym (w.same (16 * number + level) (omega (arith, lt, small)))) (s.there.exact number level lt le small);
  };
  none = λ number level lt small. elim (cases_lt (16 * number + level) (16 * length reach)) [
    | inl before ↦ w.same (16 * number + level) before ∙ s.none number level lt small
    | inr past ↦ beyond (16 * number + level) past
  ];
  others = record { none = λ k past. beyond k past };
}
  where
    beyond : (k : ℕ) → 16 * length reach ≤ k → slice_index new k ≡ 0
    beyond k past = get_or_past new k 0 (omega (arith, w.long, past))

module _ (cave : Cave) (cells sides local reach near levels : List ℕ) (from level : ℕ)
    (s : Spreading cave cells sides local reach near levels from level)
    (sided : AreSides cave (cell_count cave.size) sides) (next grown wider : List ℕ) (found : IsReach next grown)
    (boxed : length next ≡ cell_count cave.size) (kept : BeginsWith reach grown)
    (linked : AreLinked sides grown wider (length reach)) where
  -- the reach that has grown is linked
  pub grown_linked : IsLinked cave cells grown wider (length reach)
  grown_linked = record {
    begins = begins_on cells reach grown s.begins kept;
    once = reach_once next grown found;
    links = (sides, sided, linked);
  }

  -- and has the cells of this level
  pub grown_complete : IsComplete cave cells grown (length reach) (level - 1)
  grown_complete = complete_kept cave cells reach grown (level - 1) kept s.complete

  -- its new cells have no words
  pub grown_levels : AreLevels cave cells grown level levels
  grown_levels = levels_grown cave cells reach grown levels level (level - 1) (omega arith) kept
      (reach_once next grown found) s.complete s.filled

  -- a level lower
  pub spreading_next : (more : List ℕ) → 3 ≤ level → AreLevels cave cells grown (level - 1) more
      → Spreading cave cells sides next grown wider more (length reach) (level - 1)
  spreading_next more lit filled = record {
    found = found;
    begins = begins_on cells reach grown s.begins kept;
    within = kept.longer;
    linked = linked;
    filled = filled;
    complete = complete_next cave cells grown wider (length reach) (level - 1 - 1) (omega arith) grown_linked
        kept.longer (λ number h. omega (arith, cell_inside next grown found number h, boxed))
        (subst (λ (n : ℕ). IsComplete cave cells grown (length reach) n) down grown_complete);
  }
    where
      down : level - 1 ≡ level - 1 - 1 + 1
      down = omega arith

  -- at the end
  pub spreading_all : (count : ℕ) (words : List ℕ) → AreWide count next wider
      → AreWidened (length grown) levels words → level ≤ cave.rule.need + 1
      → IsSpread cave cells next grown wider words count (length reach)
  spreading_all count words wide w le = record {
    wide = wide;
    found = found;
    sized = reach_sized sides next grown wider words (length reach) count found wide linked kept.longer w.long;
    linked = grown_linked;
    there = record {
      exact = λ number any h low small. widened.there.exact number any h (omega (arith, le)) small;
    };
    complete = complete_more cave cells grown (length reach) (level - 1) cave.rule.need (omega arith) grown_complete;
    others = widened.others;
  }
    where
      widened : AreLevels cave cells grown level words
      widened = levels_widened cave cells grown levels words level w grown_levels

-- lists that are the same have the same
pub spread_same : (cave : Cave) (cells local reach near levels same_local same_near : List ℕ) (count : ℕ)
    → local ≡ same_local → near ≡ same_near
    → IsSpread cave cells local reach near levels (cell_count cave.size) count
    → IsSpread cave cells same_local reach same_near levels (cell_count cave.size) count
spread_same cave cells local reach near levels same_local same_near count e f s =
    subst (λ (l : List ℕ). IsSpread cave cells l reach same_near levels (cell_count cave.size) count) e
    (subst (λ (l : List ℕ). IsSpread cave cells local reach l levels (cell_count cave.size) count) f s)

-- there is room for more words of the linked cells
pub spread_room : (cave : Cave) (cells : List ℕ) (flood : BlockFlood) (count : ℕ) → length cells ≤ 64
    → HasSpread cave cells flood count
    → HasRoom cave flood.reach.items flood.near.items flood.levels.items (length cells) count
spread_room cave cells flood count few s = (let least = reach_few flood.local.items flood.reach.items s.left.found in
    record {
      inside = λ k d h. omega (arith, s.left.found.inside k d h, s.left.wide.numbers);
      sized = s.sized;
      small = omega (arith, least, s.left.wide.numbers, s.left.wide.small);
      few = few;
    })
