-- A reach grows, cell by cell.
use Rattle.std.proofs.Common.{◌≡◌, ◌≢◌, ℕ, ◌+◌, ◌*◌, ◌<◌, ◌≤◌, List, [], ◌∷◌, ◌++◌, length, set, All}
use Rattle.std.proofs.Common.{slice_index, refl, sym, ap, subst, ◌∙◌, arith, inl, inr}
use Rattle.std.proofs.Common.{get_or-set_same, get_or-set_other, length-set}
use Rattle.std.proofs.lemmas.Bool.{cases_lt, cases_eq}
use Rattle.std.proofs.lemmas.List.{get_or_append_left, get_or_push, length_push}
use Rattle.std.proofs.lemmas.List.Elements.{All-push}
use Rattle.std.proofs.lemmas.List.Folds.{list_any_at}
use Rattle.std.proofs.lemmas.Map.Steps.{le-length_from_below}
use Rattle.std.proofs.lemmas.Bool.Decides.{nat_tests}
use Rattle.cave_problem.specs.Reach.{AreLinked, AreOnce, BeginsWith, IsNumberOf, IsReach, no_number}

-- ---- lists that go on

-- by one cell
pub begins_push : (cells : List ℕ) (cell : ℕ) → BeginsWith cells (cells ++ cell ∷ [])
begins_push cells cell = record {
  longer = omega (arith, length_push cells cell);
  same = λ k h. get_or_append_left cells (cell ∷ []) 0 k h;
}

-- going on twice
pub begins_on : (old middle new : List ℕ) → BeginsWith old middle → BeginsWith middle new → BeginsWith old new
begins_on old middle new b c = record {
  longer = omega (arith, b.longer, c.longer);
  same = λ k h. c.same k (omega (arith, b.longer)) ∙ b.same k h;
}

-- a cell keeps its number
pub number_kept : (old new : List ℕ) (cell number : ℕ) → BeginsWith old new → IsNumberOf old cell number
    → IsNumberOf new cell number
number_kept old new cell number b is =
    record { inside = omega (arith, is.inside, b.longer); there = b.same number is.inside ∙ is.there }

-- ---- numbers

module _ (local reach : List ℕ) (s : IsReach local reach) where
  -- the cells are in the box
  pub cell_inside : (number : ℕ) → number < length reach → slice_index reach number < length local
  cell_inside number h = s.inside number 0 h

  -- no cell stands there twice
  pub reach_once : AreOnce reach
  reach_once i j h g e = sym (s.numbered i h) ∙ ap (slice_index local) e ∙ s.numbered j g

  -- there are no more than the box has
  pub reach_few : length reach ≤ length local
  reach_few = le-length_from_below local (length reach)
      (λ q h. list_any_at _ local (slice_index reach q) 0 (cell_inside q h) (grind (arith, nat_tests, s.numbered q h)))

  -- a cell with no number enters
  pub reach_push : (cell number : ℕ) → cell < length local → number ≡ length reach → number < no_number
      → ((k : ℕ) → k < length reach → slice_index reach k ≢ cell)
      → IsReach (set local cell number) (reach ++ cell ∷ [])
  reach_push cell number h e small fresh = record {
    inside = All-push (λ c. c < length (set local cell number)) reach cell
        (λ k d lt. omega (arith, s.inside k d lt, length-set local cell number))
        (omega (arith, length-set local cell number));
    numbered = λ k lt. elim (cases_lt k (length reach)) [
      | inl old ↦ ap (slice_index (set local cell number)) (was k old)
          ∙ get_or-set_other local cell (slice_index reach k) number 0 (fresh k old) ∙ s.numbered k old
      | inr past ↦ (let last : length reach ≡ k = omega (arith, length_push reach cell) in
          ap (slice_index (set local cell number)) (get_or_push reach cell 0 k last)
          ∙ get_or-set_same local cell number 0 h ∙ e ∙ last)
    ];
    others = λ other inside. elim (cases_eq other cell) [
      | inl same ↦ (let at : slice_index (set local cell number) other ≡ number =
          ap (slice_index (set local cell number)) same ∙ get_or-set_same local cell number 0 h in
          inr (record {
            inside = omega (arith, at, e, length_push reach cell);
            there = ap (slice_index (reach ++ cell ∷ [])) (at ∙ e) ∙ get_or_push reach cell 0 (length reach) refl
                ∙ sym same;
          }))
      | inr ne ↦ (let at : slice_index (set local cell number) other ≡ slice_index local other =
          get_or-set_other local cell other number 0 ne in
          elim (s.others other (omega (arith, inside, length-set local cell number))) [
            | inl none ↦ inl (at ∙ none)
            | inr is ↦ inr (record {
              inside = omega (arith, at, is.inside, length_push reach cell);
              there = ap (slice_index (reach ++ cell ∷ [])) at ∙ was (slice_index local other) is.inside ∙ is.there;
            })
          ])
    ];
  }
    where
      was : (k : ℕ) → k < length reach → slice_index (reach ++ cell ∷ []) k ≡ slice_index reach k
      was k h = get_or_append_left reach (cell ∷ []) 0 k h

  -- a cell without a number isn't there
  pub not_there : (cell : ℕ) → slice_index local cell ≡ no_number → length reach < no_number → (k : ℕ)
      → k < length reach → slice_index reach k ≢ cell
  not_there cell none few k h e = (let number = s.numbered k h in
      let same : slice_index local cell ≡ k = ap (slice_index local) (sym e) ∙ number in absurd (omega arith))

  -- a cell with a number is
  pub number_there : (cell : ℕ) → cell < length local → slice_index local cell ≢ no_number
      → IsNumberOf reach cell (slice_index local cell)
  number_there cell h some = elim (s.others cell h) [
    | inl none ↦ absurd (some none)
    | inr is ↦ is
  ]

-- ---- links

-- a longer reach has the same links
pub linked_more : (sides old new near : List ℕ) (count : ℕ) → count ≤ length old → BeginsWith old new
    → AreLinked sides old near count → AreLinked sides new near count
linked_more sides old new near count le b s = record {
  each = λ number face lt small. (let at : slice_index new number ≡ slice_index old number =
      b.same number (omega (arith, lt, le)) in
      subst (λ (c : ℕ). IsNumberOf new (slice_index sides (6 * c + face)) (slice_index near (6 * number + face)))
      (sym at) (number_kept old new (slice_index sides (6 * slice_index old number + face))
      (slice_index near (6 * number + face)) b (s.each number face lt small)));
}

-- the first `count` sides of a cell are linked
pub record Linking (sides first reach near : List ℕ) (number count : ℕ) : Type 0 where
  pub kept : BeginsWith first reach
  pub before : AreLinked sides reach near number
  pub here : (face : ℕ) → face < count → IsNumberOf reach
      (slice_index sides (6 * slice_index first number + face)) (slice_index near (6 * number + face))

-- one more is
pub linking_next : (sides first reach new near : List ℕ) (number face found : ℕ) → number < length first
    → 6 * number + face < length near → face < 6 → BeginsWith reach new
    → IsNumberOf new (slice_index sides (6 * slice_index first number + face)) found
    → Linking sides first reach near number face
    → Linking sides first new (set near (6 * number + face) found) number (face + 1)
linking_next sides first reach new near number face found h room small b is s = record {
  kept = begins_on first reach new s.kept b;
  before = record {
    each = λ other any lt low. (let more = linked_more sides reach new near number
        (omega (arith, h, s.kept.longer)) b s.before in
        subst (IsNumberOf new (slice_index sides (6 * slice_index new other + any)))
        (sym (get_or-set_other near (6 * number + face) (6 * other + any) found 0 (λ e. omega arith)))
        (more.each other any lt low));
  };
  here = λ any lt. elim (cases_eq any face) [
    | inl e ↦ subst (λ (f : ℕ). IsNumberOf new (slice_index sides (6 * slice_index first number + f))
        (slice_index (set near (6 * number + face) found) (6 * number + f))) (sym e)
        (subst (IsNumberOf new (slice_index sides (6 * slice_index first number + face)))
        (sym (get_or-set_same near (6 * number + face) found 0 room)) is)
    | inr ne ↦ subst (IsNumberOf new (slice_index sides (6 * slice_index first number + any)))
        (sym (get_or-set_other near (6 * number + face) (6 * number + any) found 0 (λ e. ne (omega arith))))
        (number_kept reach new (slice_index sides (6 * slice_index first number + any))
        (slice_index near (6 * number + any)) b (s.here any (omega arith)))
  ];
}

-- ---- a reach is forgotten

-- the first `count` cells have no number any longer
pub record Forgetting (local reach : List ℕ) (count : ℕ) : Type 0 where
  pub inside : All (λ cell. cell < length local) reach
  pub others : (cell : ℕ) → cell < length local
      → (slice_index local cell ≢ no_number) → (number : ℕ) × (count ≤ number) × IsNumberOf reach cell number
