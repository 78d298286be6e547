-- The cells that places light, one place after another.
use Rattle.std.proofs.Common.{◌≡◌, ℕ, ◌+◌, ◌<◌, ◌≤◌, List, [], ◌∷◌, ◌++◌, length, take, slice_index, Contains}
use Rattle.std.proofs.Common.{sym, subst, inl, inr}
use Rattle.std.proofs.lemmas.List.{take_more, take_all}
use Rattle.std.proofs.lemmas.List.Elements.{Contains-append_left, Contains-append_right, Contains-append_cases}
use Rattle.std.proofs.lemmas.List.Elements.{Contains-push, Contains-push_cases}
use Rattle.proof_rules.proofs.ListLemmas.{no_member}
use Rattle.lit_lists.specs.Lists.{LitLists, row_at}
use Rattle.node_judges.specs.Tests.{AreMatched, AreLitBy, lit_by}

-- no place lights a cell
pub lit_none : (lists : LitLists) (these : List ℕ) → these ≡ [] → AreLitBy lists [] these
lit_none lists these e = record {
  each = λ cell. (
    λ h. no_member cell (subst (λ (l : List ℕ). Contains l cell) e h),
    λ m. no_member m.0 m.2,
  );
}

-- the cells of one place more
pub lit_more : (lists : LitLists) (limit : ℕ) → AreMatched lists limit → (places : List ℕ) (i : ℕ) (these : List ℕ)
    → i < length places → AreLitBy lists (take i places) these
    → AreLitBy lists (take (i + 1) places) (these ++ row_at lists.pairs.lights (slice_index places i))
lit_more lists limit m places i these h s =
    subst (λ (l : List ℕ). AreLitBy lists l (these ++ row_at lists.pairs.lights (slice_index places i)))
    (sym (take_more places i 0 h)) (record {
      each = λ cell. (
        λ has. (elim (Contains-append_cases these (row_at lists.pairs.lights (slice_index places i)) cell has) [
          | inl old ↦ (let w = (s.each cell).0 old in
              (w.0, w.1, Contains-append_left (take i places) (slice_index places i ∷ []) w.0 w.2))
          | inr new ↦ (
            slice_index places i,
            (m.same (slice_index places i) cell).0 new,
            Contains-push (take i places) (slice_index places i),
          )
        ]),
        λ w. (elim (Contains-push_cases (take i places) (slice_index places i) w.0 w.2) [
          | inl old ↦ Contains-append_left these (row_at lists.pairs.lights (slice_index places i)) cell
              ((s.each cell).1 (w.0, w.1, old))
          | inr e ↦ Contains-append_right these (row_at lists.pairs.lights (slice_index places i)) cell
              ((m.same (slice_index places i) cell).1
              (subst (λ (p : ℕ). Contains (lit_by lists cell) p) (sym e) w.1))
        ]),
      );
    })

-- after the last place the cells of all
pub lit_all : (lists : LitLists) (places : List ℕ) (i : ℕ) (these : List ℕ) → length places ≤ i
    → AreLitBy lists (take i places) these → AreLitBy lists places these
lit_all lists places i these le s = subst (λ (l : List ℕ). AreLitBy lists l these) (take_all i places le) s
