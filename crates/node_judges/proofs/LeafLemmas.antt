-- Whether cells may stand in a leaf, cell after cell.
use Rattle.std.proofs.Common.{◌≡◌, ℕ, ◌+◌, ◌<◌, ◌≤◌, inl, inr, List, [], ◌∷◌, ◌++◌, length, take, drop, slice_index}
use Rattle.std.proofs.Common.{Contains, sym, subst, ◌∙◌, arith}
use Rattle.std.specs.Prelude.{◌↔◌}
use Rattle.std.proofs.lemmas.List.{take_more, take_all, take-append-drop}
use Rattle.std.proofs.lemmas.List.Elements.{Contains-append_left, Contains-append_right, Contains-append_cases}
use Rattle.std.proofs.lemmas.List.Elements.{Contains-push, Contains-push_cases}
use Rattle.cave_model.specs.Plan.{AreDistinct}
use Rattle.lit_lists.specs.Lists.{LitLists}
use Rattle.lit_lists.proofs.PairLemmas.{fresh}
use Rattle.node_judges.specs.Tests.{MeetOpen, IsFree, AreApartIn, lit_by}
use Rattle.node_judges.proofs.TestLemmas.{element_of}

-- the places of these cells were seen, and the cells may stand in a leaf
pub record Marking (lists : LitLists) (cells chosen barred done seen : List ℕ) : Type 0 where
  pub apart : AreApartIn lists cells chosen barred done
  pub seen_are : (place : ℕ) → Contains seen place
      ↔ ((cell : ℕ) × Contains done cell × Contains (lit_by lists cell) place)

-- no cell is in the empty list
none_in : {A : Type 0} (cell : ℕ) → Contains [] cell → A
none_in cell h = absurd (omega (arith, h.1))

-- before the first cell no place is seen
pub marking_none : (lists : LitLists) (cells chosen barred seen : List ℕ) → seen ≡ []
    → Marking lists cells chosen barred [] seen
marking_none lists cells chosen barred seen e = record {
  apart = record { free = λ cell h. none_in cell h; apart = λ place a b h g p q free. none_in a h };
  seen_are = λ place. (λ h. none_in place (subst (λ (l : List ℕ). Contains l place) e h), λ b. none_in b.0 b.1);
}

module _ (lists : LitLists) (cells chosen barred these seen : List ℕ) (i : ℕ) (h : i < length these)
    (s : Marking lists cells chosen barred (take i these) seen) where
  abbrev cell : ℕ
  cell = slice_index these i

  more : take (i + 1) these ≡ take i these ++ slice_index these i ∷ []
  more = take_more these i 0 h

  -- a free cell that meets no seen open place is one more
  pub marking_more : IsFree lists cells chosen (slice_index these i)
      → (¬ MeetOpen (lit_by lists (slice_index these i)) barred seen)
      → Marking lists cells chosen barred (take (i + 1) these) (seen ++ lit_by lists (slice_index these i))
  marking_more free apart = subst
      (λ (l : List ℕ). Marking lists cells chosen barred l (seen ++ lit_by lists (slice_index these i)))
      (sym more) (record {
        apart = record {
          free = λ c has. (elim (Contains-push_cases (take i these) (slice_index these i) c has) [
            | inl old ↦ s.apart.free c old
            | inr e ↦ subst (IsFree lists cells chosen) e free
          ]);
          apart = λ place a b ha hb pa pb free_place.
              (elim (Contains-push_cases (take i these) (slice_index these i) a ha) [
                | inl old_a ↦ elim (Contains-push_cases (take i these) (slice_index these i) b hb) [
                  | inl old_b ↦ s.apart.apart place a b old_a old_b pa pb free_place
                  | inr e ↦ absurd (apart (
                    place,
                    subst (λ (c : ℕ). Contains (lit_by lists c) place) (sym e) pb,
                    free_place,
                    (s.seen_are place).1 (a, old_a, pa),
                  ))
                ]
                | inr e ↦ elim (Contains-push_cases (take i these) (slice_index these i) b hb) [
                  | inl old_b ↦ absurd (apart (
                    place,
                    subst (λ (c : ℕ). Contains (lit_by lists c) place) (sym e) pa,
                    free_place,
                    (s.seen_are place).1 (b, old_b, pb),
                  ))
                  | inr f ↦ sym e ∙ f
                ]
              ]);
        };
        seen_are = λ place. (
          λ has. (elim (Contains-append_cases seen (lit_by lists (slice_index these i)) place has) [
            | inl old ↦ (let w = (s.seen_are place).0 old in
                (w.0, Contains-append_left (take i these) (slice_index these i ∷ []) w.0 w.1, w.2))
            | inr new ↦ (slice_index these i, Contains-push (take i these) (slice_index these i), new)
          ]),
          λ w. (elim (Contains-push_cases (take i these) (slice_index these i) w.0 w.1) [
            | inl old ↦ Contains-append_left seen (lit_by lists (slice_index these i)) place
                ((s.seen_are place).1 (w.0, old, w.2))
            | inr e ↦ Contains-append_right seen (lit_by lists (slice_index these i)) place
                (subst (λ (c : ℕ). Contains (lit_by lists c) place) (sym e) w.2)
          ]),
        );
      })

  -- a cell that meets one may not stand with those before it
  pub met : MeetOpen (lit_by lists (slice_index these i)) barred seen → AreDistinct these
      → ¬ AreApartIn lists cells chosen barred these
  met m once a =
      let w = (s.seen_are m.0).0 m.3 in
      let same : w.0 ≡ slice_index these i = a.apart m.0 w.0 (slice_index these i) (taken w.0 w.1)
      (element_of these i h) w.2 m.1 m.2 in
      fresh these i once h (subst (Contains (take i these)) same w.1) where
        taken : (c : ℕ) → Contains (take i these) c → Contains these c
        taken c has = subst (λ (l : List ℕ). Contains l c) (take-append-drop i these)
            (Contains-append_left (take i these) (drop i these) c has)

-- after the last cell all may stand in a leaf together
pub marking_all : (lists : LitLists) (cells chosen barred these seen : List ℕ) (i : ℕ) → length these ≤ i
    → Marking lists cells chosen barred (take i these) seen → AreApartIn lists cells chosen barred these
marking_all lists cells chosen barred these seen i le s = subst (λ (l : List ℕ). AreApartIn lists cells chosen barred l)
    (take_all i these le) s.apart
