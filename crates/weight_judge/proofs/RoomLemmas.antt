-- Rooms of places, one place after another.
use Rattle.std.proofs.Common.{◌≡◌, ◌≢◌, ℕ, ◌+◌, ◌<◌, List, [], ◌∷◌, ◌++◌, length, take, slice_index, Contains, refl}
use Rattle.std.proofs.Common.{sym, subst, ◌∙◌, arith, inl, inr, length-take-le, get_or-take}
use Rattle.std.specs.Prelude.{Option}
use Rattle.std.proofs.lemmas.Grind.{get_or_default_zero}
use Rattle.std.proofs.lemmas.List.{take_more}
use Rattle.std.proofs.lemmas.List.Elements.{Contains-append_left, Contains-push, Contains-push_cases}
use Rattle.cave_model.specs.Plan.{AreDistinct}
use Rattle.proof_rules.proofs.ListLemmas.{no_member}
use Rattle.weight_judge.specs.declared.claims.Claim.{Claim}
use Rattle.weight_judge.specs.declared.rooms.Room.{Room}
use Rattle.weight_judge.specs.Rooms.{room_at, Takes, TakesAt, IsTaken, AreTaken, LacksRoom, LackRoom}

-- what stands at an index doesn't stand before it
pub fresh : (xs : List ℕ) (i : ℕ) → AreDistinct xs → i < length xs → ¬ Contains (take i xs) (slice_index xs i)
fresh xs i once h has =
    let lt : has.0 < i = omega (arith, has.1, length-take-le i xs (omega arith)) in
    let at : slice_index (take i xs) has.0 ≡ slice_index xs i =
    sym (get_or_default_zero (take i xs) has.0 (slice_index xs i) has.1) ∙ has.2 in
    once has.0 i 0 lt h (sym (get_or-take i xs has.0 0 lt) ∙ at)

-- no places are taken
pub taken_none : (claim : Claim) (old : List (Option Room)) → AreTaken [] claim old old
taken_none claim old = record { whole = refl; others = λ other none. refl; here = λ place h. no_member place h }

-- one place more is taken
pub taken_more : (places : List ℕ) (place : ℕ) (claim : Claim) (old rooms new : List (Option Room))
    → AreTaken places claim old rooms → (¬ Contains places place) → IsTaken place claim rooms new
    → AreTaken (places ++ place ∷ []) claim old new
taken_more places place claim old rooms new s out t = record {
  whole = t.whole ∙ s.whole;
  others = λ other out. t.others other (λ e. out (subst (Contains (places ++ place ∷ [])) (sym e)
      (Contains-push places place)))
      ∙ s.others other (λ h. out (Contains-append_left places (place ∷ []) other h));
  here = λ p h. elim (Contains-push_cases places place p h) [
    | inl was ↦ (let ne : p ≢ place = λ e. out (subst (Contains places) e was) in
        let r = s.here p was in (r.0, t.others p ne ∙ r.1, r.2))
    | inr e ↦ subst (λ (q : ℕ). TakesAt q claim old new) e
        (let r = t.here in
        (r.0, r.1, subst (λ (o : Option Room). Takes claim o r.0) (s.others place out) r.2))
  ];
}

-- the same of the next of some places
pub taken_next : (places : List ℕ) (i : ℕ) (claim : Claim) (old rooms new : List (Option Room)) → AreDistinct places
    → i < length places → AreTaken (take i places) claim old rooms → IsTaken (slice_index places i) claim rooms new
    → AreTaken (take (i + 1) places) claim old new
taken_next places i claim old rooms new once h s t =
    subst (λ (l : List ℕ). AreTaken l claim old new) (sym (take_more places i 0 h))
    (taken_more (take i places) (slice_index places i) claim old rooms new s (fresh places i once h) t)

-- one that lacks room did so before the others were taken
pub lacked : (places : List ℕ) (i : ℕ) (claim : Claim) (old rooms : List (Option Room)) → AreDistinct places
    → i < length places → AreTaken (take i places) claim old rooms
    → LacksRoom claim (room_at rooms (slice_index places i)) → LackRoom claim places old
lacked places i claim old rooms once h s l = (
  slice_index places i,
  (i, h, get_or_default_zero places i (slice_index places i) h),
  subst (LacksRoom claim) (s.others (slice_index places i) (fresh places i once h)) l,
)
