-- Lists of open places as they grow, claim by claim.
use Rattle.std.proofs.Common.{◌≡◌, ℕ, zero, suc, ◌+◌, ◌<◌, ◌≤◌, inl, inr, List, [], ◌∷◌, ◌++◌, length, All}
use Rattle.std.proofs.Common.{get_or, refl, sym, subst, arith, length-append}
use Rattle.std.specs.List.Sorted.{IsStrictlyIncreasing}
use Rattle.std.proofs.lemmas.List.{get_or_push, get_or_append_left}
use Rattle.std.proofs.lemmas.List.Elements.{All-nil}
use Rattle.std.proofs.lemmas.List.Kept.{AllPairs-from_increasing}
use Rattle.std.proofs.lemmas.Bool.{cases_lt}
use Rattle.cave_model.specs.Coverage.{Coverage}
use Rattle.cave_model.specs.Plan.{AreDistinct}
use Rattle.set_cover.specs.Instance.{Instance, of_indices}
use Rattle.proof_rules.specs.Good.{AreOpen}
use Rattle.proof_rules.proofs.ListLemmas.{all_members, distinct_nil}
use Rattle.pack_bound.specs.Nodes.{NodeState}
use Rattle.pack_bound.specs.Judged.{AreKidPlaces}
use Rattle.weight_judge.specs.declared.claims.Claim.{Claim}
use Rattle.weight_judge.specs.Held.{places_at, AreAllOpen}
use Rattle.tree_judges.specs.Weighted.{AreOpenLists}

-- the lists of the first `count` claims
pub record AreListsTo (region : Instance) (state : NodeState) (claims : List Claim) (count : ℕ) (lists : List (List ℕ))
    : Type 0 where
  pub whole : length lists ≡ count
  pub each : (index : ℕ) (d : Claim) → index < count
      → AreKidPlaces region state (get_or claims index d).cell (places_at lists index)

-- one claim more
pub lists_go_on : (region : Instance) (state : NodeState) (claims : List Claim) (count : ℕ) (lists : List (List ℕ))
    (places : List ℕ) → AreListsTo region state claims count lists
    → ((d : Claim) → AreKidPlaces region state (get_or claims count d).cell places)
    → AreListsTo region state claims (count + 1) (lists ++ places ∷ [])
lists_go_on region state claims count lists places a kids = record {
  whole = omega (arith, length-append lists (places ∷ []), a.whole);
  each = λ index d lt. (elim (cases_lt index count) [
    | inl before ↦ subst (AreKidPlaces region state (get_or claims index d).cell)
        (sym (get_or_append_left lists (places ∷ []) [] index (omega (arith, before, a.whole)))) (a.each index d before)
    | inr le ↦ (let same : index ≡ count = omega (arith, lt) in
        subst (AreKidPlaces region state (get_or claims index d).cell)
        (sym (get_or_push lists places [] index (omega (arith, same, a.whole))))
        (subst (λ (k : ℕ). AreKidPlaces region state (get_or claims k d).cell places) (sym same) (kids d)))
  ]);
}

-- past the end there is no list
no_list : (lists : List (List ℕ)) (index : ℕ) → length lists ≤ index → places_at lists index ≡ []
no_list [] index le = get_none index
  where
    get_none : (k : ℕ) → places_at [] k ≡ []
    get_none zero = refl
    get_none (suc k) = refl
no_list (l ∷ ls) zero le = absurd (omega arith)
no_list (l ∷ ls) (suc index) le = no_list ls index (omega arith)

-- ascending places are distinct
rising_distinct : (places : List ℕ) → IsStrictlyIncreasing places → AreDistinct places
rising_distinct places up = λ i j d lt h e.
    (let less = AllPairs-from_increasing places up i j d lt h in omega (arith, less, e))

-- lists of open places, one for each claim
all_open : (coverage : Coverage) (barred : List ℕ) (claims : List Claim) (lists : List (List ℕ))
    → length lists ≡ length claims
    → ((index : ℕ) (d : Claim) → index < length claims
    → AreOpen coverage barred (get_or claims index d).cell (places_at lists index))
    → AreAllOpen coverage barred claims lists
all_open coverage barred [] [] e f = tt
all_open coverage barred [] (l ∷ ls) e f = absurd (omega arith)
all_open coverage barred (c ∷ cs) [] e f = absurd (omega arith)
all_open coverage barred (c ∷ cs) (l ∷ ls) e f = (
  f 0 c (omega arith),
  all_open coverage barred cs ls (omega arith) (λ index d lt. f (suc index) d (omega (arith, lt))),
)

-- all of them
pub lists_end : (region : Instance) (state : NodeState) (claims : List Claim) (lists : List (List ℕ))
    → AreListsTo region state claims (length claims) lists → AreOpenLists region state claims lists
lists_end region state claims lists a = record {
  whole = a.whole;
  below = record {
    once = λ index. (elim (cases_lt index (length claims)) [
      | inl lt ↦ rising_distinct (places_at lists index) (a.each index none lt).ascending
      | inr le ↦ subst AreDistinct (sym (no_list lists index (omega (arith, a.whole, le)))) distinct_nil
    ]);
    below = λ index. (elim (cases_lt index (length claims)) [
      | inl lt ↦ all_members (λ place. place < length region.places) (places_at lists index)
          (a.each index none lt).of_it
      | inr le ↦ subst (All (λ place. place < length region.places))
          (sym (no_list lists index (omega (arith, a.whole, le)))) (All-nil (λ place. place < length region.places))
    ]);
  };
  open_there = λ barred listed. all_open (of_indices region) barred claims lists a.whole
      (λ index d lt. (a.each index d lt).open_there barred listed);
}
  where
    none : Claim
    none = record { group = 0; capacity = 0; cell = 0; weight = 0 }
