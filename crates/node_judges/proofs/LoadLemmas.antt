-- What claims take from the rooms of places, one place and one claim after another.
use Rattle.std.proofs.Common.{◌≡◌, ◌≢◌, ℕ, zero, suc, ◌+◌, ◌<◌, ◌≤◌, List, [], ◌∷◌, ◌++◌, length, take, drop}
use Rattle.std.proofs.Common.{slice_index, Contains, All, get_or, refl, sym, ap, subst, ◌∙◌, arith, inl, inr}
use Rattle.std.specs.Prelude.{Bool, Option, None, ◌⊎◌}
use Rattle.std.specs.List.Sorted.{IsStrictlyIncreasing}
use Rattle.std.proofs.lemmas.Bool.{cases_eq}
use Rattle.std.proofs.lemmas.List.{take_more, take_all, take-append-drop}
use Rattle.std.proofs.lemmas.List.Elements.{Contains-append_left, Contains-append_right, Contains-append_cases}
use Rattle.std.proofs.lemmas.List.Elements.{Contains-push, Contains-push_cases, Contains-get_or}
use Rattle.cave_model.specs.Plan.{AreDistinct}
use Rattle.lit_lists.specs.Lists.{LitLists}
use Rattle.lit_lists.proofs.PairLemmas.{fresh, rising_distinct}
use Rattle.proof_rules.specs.Omitted.{is_among}
use Rattle.proof_rules.proofs.ListLemmas.{no_member, has_or_not}
use Rattle.proof_rules.proofs.OmitLemmas.{bool_cases, is_one}
use Rattle.weight_judge.specs.declared.claims.Claim.{Claim}
use Rattle.weight_judge.specs.declared.rooms.Room.{Room}
use Rattle.weight_judge.specs.Claims.{AreClaims}
use Rattle.weight_judge.specs.Held.{places_at, if_held, held, AreKept, AreAllKept}
use Rattle.weight_judge.specs.Rooms.{room_at, Takes, TakesAt, LacksRoom, IsTaken, IsCleared, IsRoomOf, AreNoRooms}
use Rattle.weight_judge.proofs.HeldLemmas.{kept_none, room_more, room_lack, room_all}
use Rattle.node_judges.specs.Tests.{AreLeft, AreAscending, AreInside, lit_by}
use Rattle.node_judges.specs.Weighed.{AreAllLeft}
use Rattle.node_judges.specs.Loads.{ChangeAt, AreTakenOpen, LackOpenRoom, AreCleared, LightsNone, AreWithin}
use Rattle.node_judges.proofs.TestLemmas.{element_of, left_none, left_take, left_skip}
use Rattle.node_judges.proofs.ClaimedLemmas.{length-left}

-- ---- place after place

-- an element of the first is an element of all
from_take : {A : Type 0} (i : ℕ) (xs : List A) (x : A) → Contains (take i xs) x → Contains xs x
from_take {A} i xs x h = subst (λ (l : List A). Contains l x) (take-append-drop i xs)
    (Contains-append_left (take i xs) (drop i xs) x h)

-- at no place nothing is changed
pub change_none : (old : List (Option Room)) → ChangeAt [] old old
change_none old = record { whole = refl; others = λ other out. refl }

-- at one place more
pub change_more : (places : List ℕ) (i : ℕ) (old rooms new : List (Option Room)) → i < length places
    → ChangeAt (take i places) old rooms → length new ≡ length rooms
    → ((other : ℕ) → other ≢ slice_index places i → room_at new other ≡ room_at rooms other)
    → ChangeAt (take (i + 1) places) old new
change_more places i old rooms new h s whole others =
    subst (λ (l : List ℕ). ChangeAt l old new) (sym (take_more places i 0 h)) (record {
      whole = whole ∙ s.whole;
      others = λ other out.
          (others other (λ e. out (subst (Contains (take i places ++ slice_index places i ∷ [])) (sym e)
          (Contains-push (take i places) (slice_index places i))))
          ∙ s.others other
          (λ was. out (Contains-append_left (take i places) (slice_index places i ∷ []) other was)));
    })

-- what is changed at the first of the places is changed at the places
pub change_all : (places : List ℕ) (i : ℕ) (old rooms new : List (Option Room)) → ChangeAt (take i places) old rooms
    → new ≡ rooms → ChangeAt places old new
change_all places i old rooms new s e = subst (ChangeAt places old) (sym e) (record {
  whole = s.whole;
  others = λ other out. s.others other (λ was. out (from_take i places other was));
})

-- no place is taken
pub taken_none : (barred : List ℕ) (claim : Claim) (old : List (Option Room)) → AreTakenOpen [] barred claim old old
taken_none barred claim old = record { change = change_none old; here = λ place h. no_member place h }

module _ (places barred : List ℕ) (i : ℕ) (claim : Claim) (old rooms : List (Option Room))
    (once : AreDistinct places) (h : i < length places) (s : AreTakenOpen (take i places) barred claim old rooms) where
  -- what was so before the first places were taken
  was : room_at rooms (slice_index places i) ≡ room_at old (slice_index places i)
  was = s.change.others (slice_index places i) (fresh places i once h)

  -- a place more is taken
  pub taken_more : (new : List (Option Room)) → IsTaken (slice_index places i) claim rooms new
      → AreTakenOpen (take (i + 1) places) barred claim old new
  taken_more new t = record {
    change = change_more places i old rooms new h s.change t.whole t.others;
    here = λ p has free. elim (Contains-push_cases (take i places) (slice_index places i) p
        (subst (λ (l : List ℕ). Contains l p) (take_more places i 0 h) has)) [
          | inl before ↦ (let ne : p ≢ slice_index places i =
              λ e. fresh places i once h (subst (Contains (take i places)) e before) in
              let r = s.here p before free in (r.0, t.others p ne ∙ r.1, r.2))
          | inr e ↦ subst (λ (q : ℕ). TakesAt q claim old new) e
              (let r = t.here in (r.0, r.1, subst (λ (o : Option Room). Takes claim o r.0) was r.2))
        ];
  }

  -- a barred place that lacks room is passed over
  pub taken_skip : (new : List (Option Room)) → new ≡ rooms → Contains barred (slice_index places i)
      → AreTakenOpen (take (i + 1) places) barred claim old new
  taken_skip new same out = subst (AreTakenOpen (take (i + 1) places) barred claim old) (sym same) (record {
    change = change_more places i old rooms rooms h s.change refl (λ other ne. refl);
    here = λ p has free. elim (Contains-push_cases (take i places) (slice_index places i) p
        (subst (λ (l : List ℕ). Contains l p) (take_more places i 0 h) has)) [
          | inl before ↦ s.here p before free
          | inr e ↦ absurd (free (subst (Contains barred) e out))
        ];
  })

  -- another that lacks room did so before the others were taken
  pub lacked_free : (¬ Contains barred (slice_index places i)) → LacksRoom claim (room_at rooms (slice_index places i))
      → LackOpenRoom places barred claim old
  lacked_free free l = (
    slice_index places i,
    element_of places i h,
    free,
    subst (LacksRoom claim) was l,
  )

-- no place is cleared
pub cleared_none : (old : List (Option Room)) → AreCleared [] old old
cleared_none old = record { change = change_none old; here = λ place h. no_member place h }

-- a place more is cleared
pub cleared_more : (places : List ℕ) (i : ℕ) (old rooms new : List (Option Room)) → i < length places
    → AreCleared (take i places) old rooms → IsCleared (slice_index places i) rooms new
    → AreCleared (take (i + 1) places) old new
cleared_more places i old rooms new h s t = record {
  change = change_more places i old rooms new h s.change t.whole t.others;
  here = λ p has. elim (cases_eq p (slice_index places i)) [
    | inl e ↦ ap (room_at new) e ∙ t.here
    | inr ne ↦ elim (Contains-push_cases (take i places) (slice_index places i) p
        (subst (λ (l : List ℕ). Contains l p) (take_more places i 0 h) has)) [
          | inl before ↦ t.others p ne ∙ s.here p before
          | inr e ↦ absurd (ne (sym e))
        ]
  ];
}

-- ---- the places that are left, claim after claim

-- there is one list of them
left_to : (places barred : List ℕ) → IsStrictlyIncreasing places → (i : ℕ) → i ≤ length places
    → (left : List ℕ) × AreLeft (take i places) barred left
left_to places barred up zero le = ([], left_none barred [] refl)
left_to places barred up (suc i) le =
    let before = left_to places barred up i (omega arith) in
    let h : i < length places = omega arith in
    let next : i + 1 ≡ suc i = omega arith in
    subst (λ (n : ℕ). (left : List ℕ) × AreLeft (take n places) barred left) next
    (elim (has_or_not barred (slice_index places i)) [
      | inl out ↦ (before.0, left_skip places barred before.0 i h before.1 out)
      | inr free ↦ (before.0 ++ slice_index places i ∷ [], left_take places barred before.0 i up h before.1 free)
    ])

left_in : (places barred : List ℕ) → IsStrictlyIncreasing places → (left : List ℕ) × AreLeft places barred left
left_in places barred up = subst (λ (l : List ℕ). (left : List ℕ) × AreLeft l barred left)
    (take_all (length places) places (omega arith)) (left_to places barred up (length places) (omega arith))

-- and so one for each claim
pub lefts_of : (lists : LitLists) (barred : List ℕ) → AreAscending lists → (claims : List Claim)
    → (lefts : List (List ℕ)) × AreAllLeft lists barred claims lefts
lefts_of lists barred up [] = ([], tt)
lefts_of lists barred up (c ∷ cs) =
    let first = left_in (lit_by lists c.cell) barred (up.each c.cell) in
    let others = lefts_of lists barred up cs in
    (first.0 ∷ others.0, (first.1, others.1))

-- the list of a claim
left_at : (lists : LitLists) (barred : List ℕ) (claims : List Claim) (lefts : List (List ℕ))
    → AreAllLeft lists barred claims lefts → (i : ℕ) (d : Claim) → i < length claims
    → AreLeft (lit_by lists (get_or claims i d).cell) barred (places_at lefts i)
left_at lists barred [] [] a i d h = absurd (omega (arith, h))
left_at lists barred [] (l ∷ ls) a i d h = absurd a
left_at lists barred (x ∷ xs) [] a i d h = absurd a
left_at lists barred (x ∷ xs) (l ∷ ls) a zero d h = a.0
left_at lists barred (x ∷ xs) (l ∷ ls) a (suc i) d h = left_at lists barred xs ls a.1 i d (omega (arith, h))

-- a barred place holds nothing
held_barred : (lists : LitLists) (barred : List ℕ) (claims : List Claim) (lefts : List (List ℕ))
    → AreAllLeft lists barred claims lefts → (place : ℕ) → Contains barred place → held place claims lefts ≡ []
held_barred lists barred [] [] a place out = refl
held_barred lists barred [] (l ∷ ls) a place out = absurd a
held_barred lists barred (x ∷ xs) [] a place out = absurd a
held_barred lists barred (x ∷ xs) (l ∷ ls) a place out = elim (bool_cases (is_among l place)) [
  | inl e ↦ absurd (((a.0.exact place).0 (is_one l place e)).1 out)
  | inr e ↦ ap (λ (b : Bool). if_held b x ++ held place xs ls) e ∙ held_barred lists barred xs ls a.1 place out
]

-- ---- claim after claim

-- each place that isn't barred has the room that the first `i` claims leave it
pub record AreRoomsTo (lists : LitLists) (barred : List ℕ) (claims : List Claim) (i : ℕ) (rooms : List (Option Room))
    : Type 0 where
  pub each : (lefts : List (List ℕ)) → AreAllLeft lists barred claims lefts → (place : ℕ)
      → (¬ Contains barred place) → IsRoomOf (held place (take i claims) (take i lefts)) (room_at rooms place)

module _ (lists : LitLists) (barred : List ℕ) (claims : List Claim) where
  -- before the first all rooms are empty
  pub rooms_to_none : (count : ℕ) (rooms : List (Option Room)) → AreNoRooms count rooms
      → AreRoomsTo lists barred claims 0 rooms
  rooms_to_none count rooms none = record {
    each = λ lefts a place free. subst (IsRoomOf []) (sym (none.none place)) refl;
  }

  -- a claim more is taken
  pub rooms_to_more : AreClaims claims → (i : ℕ) (d : Claim) (old new : List (Option Room)) → i < length claims
      → AreRoomsTo lists barred claims i old
      → AreTakenOpen (lit_by lists (get_or claims i d).cell) barred (get_or claims i d) old new
      → AreRoomsTo lists barred claims (i + 1) new
  rooms_to_more are i d old new h r t = record {
    each = λ lefts a place free.
        (let left = left_at lists barred claims lefts a i d h in
        room_more claims lefts (length-left lists barred claims lefts a) are i d old new h place
        (r.each lefts a place free)
        (λ has. t.here place ((left.exact place).0 has).0 free)
        (λ out. t.change.others place (λ lit. out ((left.exact place).1 (lit, free)))));
  }

  -- where one that isn't barred lacks room, some place holds more than it may
  pub rooms_to_lack : AreAscending lists → AreClaims claims → (i : ℕ) (d : Claim) (old : List (Option Room))
      → i < length claims → AreRoomsTo lists barred claims i old
      → LackOpenRoom (lit_by lists (get_or claims i d).cell) barred (get_or claims i d) old
      → (lefts : List (List ℕ)) × AreAllLeft lists barred claims lefts × (¬ AreAllKept claims lefts)
  rooms_to_lack up are i d old h r l =
      let lefts = lefts_of lists barred up claims in
      let left = left_at lists barred claims lefts.0 lefts.1 i d h in (
        lefts.0,
        lefts.1,
        room_lack claims lefts.0 (length-left lists barred claims lefts.0 lefts.1) are i d (room_at old l.0) h l.0
            ((left.exact l.0).1 (l.1, l.2)) (r.each lefts.0 lefts.1 l.0 l.2) l.3,
      )

  -- after the last each place holds such claims as it may
  pub rooms_to_all : AreAscending lists → AreClaims claims → (i : ℕ) (rooms : List (Option Room)) → length claims ≤ i
      → AreRoomsTo lists barred claims i rooms
      → (lefts : List (List ℕ)) × AreAllLeft lists barred claims lefts × AreAllKept claims lefts
  rooms_to_all up are i rooms le r =
      let lefts = lefts_of lists barred up claims in (
        lefts.0,
        lefts.1,
        record {
          each = λ place. elim (has_or_not barred place) [
            | inl out ↦ subst AreKept (sym (held_barred lists barred claims lefts.0 lefts.1 place out)) kept_none
            | inr free ↦ room_all claims lefts.0 (length-left lists barred claims lefts.0 lefts.1) are i
                (room_at rooms place) le place (r.each lefts.0 lefts.1 place free)
          ];
        },
      )

-- what changes at the places of a claim's cell changes within the claims
pub within_more : (lists : LitLists) (claims : List Claim) (count i : ℕ) (d : Claim) (old new : List (Option Room))
    → i < length claims → AreWithin lists claims count old → ChangeAt (lit_by lists (get_or claims i d).cell) old new
    → AreWithin lists claims count new
within_more lists claims count i d old new h w c = record {
  whole = c.whole ∙ w.whole;
  none = λ place out. c.others place (out (get_or claims i d) (Contains-get_or claims i d h)) ∙ w.none place out;
}

-- before the first claim no place has a room at all
pub within_none : (lists : LitLists) (claims : List Claim) (rooms : List (Option Room))
    → AreNoRooms (length rooms) rooms → AreWithin lists claims (length rooms) rooms
within_none lists claims rooms n = record { whole = refl; none = λ place out. n.none place }

-- ---- claims cleared, one after another

-- the places that light the cells of the first `i` claims have no room
pub record AreClearedTo (lists : LitLists) (claims : List Claim) (i : ℕ) (rooms : List (Option Room)) : Type 0 where
  pub each : (claim : Claim) → Contains (take i claims) claim → (place : ℕ) → Contains (lit_by lists claim.cell) place
      → room_at rooms place ≡ None

module _ (lists : LitLists) (claims : List Claim) where
  -- nothing is cleared yet
  pub cleared_to_none : (rooms : List (Option Room)) → AreClearedTo lists claims 0 rooms
  cleared_to_none rooms = record { each = λ claim h place lit. absurd (omega (arith, h.1)) }

  -- the places of a claim more are
  pub cleared_to_more : (i : ℕ) (d : Claim) (old new : List (Option Room)) → i < length claims
      → AreClearedTo lists claims i old → AreCleared (lit_by lists (get_or claims i d).cell) old new
      → AreClearedTo lists claims (i + 1) new
  cleared_to_more i d old new h s t = record {
    each = λ claim has place lit. elim (has_or_not (lit_by lists (get_or claims i d).cell) place) [
      | inl now ↦ t.here place now
      | inr not ↦ elim (Contains-push_cases (take i claims) (get_or claims i d) claim
          (subst (λ (l : List Claim). Contains l claim) (take_more claims i d h) has)) [
            | inl before ↦ t.change.others place not ∙ s.each claim before place lit
            | inr e ↦ absurd (not (subst (λ (c : Claim). Contains (lit_by lists c.cell) place) (sym e) lit))
          ]
    ];
  }

  -- after the last no place has a room
  pub cleared_to_all : (count i : ℕ) (rooms : List (Option Room)) → length claims ≤ i
      → AreWithin lists claims count rooms → AreClearedTo lists claims i rooms → AreNoRooms count rooms
  cleared_to_all count i rooms le w s = record {
    whole = w.whole;
    none = λ place. elim (lights_or_none claims place) [
      | inl one ↦ s.each one.0 (subst (λ (l : List Claim). Contains l one.0) (sym (take_all i claims le)) one.1) place
          one.2
      | inr none ↦ w.none place none
    ];
  } where
    lights_or_none : (cs : List Claim) (place : ℕ)
        → ((claim : Claim) × Contains cs claim × Contains (lit_by lists claim.cell) place)
        ⊎ LightsNone lists cs place
    lights_or_none [] place = inr (λ claim h. absurd (omega (arith, h.1)))
    lights_or_none (c ∷ cs) place = elim (has_or_not (lit_by lists c.cell) place) [
      | inl lit ↦ inl (c, Contains-append_left (c ∷ []) cs c (Contains-push [] c), lit)
      | inr dark ↦ elim (lights_or_none cs place) [
        | inl w ↦ inl (w.0, Contains-append_right (c ∷ []) cs w.0 w.1, w.2)
        | inr none ↦ inr (λ claim has. elim (Contains-append_cases (c ∷ []) cs claim has) [
          | inl one ↦ elim (Contains-push_cases [] c claim one) [
            | inl never ↦ absurd (omega (arith, never.1))
            | inr e ↦ subst (λ (x : Claim). ¬ Contains (lit_by lists x.cell) place) e dark
          ]
          | inr rest ↦ none claim rest
        ])
      ]
    ]

-- ---- places of a cell

-- they lie in the box, which has `count` cells, each with its room
pub places_inside : (lists : LitLists) (limit : ℕ) (cell : ℕ) (places : List ℕ) → AreInside lists limit
    → places ≡ lit_by lists cell → (count : ℕ) → count ≡ limit → All (λ place. place < count) places
places_inside lists limit cell places inside e count same = λ i d h.
    (let has = subst (λ (l : List ℕ). Contains l (get_or places i d)) e (Contains-get_or places i d h) in
    omega (arith, inside.each (get_or places i d) cell has))

-- each of them once
pub places_once : (lists : LitLists) (cell : ℕ) (places : List ℕ) → AreAscending lists → places ≡ lit_by lists cell
    → AreDistinct places
places_once lists cell places up e = subst AreDistinct (sym e) (rising_distinct (lit_by lists cell) (up.each cell))
