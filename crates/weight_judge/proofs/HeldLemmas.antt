-- What places hold of claims, one claim after another.
use Rattle.std.proofs.Common.{◌≡◌, ℕ, ◌+◌, ◌<◌, ◌≤◌, List, [], ◌∷◌, ◌++◌, length, take, drop, Contains, get_or}
use Rattle.std.proofs.Common.{refl, sym, ap, subst, ◌∙◌, arith, inl, inr, append_assoc, length-take-le}
use Rattle.std.specs.Prelude.{Bool, true, false, Option, Some, None}
use Rattle.std.proofs.lemmas.List.{append-nil, take_more, take_all, take-append-drop}
use Rattle.std.proofs.lemmas.List.Elements.{Contains-append_left, Contains-append_right, Contains-append_cases}
use Rattle.std.proofs.lemmas.List.Elements.{Contains-push, Contains-push_cases, Contains-get_or}
use Rattle.std.proofs.lemmas.List.Sums.{sum_by_push, sum_by-append}
use Rattle.proof_rules.specs.Omitted.{is_among}
use Rattle.proof_rules.proofs.ListLemmas.{has_or_not}
use Rattle.proof_rules.proofs.OmitLemmas.{bool_cases, among, is_one}
use Rattle.weight_judge.specs.declared.claims.Claim.{Claim}
use Rattle.weight_judge.specs.declared.rooms.Room.{Room}
use Rattle.weight_judge.specs.Claims.{AreClaims}
use Rattle.weight_judge.specs.Held.{places_at, if_held, held, weight_claimed, AreKept, AreAllKept}
use Rattle.weight_judge.specs.Rooms.{room_at, Takes, TakesAt, LacksRoom, LackRoom, AreTaken, HasRoom, IsRoomOf}
use Rattle.weight_judge.specs.Rooms.{AreRooms}

-- ---- lists of claims

-- no claim is in the empty list
no_claim : {A : Type 0} (c : Claim) → Contains [] c → A
no_claim c h = absurd (omega (arith, h.1))

-- what is held of two lists is what is held of each
held-append : (place : ℕ) (xs ys : List Claim) (ls ms : List (List ℕ)) → length ls ≡ length xs
    → held place (xs ++ ys) (ls ++ ms) ≡ held place xs ls ++ held place ys ms
held-append place [] ys [] ms e = refl
held-append place [] ys (l ∷ ls) ms e = absurd (omega (arith, e))
held-append place (x ∷ xs) ys [] ms e = absurd (omega (arith, e))
held-append place (x ∷ xs) ys (l ∷ ls) ms e =
    ap (λ (h : List Claim). if_held (is_among l place) x ++ h) (held-append place xs ys ls ms (omega (arith, e)))
    ∙ sym (append_assoc (if_held (is_among l place) x) (held place xs ls) (held place ys ms))

-- what is held is one of the claims
pub held_from : (place : ℕ) (xs : List Claim) (ls : List (List ℕ)) (c : Claim) → Contains (held place xs ls) c
    → Contains xs c
held_from place [] ls c h = h
held_from place (x ∷ xs) [] c h = no_claim c h
held_from place (x ∷ xs) (l ∷ ls) c h = elim
    (Contains-append_cases (if_held (is_among l place) x) (held place xs ls) c h) [
      | inl one ↦ Contains-append_left (x ∷ []) xs c (only (is_among l place) one)
      | inr rest ↦ Contains-append_right (x ∷ []) xs c (held_from place xs ls c rest)
    ]
  where
    only : (b : Bool) → Contains (if_held b x) c → Contains (x ∷ []) c
    only true h = h
    only false h = no_claim c h

module _ (claims : List Claim) (lists : List (List ℕ)) (whole : length lists ≡ length claims) (i : ℕ) (d : Claim)
    (lt : i < length claims) where
  abbrev claim : Claim
  claim = get_or claims i d

  -- what is held of one claim more
  pub held_more : (place : ℕ) → held place (take (i + 1) claims) (take (i + 1) lists)
      ≡ held place (take i claims) (take i lists) ++ if_held (is_among (places_at lists i) place) (get_or claims i d)
  held_more place =
      let more : take (i + 1) claims ≡ take i claims ++ get_or claims i d ∷ [] = take_more claims i d lt in
      let also : take (i + 1) lists ≡ take i lists ++ places_at lists i ∷ [] =
      take_more lists i [] (omega (arith, lt, whole)) in
      ap (λ (l : List Claim). held place l (take (i + 1) lists)) more
      ∙ ap (λ (l : List (List ℕ)). held place (take i claims ++ get_or claims i d ∷ []) l) also
      ∙ held-append place (take i claims) (get_or claims i d ∷ []) (take i lists) (places_at lists i ∷ [])
      (omega (
        arith,
        lt,
        whole,
        length-take-le i claims (omega (arith, lt)),
        length-take-le i lists (omega (arith, lt, whole)),
      ))
      ∙ ap (λ (l : List Claim). held place (take i claims) (take i lists) ++ l)
      (append-nil (if_held (is_among (places_at lists i) place) (get_or claims i d)))

  -- a place that lights the cell holds the claim too
  pub held_in : (place : ℕ) → Contains (places_at lists i) place
      → held place (take (i + 1) claims) (take (i + 1) lists)
      ≡ held place (take i claims) (take i lists) ++ get_or claims i d ∷ []
  held_in place h = held_more place
      ∙ ap (λ (b : Bool). held place (take i claims) (take i lists) ++ if_held b (get_or claims i d))
      (among (places_at lists i) place h)

  -- another doesn't
  pub held_out : (place : ℕ) → (¬ Contains (places_at lists i) place)
      → held place (take (i + 1) claims) (take (i + 1) lists) ≡ held place (take i claims) (take i lists)
  held_out place out = elim (bool_cases (is_among (places_at lists i) place)) [
    | inl e ↦ absurd (out (is_one (places_at lists i) place e))
    | inr e ↦ held_more place
        ∙ ap (λ (b : Bool). held place (take i claims) (take i lists) ++ if_held b (get_or claims i d)) e
        ∙ append-nil (held place (take i claims) (take i lists))
  ]

  -- what is held of some claims is held of all
  held_front : (place : ℕ) → held place claims lists ≡ held place (take (i + 1) claims) (take (i + 1) lists)
      ++ held place (drop (i + 1) claims) (drop (i + 1) lists)
  held_front place =
      ap (λ (l : List Claim). held place l lists) (sym (take-append-drop (i + 1) claims))
      ∙ ap (λ (l : List (List ℕ)). held place (take (i + 1) claims ++ drop (i + 1) claims) l)
      (sym (take-append-drop (i + 1) lists))
      ∙ held-append place (take (i + 1) claims) (drop (i + 1) claims) (take (i + 1) lists) (drop (i + 1) lists)
      (omega (
        arith,
        lt,
        whole,
        length-take-le (i + 1) claims (omega (arith, lt)),
        length-take-le (i + 1) lists (omega (arith, lt, whole)),
      ))

-- ---- rooms

-- what the claims weigh with one more
weight_push : (xs : List Claim) (c : Claim) → weight_claimed (xs ++ c ∷ []) ≡ weight_claimed xs + c.weight
weight_push xs c = sum_by_push (λ (x : Claim). x.weight) xs c

-- the first of claims that may be held together may be
kept_front : (xs ys : List Claim) → AreKept (xs ++ ys) → AreKept xs
kept_front xs ys k = record {
  one_group = λ a b ha hb. k.one_group a b (Contains-append_left xs ys a ha) (Contains-append_left xs ys b hb);
  within = λ a h. omega (
    arith,
    k.within a (Contains-append_left xs ys a h),
    sum_by-append (λ (x : Claim). x.weight) xs ys,
  );
}

-- one claim more takes its weight from the room
room_takes : (xs : List Claim) (c : Claim) (old : Option Room) (new : Room)
    → ((a : Claim) → Contains xs a → a.group ≡ c.group → a.capacity ≡ c.capacity)
    → IsRoomOf xs old → Takes c old new → HasRoom (xs ++ c ∷ []) new
room_takes xs c None new same none t = subst (λ (l : List Claim). HasRoom (l ++ c ∷ []) new) (sym none) (record {
  some = (c, Contains-push [] c);
  group = λ a h. elim (Contains-push_cases [] c a h) [
    | inl h ↦ no_claim a h
    | inr e ↦ ap (λ (x : Claim). x.group) (sym e) ∙ sym t.0
  ];
  kept = λ a h. elim (Contains-push_cases [] c a h) [
    | inl h ↦ no_claim a h
    | inr e ↦ (let w = weight_push [] c in let s : new.left + c.weight ≡ c.capacity = t.1 in
        let f : c.capacity ≡ a.capacity = ap (λ (x : Claim). x.capacity) e in
        omega (arith, w, s, f))
  ];
})
room_takes xs c (Some old) new same r t =
    let w = weight_push xs c in
    record {
      some = (c, Contains-push xs c);
      group = λ a h. elim (Contains-push_cases xs c a h) [
        | inl h ↦ r.group a h ∙ t.0 ∙ sym t.1
        | inr e ↦ ap (λ (x : Claim). x.group) (sym e) ∙ sym t.1
      ];
      kept = λ a h. elim (Contains-push_cases xs c a h) [
        | inl h ↦ (let k = r.kept a h in let s : new.left + c.weight ≡ old.left = t.2 in omega (arith, w, k, s))
        | inr e ↦ (let k = r.kept r.some.0 r.some.1 in
            let s : new.left + c.weight ≡ old.left = t.2 in
            let f : r.some.0.capacity ≡ c.capacity = same r.some.0 r.some.1 (r.group r.some.0 r.some.1 ∙ t.0) in
            let g : c.capacity ≡ a.capacity = ap (λ (x : Claim). x.capacity) e in
            omega (arith, w, k, s, f, g))
      ];
    }

-- where there is no room the claims may not be held with one more
room_lacks : (xs : List Claim) (c : Claim) (old : Option Room) → IsRoomOf xs old → LacksRoom c old
    → ¬ AreKept (xs ++ c ∷ [])
room_lacks xs c None none l k =
    let le = k.within c (Contains-push xs c) in
    let w = weight_push xs c in
    let lt : c.capacity < c.weight = l in
    absurd (omega arith)
room_lacks xs c (Some old) r (inl l) k = absurd (l (sym (r.group r.some.0 r.some.1)
    ∙ k.one_group r.some.0 c (Contains-append_left xs (c ∷ []) r.some.0 r.some.1) (Contains-push xs c)))
room_lacks xs c (Some old) r (inr l) k =
    let le = k.within r.some.0 (Contains-append_left xs (c ∷ []) r.some.0 r.some.1) in
    let w = weight_push xs c in
    let e = r.kept r.some.0 r.some.1 in
    let lt : old.left < c.weight = l in
    absurd (omega arith)

-- claims that leave room may be held
room_keeps : (xs : List Claim) (room : Option Room) → IsRoomOf xs room → AreKept xs
room_keeps xs None none = subst AreKept (sym none)
    (record { one_group = λ a b h g. no_claim a h; within = λ a h. no_claim a h })
room_keeps xs (Some room) r = record {
  one_group = λ a b h g. r.group a h ∙ sym (r.group b g);
  within = λ a h. (let k = r.kept a h in omega (arith, k));
}

-- no claims may be held
pub kept_none : AreKept []
kept_none = room_keeps [] None refl

module _ (claims : List Claim) (lists : List (List ℕ)) (whole : length lists ≡ length claims) (are : AreClaims claims)
  where
    -- a claim more is taken from the room of a place that lights its cell; that of another place stays
    pub room_more : (i : ℕ) (d : Claim) (old new : List (Option Room)) → i < length claims → (place : ℕ)
        → IsRoomOf (held place (take i claims) (take i lists)) (room_at old place)
        → (Contains (places_at lists i) place → TakesAt place (get_or claims i d) old new)
        → ((¬ Contains (places_at lists i) place) → room_at new place ≡ room_at old place)
        → IsRoomOf (held place (take (i + 1) claims) (take (i + 1) lists)) (room_at new place)
    room_more i d old new lt place r here other = elim (has_or_not (places_at lists i) place) [
      | inl lit ↦ (let at = here lit in
          subst (IsRoomOf (held place (take (i + 1) claims) (take (i + 1) lists))) (sym at.1)
          (subst (λ (l : List Claim). HasRoom l at.0) (sym (held_in claims lists whole i d lt place lit))
          (room_takes (held place (take i claims) (take i lists)) (get_or claims i d) (room_at old place) at.0
          (λ a h e. are.same a (get_or claims i d)
          (from_take i claims a (held_from place (take i claims) (take i lists) a h))
          (Contains-get_or claims i d lt) e) r at.2)))
      | inr dark ↦ subst (λ (l : List Claim). IsRoomOf l (room_at new place))
          (sym (held_out claims lists whole i d lt place dark))
          (subst (IsRoomOf (held place (take i claims) (take i lists))) (sym (other dark)) r)
    ] where
      from_take : (i : ℕ) (xs : List Claim) (a : Claim) → Contains (take i xs) a → Contains xs a
      from_take i xs a h = subst (λ (l : List Claim). Contains l a) (take-append-drop i xs)
          (Contains-append_left (take i xs) (drop i xs) a h)

    -- a claim more is taken from all rooms
    pub rooms_more : (i : ℕ) (d : Claim) (old new : List (Option Room)) → i < length claims
        → AreRooms (take i claims) (take i lists) old → AreTaken (places_at lists i) (get_or claims i d) old new
        → AreRooms (take (i + 1) claims) (take (i + 1) lists) new
    rooms_more i d old new lt r t = record {
      each = λ place. room_more i d old new lt place (r.each place) (t.here place) (t.others place);
    }

    -- where a place that lights the cell lacks room, it holds more than it may
    pub room_lack : (i : ℕ) (d : Claim) (room : Option Room) → i < length claims → (place : ℕ)
        → Contains (places_at lists i) place → IsRoomOf (held place (take i claims) (take i lists)) room
        → LacksRoom (get_or claims i d) room → ¬ AreAllKept claims lists
    room_lack i d room lt place lit r l all =
        room_lacks (held place (take i claims) (take i lists)) (get_or claims i d) room r l
        (subst AreKept (held_in claims lists whole i d lt place lit)
        (kept_front (held place (take (i + 1) claims) (take (i + 1) lists))
        (held place (drop (i + 1) claims) (drop (i + 1) lists))
        (subst AreKept (held_front claims lists whole i d lt place) (all.each place))))

    -- where one of the places lacks room, some place holds more than it may
    pub rooms_lack : (i : ℕ) (d : Claim) (old : List (Option Room)) → i < length claims
        → AreRooms (take i claims) (take i lists) old → LackRoom (get_or claims i d) (places_at lists i) old
        → ¬ AreAllKept claims lists
    rooms_lack i d old lt r l all = room_lack i d (room_at old l.0) lt l.0 l.1 (r.each l.0) l.2 all

    -- after the last claim a place may hold its claims
    pub room_all : (i : ℕ) (room : Option Room) → length claims ≤ i → (place : ℕ)
        → IsRoomOf (held place (take i claims) (take i lists)) room → AreKept (held place claims lists)
    room_all i room le place r = room_keeps (held place claims lists) room
        (subst (λ (l : List Claim). IsRoomOf (held place l lists) room) (take_all i claims le)
        (subst (λ (l : List (List ℕ)). IsRoomOf (held place (take i claims) l) room)
        (take_all i lists (omega (arith, le, whole))) r))

    -- and so may all
    pub rooms_all : (i : ℕ) (rooms : List (Option Room)) → length claims ≤ i
        → AreRooms (take i claims) (take i lists) rooms → AreAllKept claims lists
    rooms_all i rooms le r = record { each = λ place. room_all i (room_at rooms place) le place (r.each place) }
