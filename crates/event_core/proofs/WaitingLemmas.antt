-- The pieces that wait, and their names.
use Rattle.std.proofs.Common.{◌≡◌, inl, inr, ℕ, zero, suc, ◌+◌, true≢false, Bool, true, false, List, [], ◌∷◌}
use Rattle.std.proofs.Common.{◌++◌, length}
use Rattle.std.proofs.Common.{Contains, Option, Some, None, refl, sym, ap, ◌∙◌, subst, arith, append_assoc, append-nil}
use Rattle.std.proofs.Common.{length-append}
use Rattle.std.specs.Prelude.{All}
use Rattle.std.proofs.lemmas.Bool.{cases_lt}
use Rattle.std.proofs.lemmas.List.Elements.{All-append, Contains-append_left, Contains-append_right}
use Rattle.proof_rules.proofs.ListLemmas.{no_member, all_members}
use Rattle.set_cover.specs.Instance.{of_instance}
use Rattle.proof_tree.specs.Bars.{places_of}
use Rattle.proof_tree.specs.Opened.{Step, below_bars, step_at, steps_on}
use Rattle.proof_tree.proofs.KidLemmas.{bars_of_it}
use Rattle.event_core.proofs.KidLemmas.{step_here}
use Rattle.proof_tree.specs.Piece.{IsPiece}
use Rattle.event_core.specs.State.{State, Part, Status, Way, waiting, held, opened, closed, HasPart, piece_of}
use Rattle.event_core.specs.Shape.{Shape, Shapes, at_rest, in_hand, settled, parted, no_shape, one_shape, part_in}
use Rattle.event_core.specs.Shape.{part_below}
use Rattle.event_core.specs.WaitingNames.{waiting_in, waiting_below}
use Rattle.event_core.specs.Sound.{IsSoundState}
use Rattle.event_core.specs.Kept.{Kept, state_of}
use Rattle.event_core.specs.Tracing.{IsTracedTo, StandsAs}
use Rattle.event_core.specs.declared.tracing.Standing.{Standing}
use Rattle.event_core.specs.declared.tracing.Standing.TheVariants.{Waiting}
use Rattle.event_core.proofs.StateLemmas.{same_part, not_none, same_parts, waiting_not_closed, waiting_not_opened}

-- ---- names

abbrev waits : Status → Bool
waits waiting = true
waits (held w) = false
waits (opened way) = false
waits (closed floor tree) = false

-- what waits isn't held
pub waiting_not_held : {A : Type 0} (w : ℕ) → waiting ≡ held w → A
waiting_not_held w e = absurd (true≢false (ap waits e))

abbrev as_waiting : List ℕ → List ℕ → Part
as_waiting c b = record { chosen = c; barred = b; status = waiting }

-- the status of a part that waits
status_is : (p : Part) (c b : List ℕ) → Some p ≡ Some (as_waiting c b) → waiting ≡ p.status
status_is p c b e = sym (ap (λ (q : Part). q.status) (same_part p (as_waiting c b) e))

-- a name is among the names of itself alone
alone : (name : List ℕ) → Contains (name ∷ []) (name ++ [])
alone name = (0, omega arith, sym (append-nil name))

-- a piece that waits is listed
mutual
  -- a waiting piece is listed
  pub listed : (c b name : List ℕ) (s : Shape) (rest c2 b2 : List ℕ) → part_in c b s rest ≡ Some (as_waiting c2 b2)
      → Contains (waiting_in name s) (name ++ rest)
  listed c b name at_rest [] c2 b2 h = alone name
  listed c b name (in_hand w) [] c2 b2 h = waiting_not_held w (status_is
      (record { chosen = c; barred = b; status = held w }) c2 b2 h)
  listed c b name (settled f t) [] c2 b2 h = waiting_not_closed f t (status_is
      (record { chosen = c; barred = b; status = closed f t }) c2 b2 h)
  listed c b name (parted way places trees boxes kids) [] c2 b2 h =
      waiting_not_opened way (status_is (record { chosen = c; barred = b; status = opened way }) c2 b2 h)
  listed c b name at_rest (k ∷ ks) c2 b2 h = not_none (as_waiting c2 b2) h
  listed c b name (in_hand w) (k ∷ ks) c2 b2 h = not_none (as_waiting c2 b2) h
  listed c b name (settled f t) (k ∷ ks) c2 b2 h = not_none (as_waiting c2 b2) h
  listed c b name (parted way places trees boxes kids) (k ∷ ks) c2 b2 h =
      listed_below c (b ++ places_of way.bars) (steps_on way.on places) kids name 0 k k (omega arith) ks c2 b2 h

  -- and so is one below a kid
  pub listed_below : (c b : List ℕ) (steps : List Step) (kids : Shapes) (name : List ℕ) (number k at : ℕ)
      → at ≡ number + k → (ks c2 b2 : List ℕ)
      → part_below c b steps kids k ks ≡ Some (as_waiting c2 b2) → Contains (waiting_below name number kids)
      (name ++ at ∷ ks)
  listed_below c b [] kids name number k at e ks c2 b2 h = not_none (as_waiting c2 b2) h
  listed_below c b (q ∷ qs) no_shape name number k at e ks c2 b2 h = not_none (as_waiting c2 b2) h
  listed_below c b (q ∷ qs) (one_shape s ss) name number zero at e ks c2 b2 h =
      let same : number ≡ at = omega arith in
      let there = Contains-append_left (waiting_in (name ++ number ∷ []) s) (waiting_below name (number + 1) ss)
      ((name ++ number ∷ []) ++ ks)
      (listed (c ++ q.chosen) (b ++ q.barred) (name ++ number ∷ []) s ks c2 b2 h) in
      subst (λ (n : ℕ). Contains (waiting_below name number (one_shape s ss)) (name ++ n ∷ ks)) same
      (subst (Contains (waiting_below name number (one_shape s ss))) (append_assoc name (number ∷ []) ks) there)
  listed_below c b (q ∷ qs) (one_shape s ss) name number (suc k) at e ks c2 b2 h =
      Contains-append_right (waiting_in (name ++ number ∷ []) s) (waiting_below name (number + 1) ss) (name ++ at ∷ ks)
      (listed_below c b qs ss name (number + 1) k at (omega arith) ks c2 b2 h)

-- ---- places

-- a list that isn't empty has a last element
split_last : (x : ℕ) (xs : List ℕ) → (front : List ℕ) × (last : ℕ) × (x ∷ xs ≡ front ++ last ∷ [])
split_last x [] = ([], x, refl)
split_last x (y ∷ ys) = (let r = split_last y ys in (x ∷ r.0, r.1, ap (λ (l : List ℕ). x ∷ l) r.2))

module _ (state : State) (sound : IsSoundState state) where
  abbrev AreHere : List ℕ → Type 0
  AreHere places = All (Contains state.region.places) places

  none_here : AreHere []
  none_here = all_members (Contains state.region.places) [] (λ q h. no_member q h)

  -- a kid's places are its parent's, those that bars leave out, and those of its step
  kid_places_here : (name : List ℕ) (number : ℕ) (up down : List ℕ) (way : Way) (c b : List ℕ) (s : Status)
      → HasPart state name up down (opened way)
      → AreHere up × AreHere down → HasPart state (name ++ number ∷ []) c b s → AreHere c × AreHere b
  kid_places_here name number up down way c b s is before h =
      let k = sound.kids name up down way is in let steps = steps_on way.on k.places in
      let low = below_bars (piece_of state name up down) way.bars in
      elim (cases_lt number (length steps)) [
        | inl lt ↦ (let t = k.there number lt in let step = step_at steps number in
            let same = same_parts state (name ++ number ∷ []) (up ++ step.chosen) (low.barred ++ step.barred) c b t.0 s
            t.1 h in
            let here = step_here low way.on k.places k.opens.may k.all number lt in
            let out = bars_of_it state.region.places (of_instance state.region) state.region.cells up down way.bars
            (λ place legal. legal) k.opens.dominated in (
              subst AreHere same.chosen (All-append (Contains state.region.places) up step.chosen before.0 here.0),
              subst AreHere same.barred (All-append (Contains state.region.places) low.barred step.barred
                  (All-append (Contains state.region.places) down (places_of way.bars) before.1 out) here.1),
            ))
        | inr le ↦ not_none (record { chosen = c; barred = b; status = s }) (sym (k.no_more number le) ∙ h)
      ]

  -- the chosen and barred places of a piece are places of the region
  places_here : (n : ℕ) (name c b : List ℕ) (s : Status) → length name ≡ n → HasPart state name c b s
      → AreHere c × AreHere b
  places_here n [] c b s e h =
      let same = same_parts state [] [] [] c b sound.rooted.0 s sound.rooted.1 h in
      (subst AreHere same.chosen none_here, subst AreHere same.barred none_here)
  places_here zero (x ∷ xs) c b s e h = absurd (omega arith)
  places_here (suc n) (x ∷ xs) c b s e h =
      let r = split_last x xs in
      let long = ap length r.2 in let parts = length-append r.0 (r.1 ∷ []) in
      let there : HasPart state (r.0 ++ r.1 ∷ []) c b s = ap state.part_at (sym r.2) ∙ h in
      let up = sound.parents r.0 r.1 (record { chosen = c; barred = b; status = s }) there in
      kid_places_here r.0 r.1 up.0 up.1 up.2 c b s up.3 (places_here n r.0 up.0 up.1 (opened up.2)
      (omega arith) up.3) there

  -- a part of the state is a piece of the region
  pub part_is_piece : (name c b : List ℕ) (s : Status) → HasPart state name c b s
      → IsPiece (record { region = state.region; name = name; chosen = c; barred = b })
  part_is_piece name c b s h =
      let here = places_here (length name) name c b s refl h in
      record { distinct = sound.distinct name c b s h; chosen_of_it = here.0; barred_of_it = here.1 }

-- ---- what a name leads to

-- a piece that is traced to is in the state
pub traced_there : (kept : Kept) (name c b : List ℕ) (standing : Standing) (o : Option Part)
    → part_in [] [] kept.root name ≡ o → IsTracedTo c b standing o
    → (status : Status) × HasPart (state_of kept) name c b status × StandsAs standing status
traced_there kept name c b standing None e t = absurd t
traced_there kept name c b standing (Some p) e t =
    let chosen : p.chosen ≡ c = t.0 in let barred : p.barred ≡ b = t.1 in (
      p.status,
      e ∙ ap Some (λ i. record { chosen = chosen i; barred = barred i; status = p.status }),
      t.2,
    )

-- one that waits waits in the state
pub traced_part : (kept : Kept) (name c b : List ℕ) (standing : Standing) (o : Option Part)
    → part_in [] [] kept.root name ≡ o
    → IsTracedTo c b standing o → standing ≡ Waiting → HasPart (state_of kept) name c b waiting
traced_part kept name c b standing o e t w =
    let there = traced_there kept name c b standing o e t in
    let status : there.0 ≡ waiting = subst (λ (s : Standing). StandsAs s there.0) w there.2 in
    subst (HasPart (state_of kept) name c b) status there.1
