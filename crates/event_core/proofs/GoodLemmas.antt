-- The tree of a state that is done is good.
use Rattle.std.proofs.Common.{◌≡◌, inl, inr, ℕ, zero, suc, ◌+◌, ◌<◌, ◌≤◌, List, [], ◌∷◌, ◌++◌, length, None, Some}
use Rattle.std.proofs.Common.{refl, sym, ap}
use Rattle.std.proofs.Common.{◌∙◌, subst, arith, append_assoc, append-nil}
use Rattle.std.specs.Prelude.{take, drop, slice_index}
use Rattle.std.proofs.lemmas.Bool.{cases_lt}
use Rattle.std.proofs.lemmas.List.{take_more, drop_more}
use Rattle.set_cover.specs.Instance.{Instance, of_instance}
use Rattle.proof_rules.specs.Tree.{Tree, Forest, leaf, weighted, branch, bar, omit, pick, none, more}
use Rattle.proof_rules.specs.Good.{Good, AreGood}
use Rattle.proof_rules.proofs.LessLemmas.{good_at_less}
use Rattle.proof_tree.specs.Bars.{places_of, AreDominated}
use Rattle.proof_tree.specs.Opened.{MayBranch, ArePlacesOn, Step, step_at, steps_on}
use Rattle.proof_tree.specs.declared.bars.Bar.{Bar}
use Rattle.proof_tree.specs.declared.branching.Branching.{Branching}
use Rattle.proof_tree.specs.declared.branching.Branching.TheVariants.{Cell, Place}
use Rattle.proof_tree.proofs.KidLemmas.{length-steps_from, step_from}
use Rattle.event_core.specs.State.{State, Part, Status, Way, opened, closed, HasPart, goal_of, piece_of}
use Rattle.event_core.specs.Sound.{IsSoundState, HasKids}
use Rattle.event_core.specs.Assembled.{IsAssembled, AreAssembled, IsBelow, IsClosedBy, IsOpenedOn}
use Rattle.event_core.proofs.StateLemmas.{not_none, same_parts}
use Rattle.event_core.proofs.RunLemmas.{reached_sound, reached_region}
use Rattle.event_core.specs.Laws.{IsReached}
use Rattle.event_core.specs.declared.event.Event.{Event}

-- past the end nothing is left
drop_past : (xs : List ℕ) (i : ℕ) → length xs ≤ i → drop i xs ≡ []
drop_past [] zero le = refl
drop_past [] (suc i) le = refl
drop_past (x ∷ xs) zero le = absurd (omega arith)
drop_past (x ∷ xs) (suc i) le = drop_past xs i (omega arith)

-- a piece that is closed by a tree is there
closed_there : (state : State) (name : List ℕ) (tree : Tree) → IsClosedBy state name tree
    → (p : Part) × (state.part_at name ≡ Some p)
closed_there state name tree (c, b, floor, h) = (record { chosen = c; barred = b; status = closed floor tree }, h)

-- and so is one that is opened
opened_there : (state : State) (name : List ℕ) (bars : List Bar) (on : Branching) → IsOpenedOn state name bars on
    → (p : Part) × (state.part_at name ≡ Some p)
opened_there state name bars on (c, b, h) =
    (record { chosen = c; barred = b; status = opened (record { bars = bars; on = on }) }, h)

-- a piece that has a tree is there
there : (state : State) (name : List ℕ) (tree : Tree) → IsAssembled state name tree
    → (p : Part) × (state.part_at name ≡ Some p)
there state name (leaf cells) k = closed_there state name (leaf cells) k
there state name (weighted groups) k = closed_there state name (weighted groups) k
there state name (branch cell kids) (inl k) = closed_there state name (branch cell kids) k
there state name (branch cell kids) (inr o) = opened_there state name [] (Cell cell) o.0
there state name (bar place by kid) (inl k) = closed_there state name (bar place by kid) k
there state name (bar place by kid) (inr o) = opened_there state name (record { place = place; by = by } ∷ o.0) o.1 o.2
there state name (omit cells kid) k = closed_there state name (omit cells kid) k
there state name (pick place with without) (inl k) = closed_there state name (pick place with without) k
there state name (pick place with without) (inr o) = opened_there state name [] (Place place) o.0

module _ (state : State) (sound : IsSoundState state) where
  abbrev GoodHere : List ℕ → List ℕ → Tree → Type 0
  GoodHere c b tree = Good (of_instance state.region) state.region.cells c b (goal_of state) tree

  closed_good : (name c b : List ℕ) (status : Status) (tree : Tree) → HasPart state name c b status
      → IsClosedBy state name tree → GoodHere c b tree
  closed_good name c b status tree h k =
      let same = same_parts state name k.0 k.1 c b (closed k.2 tree) status k.3 h in
      let good = good_at_less (of_instance state.region) state.region.cells k.0 k.1 tree
      (goal_of state) k.2 (sound.reached name k.0 k.1 k.2 tree k.3) (sound.proved name k.0 k.1 k.2 tree k.3) in
      subst (λ (x : List ℕ). GoodHere x b tree)
      same.chosen (subst (λ (x : List ℕ). GoodHere k.0 x tree) same.barred good)

  -- the piece is opened so
  is_opened : (name c b : List ℕ) (status : Status) (bars : List Bar) (on : Branching) → HasPart state name c b status
      → IsOpenedOn state name bars on → HasPart state name c b (opened (record { bars = bars; on = on }))
  is_opened name c b status bars on h o =
      let same = same_parts state name o.0 o.1 c b (opened (record { bars = bars; on = on })) status o.2 h in
      h ∙ ap (λ (s : Status). Some (record { chosen = c; barred = b; status = s })) (sym same.status)

  -- the kids of a piece that is opened so, below bars of which these come before
  pub record Kids (name c : List ℕ) (low : List ℕ) (on : Branching) : Type 0 where
    pub places : List ℕ
    pub all : ArePlacesOn (piece_of state name c low) on places
    pub there : (number : ℕ) → number < length (steps_on on places) → (status : Status)
        × HasPart state (name ++ number ∷ []) (c ++ (step_at (steps_on on places) number).chosen)
        (low ++ (step_at (steps_on on places) number).barred) status
    pub no_more : (number : ℕ) → length (steps_on on places) ≤ number → state.part_at (name ++ number ∷ []) ≡ None

  -- those of an opened piece
  kids_of_part : (name c b : List ℕ) (way : Way) → HasKids state name c b way
      → Kids name c (b ++ places_of way.bars) way.on
  kids_of_part name c b way k = record { places = k.places; all = k.all; there = k.there; no_more = k.no_more }

  -- on a cell each kid has its place chosen, and those before it barred
  on_cell : (name c low : List ℕ) (cell : ℕ) (k : Kids name c low (Cell cell)) (i : ℕ) → i < length k.places
      → (status : Status)
      × HasPart state (name ++ i ∷ []) (c ++ slice_index k.places i ∷ []) (low ++ take i k.places) status
  on_cell name c low cell k i lt =
      let t = k.there i (omega (arith, lt, length-steps_from [] k.places)) in (
        t.0,
        subst (λ (s : Step). HasPart state (name ++ i ∷ []) (c ++ s.chosen) (low ++ s.barred) t.0)
            (step_from [] k.places i lt) t.1,
      )

  -- a branch on the cell is good where its kids are
  good_branch : (name c b low : List ℕ) (cell : ℕ) (kids : Forest) → low ≡ b
      → MayBranch (piece_of state name c low) (Cell cell) → (k : Kids name c low (Cell cell))
      → AreGood (of_instance state.region) state.region.cells c (low ++ []) (goal_of state) k.places kids
      → GoodHere c b (branch cell kids)
  good_branch name c b low cell kids e may k g =
      subst (λ (x : List ℕ). GoodHere c x (branch cell kids)) e (
        may,
        k.places,
        k.all,
        subst (λ (x : List ℕ). AreGood (of_instance state.region) state.region.cells c x
            (goal_of state) k.places kids)
            (append-nil low) g,
      )

  -- and a pick of the place where both of its trees are
  good_pick : (name c b low : List ℕ) (place : ℕ) (with without : Tree) → low ≡ b
      → MayBranch (piece_of state name c low) (Place place) → GoodHere (c ++ place ∷ []) (low ++ []) with
      → GoodHere (c ++ []) (low ++ place ∷ []) without → GoodHere c b (pick place with without)
  good_pick name c b low place with without e may first second =
      subst (λ (x : List ℕ). GoodHere c x (pick place with without)) e (
        may,
        subst (λ (x : List ℕ). GoodHere (c ++ place ∷ []) x with) (append-nil low) first,
        subst (λ (x : List ℕ). GoodHere x (low ++ place ∷ []) without) (append-nil c) second,
      )

  mutual
    -- the tree of a piece proves that no cover of it is below the goal
    pub good : (tree : Tree) (name c b : List ℕ) (status : Status) → HasPart state name c b status
        → IsAssembled state name tree → GoodHere c b tree
    good (leaf cells) name c b status h a = closed_good name c b status (leaf cells) h a
    good (weighted groups) name c b status h a = closed_good name c b status (weighted groups) h a
    good (branch cell kids) name c b status h (inl k) = closed_good name c b status (branch cell kids) h k
    good (branch cell kids) name c b status h (inr o) =
        let way : Way = record { bars = []; on = Cell cell } in
        let has = sound.kids name c b way (is_opened name c b status [] (Cell cell) h o.0) in
        let k = kids_of_part name c b way has in
        good_branch name c b (b ++ []) cell kids (append-nil b) has.opens.may k
        (all_good kids name c (b ++ []) cell k 0 o.1)
    good (bar place by kid) name c b status h (inl k) = closed_good name c b status (bar place by kid) h k
    good (bar place by kid) name c b status h (inr o) =
        let way : Way = record { bars = record { place = place; by = by } ∷ o.0; on = o.1 } in
        let has = sound.kids name c b way (is_opened name c b status way.bars way.on h o.2) in (
          has.opens.dominated.0,
          good_below kid name c (b ++ place ∷ []) (b ++ place ∷ places_of o.0) o.0 o.1 has.opens.dominated.1
              (sym (append_assoc b (place ∷ []) (places_of o.0))) has.opens.may (kids_of_part name c b way has) o.3,
        )
    good (omit cells kid) name c b status h a = closed_good name c b status (omit cells kid) h a
    good (pick place with without) name c b status h (inl k) =
        closed_good name c b status (pick place with without) h k
    good (pick place with without) name c b status h (inr o) =
        let way : Way = record { bars = []; on = Place place } in
        let has = sound.kids name c b way (is_opened name c b status [] (Place place) h o.0) in
        let first = has.there 0 (omega arith) in let second = has.there 1 (omega arith) in
        good_pick name c b (b ++ []) place with without (append-nil b) has.opens.may
        (good with (name ++ 0 ∷ []) (c ++ place ∷ []) ((b ++ []) ++ []) first.0 first.1 o.1)
        (good without (name ++ 1 ∷ []) (c ++ []) ((b ++ []) ++ place ∷ []) second.0 second.1 o.2)

    -- so does what stands below some of its bars, whose places are barred there
    pub good_below : (tree : Tree) (name c b low : List ℕ) (bars : List Bar) (on : Branching)
        → AreDominated (of_instance state.region) state.region.cells c b bars → low ≡ b ++ places_of bars
        → MayBranch (piece_of state name c low) on → Kids name c low on → IsBelow state name bars on tree
        → GoodHere c b tree
    good_below (leaf cells) name c b low bars on all e may k a = absurd a
    good_below (weighted groups) name c b low bars on all e may k a = absurd a
    good_below (branch cell kids) name c b low bars on all e may k a =
        let same : low ≡ b = e ∙ ap (λ (l : List Bar). b ++ places_of l) a.0 ∙ append-nil b in
        let here : Kids name c low (Cell cell) = subst (Kids name c low) a.1 k in
        good_branch name c b low cell kids same (subst (MayBranch (piece_of state name c low)) a.1 may) here
        (all_good kids name c low cell here 0 a.2)
    good_below (bar place by kid) name c b low bars on all e may k a =
        let d = subst (AreDominated (of_instance state.region) state.region.cells c b) a.1 all in (
          d.0,
          good_below kid name c (b ++ place ∷ []) low a.0 on d.1
              (e ∙ ap (λ (l : List Bar). b ++ places_of l) a.1 ∙ sym (append_assoc b (place ∷ []) (places_of a.0)))
              may k a.2,
        )
    good_below (omit cells kid) name c b low bars on all e may k a = absurd a
    good_below (pick place with without) name c b low bars on all e may k a =
        let same : low ≡ b = e ∙ ap (λ (l : List Bar). b ++ places_of l) a.0 ∙ append-nil b in
        let here : Kids name c low (Place place) = subst (Kids name c low) a.1 k in
        let first = here.there 0 (omega arith) in let second = here.there 1 (omega arith) in
        good_pick name c b low place with without same (subst (MayBranch (piece_of state name c low)) a.1 may)
        (good with (name ++ 0 ∷ []) (c ++ place ∷ []) (low ++ []) first.0 first.1 a.2)
        (good without (name ++ 1 ∷ []) (c ++ []) (low ++ place ∷ []) second.0 second.1 a.3)

    -- and so do the trees of the kids on a cell, from any of them on
    pub all_good : (kids : Forest) (name c low : List ℕ) (cell : ℕ) (k : Kids name c low (Cell cell)) (i : ℕ)
        → AreAssembled state name i kids
        → AreGood (of_instance state.region) state.region.cells c (low ++ take i k.places) (goal_of state)
        (drop i k.places) kids
    all_good none name c low cell k i a = elim (cases_lt i (length k.places)) [
      | inl lt ↦ (let t = on_cell name c low cell k i lt in
          not_none (record {
            chosen = c ++ slice_index k.places i ∷ [];
            barred = low ++ take i k.places;
            status = t.0;
          }) (sym a ∙ t.1))
      | inr le ↦ subst (λ (x : List ℕ). AreGood (of_instance state.region) state.region.cells c (low ++ take i k.places)
          (goal_of state) x none) (sym (drop_past k.places i le)) tt
    ]
    all_good (more tree trees) name c low cell k i a = elim (cases_lt i (length k.places)) [
      | inl lt ↦ (let t = on_cell name c low cell k i lt in let place = slice_index k.places i in
          let first = good tree (name ++ i ∷ []) (c ++ place ∷ []) (low ++ take i k.places) t.0 t.1 a.0 in
          let rest = all_good trees name c low cell k (i + 1) a.1 in
          let barred : low ++ take (i + 1) k.places ≡ (low ++ take i k.places) ++ place ∷ [] =
          ap (λ (x : List ℕ). low ++ x) (take_more k.places i 0 lt)
          ∙ sym (append_assoc low (take i k.places) (place ∷ [])) in
          subst (λ (x : List ℕ). AreGood (of_instance state.region) state.region.cells c (low ++ take i k.places)
          (goal_of state) x (more tree trees)) (sym (drop_more k.places i 0 lt)) (
            first,
            subst (λ (x : List ℕ). AreGood (of_instance state.region) state.region.cells c x (goal_of state)
                (drop (i + 1) k.places) trees) barred rest,
          ))
      | inr le ↦ (let t = there state (name ++ i ∷ []) tree a.0 in
          not_none t.0 (sym (k.no_more i (omega (arith, le, length-steps_from [] k.places))) ∙ t.1))
    ]

-- the tree of the root proves that no cover is below the goal
pub reached_good : (region : Instance) (events : List Event) (state : State) (tree : Tree)
    → IsReached region events state → IsAssembled state [] tree
    → Good (of_instance region) region.cells [] [] (goal_of state) tree
reached_good region events state tree r a =
    let sound = reached_sound region events state r in
    subst (λ (x : Instance). Good (of_instance x) x.cells [] [] (goal_of state) tree)
    (reached_region region events state r)
    (good state sound tree [] [] [] sound.rooted.0 sound.rooted.1 a)
