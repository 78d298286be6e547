-- The kids of a piece that is opened: their places, and the covers that they have.
use Rattle.std.proofs.Common.{◌≡◌, ℕ, zero, suc, ◌<◌, ◌≤◌, List, [], ◌∷◌, ◌++◌, length, Contains, All, take, sym}
use Rattle.std.proofs.Common.{ap, ◌∙◌, subst, arith, inl, inr, append-nil, append_assoc, le_trans}
use Rattle.std.specs.Prelude.{slice_index}
use Rattle.std.proofs.lemmas.List.Elements.{All-append, All-nil, Contains-get_or}
use Rattle.cave_model.specs.Coverage.{Coverage}
use Rattle.cave_model.specs.Plan.{AreDistinct}
use Rattle.set_cover.specs.Instance.{LightsIn, of_instance}
use Rattle.proof_rules.specs.Good.{IsCoverOfPiece, IsDominated}
use Rattle.proof_rules.proofs.BoundLemmas.{Serves, exchange, leave_out, piece_serves, serves_piece}
use Rattle.proof_rules.proofs.ListLemmas.{all_members, at_member, has_or_not}
use Rattle.proof_tree.specs.Bars.{AreDominated, places_of}
use Rattle.proof_tree.specs.Opened.{ArePlacesOn, MayBranch, Step, step_at, steps_from, steps_on}
use Rattle.proof_tree.specs.Piece.{Subproblem}
use Rattle.proof_tree.specs.declared.bars.Bar.{Bar}
use Rattle.proof_tree.specs.declared.branching.Branching.{Branching}
use Rattle.proof_tree.specs.declared.branching.Branching.TheVariants.{Cell, Place}
use Rattle.proof_tree.proofs.KidLemmas.{all_of_one, distinct_with, in_all, length-steps_from, one_distinct, step_from}
use Rattle.event_core.proofs.NameLemmas.{first_in}

-- with no places after them the places are the same
none_more : (xs : List ℕ) → AreDistinct xs → AreDistinct (xs ++ [])
none_more xs d = subst AreDistinct (sym (append-nil xs)) d

module _ (piece : Subproblem) where
  -- ---- places

  -- the places chosen in a kid on a cell are distinct
  distinct_on_cell : (cell : ℕ) (places : List ℕ) → AreDistinct piece.chosen → MayBranch piece (Cell cell)
      → ArePlacesOn piece (Cell cell) places → (number : ℕ) → number < length places
      → AreDistinct (piece.chosen ++ slice_index places number ∷ [])
  distinct_on_cell cell places d may all number lt =
      let place = slice_index places number in
      distinct_with piece.chosen (place ∷ []) d (one_distinct place)
      (all_of_one (λ (p : ℕ). ¬ Contains piece.chosen p) place
      (λ h. at_member (λ p. ¬ LightsIn piece.region p cell) piece.chosen place may.unlit h
      ((all.exact place).0 (Contains-get_or places number 0 lt)).lights))

  -- so are those of each kid
  pub kid_distinct : (on : Branching) (places : List ℕ) → AreDistinct piece.chosen → MayBranch piece on
      → ArePlacesOn piece on places → (number : ℕ) → number < length (steps_on on places)
      → AreDistinct (piece.chosen ++ (step_at (steps_on on places) number).chosen)
  kid_distinct (Cell cell) places d may all number lt =
      let inside : number < length places = omega (arith, lt, length-steps_from [] places) in
      subst (λ (s : Step). AreDistinct (piece.chosen ++ s.chosen)) (sym (step_from [] places number inside))
      (distinct_on_cell cell places d may all number inside)
  kid_distinct (Place place) places d may all zero lt =
      distinct_with piece.chosen (place ∷ []) d (one_distinct place)
      (all_of_one (λ (p : ℕ). ¬ Contains piece.chosen p) place may.unchosen)
  kid_distinct (Place place) places d may all (suc zero) lt = none_more piece.chosen d
  kid_distinct (Place place) places d may all (suc (suc number)) lt = absurd (omega arith)

  abbrev AreHere : List ℕ → Type 0
  AreHere places = All (Contains piece.region.places) places

  -- the places that a step chooses and bars are of the region
  pub step_here : (on : Branching) (places : List ℕ) → MayBranch piece on → ArePlacesOn piece on places → (number : ℕ)
      → number < length (steps_on on places)
      → AreHere (step_at (steps_on on places) number).chosen × AreHere (step_at (steps_on on places) number).barred
  step_here (Cell cell) places may all number lt =
      let inside : number < length places = omega (arith, lt, length-steps_from [] places) in
      subst (λ (s : Step). AreHere s.chosen × AreHere s.barred) (sym (step_from [] places number inside)) (
        all_of_one (Contains piece.region.places) (slice_index places number)
            ((all.exact (slice_index places number)).0 (Contains-get_or places number 0 inside)).legal,
        all_members (Contains piece.region.places) (take number places)
            (λ y h. ((all.exact y).0 (in_all number places y h)).legal),
      )
  step_here (Place place) places may all zero lt =
      (all_of_one (Contains piece.region.places) place may.legal, All-nil (Contains piece.region.places))
  step_here (Place place) places may all (suc zero) lt =
      (All-nil (Contains piece.region.places), all_of_one (Contains piece.region.places) place may.legal)
  step_here (Place place) places may all (suc (suc number)) lt = absurd (omega arith)

  -- ---- covers

  -- the cover is one of the kid by this step
  abbrev pub CoversStep : List ℕ → Step → Type 0
  CoversStep cover step = IsCoverOfPiece (of_instance piece.region) piece.region.cells (piece.chosen ++ step.chosen)
      (piece.barred ++ step.barred) cover

  -- a cover that holds a step's chosen places and avoids its barred ones covers the kid
  covers_step : (cover : List ℕ) (step : Step)
      → IsCoverOfPiece (of_instance piece.region) piece.region.cells piece.chosen piece.barred cover
      → All (Contains cover) step.chosen → All (λ place. ¬ Contains cover place) step.barred → CoversStep cover step
  covers_step cover step covers holds avoids = record {
    distinct = covers.distinct;
    legal = covers.legal;
    covers = covers.covers;
    holds = All-append (Contains cover) piece.chosen step.chosen covers.holds holds;
    avoids = All-append (λ place. ¬ Contains cover place) piece.barred step.barred covers.avoids avoids;
  }

  -- a cover of the piece covers one of its kids
  pub to_kid : (on : Branching) (places cover : List ℕ) → MayBranch piece on → ArePlacesOn piece on places
      → IsCoverOfPiece (of_instance piece.region) piece.region.cells piece.chosen piece.barred cover
      → (number : ℕ) × (number < length (steps_on on places)) × CoversStep cover (step_at (steps_on on places) number)
  to_kid (Cell cell) places cover may all covers =
      let by = covers.covers cell may.of_it in
      let open_too = (all.exact by.0).1 (record {
        legal = at_member (of_instance piece.region).Place cover by.0 covers.legal by.1;
        lights = by.2;
        free = λ h. at_member (λ q. ¬ Contains cover q) piece.barred by.0 covers.avoids h by.1;
      }) in
      let first = first_in places cover by.0 open_too by.1 in (
        first.0,
        omega (arith, first.1.inside, length-steps_from [] places),
        subst (CoversStep cover) (sym (step_from [] places first.0 first.1.inside))
            (covers_step cover (record { chosen = slice_index places first.0 ∷ []; barred = take first.0 places })
            covers
            (all_of_one (Contains cover) (slice_index places first.0) first.1.there)
            (all_members (λ q. ¬ Contains cover q) (take first.0 places) first.1.new)),
      )
  to_kid (Place place) places cover may all covers = elim (has_or_not cover place) [
    | inl has ↦ (
      0,
      omega arith,
      covers_step cover (record { chosen = place ∷ []; barred = [] }) covers (all_of_one (Contains cover) place has)
          (All-nil (λ q. ¬ Contains cover q)),
    )
    | inr not ↦ (
      1,
      omega arith,
      covers_step cover (record { chosen = []; barred = place ∷ [] }) covers (All-nil (Contains cover))
          (all_of_one (λ (q : ℕ). ¬ Contains cover q) place not),
    )
  ]

-- ---- on a cell

-- where a piece is opened on a cell, there is a kid for each of these places
pub inside_cell : (on : Branching) (cell : ℕ) (places : List ℕ) (number : ℕ) → on ≡ Cell cell
    → number < length (steps_on on places) → number < length places
inside_cell on cell places number e lt =
    let less : number < length (steps_from [] places) =
    subst (λ (o : Branching). number < length (steps_on o places)) e lt in
    omega (arith, less, length-steps_from [] places)

-- whose step chooses it, and bars those before it
pub step_on_cell : (on : Branching) (cell : ℕ) (places : List ℕ) (number : ℕ) → on ≡ Cell cell
    → number < length (steps_on on places)
    → step_at (steps_on on places) number
    ≡ record { chosen = slice_index places number ∷ []; barred = take number places }
step_on_cell on cell places number e lt =
    ap (λ (o : Branching). step_at (steps_on o places) number) e
    ∙ step_from [] places number (inside_cell on cell places number e lt)

-- ---- below bars

module _ (coverage : Coverage) (cells chosen : List ℕ) where
  -- where places may be left out, some cover of no more places does without them
  pub below_covers : (barred : List ℕ) (bars : List Bar) (cover : List ℕ)
      → AreDominated coverage cells chosen barred bars → IsCoverOfPiece coverage cells chosen barred cover
      → (others : List ℕ) × (length others ≤ length cover)
      × IsCoverOfPiece coverage cells chosen (barred ++ places_of bars) others
  below_covers barred [] cover all covers = (
    cover,
    omega arith,
    subst (λ (l : List ℕ). IsCoverOfPiece coverage cells chosen l cover) (sym (append-nil barred)) covers,
  )
  below_covers barred (b ∷ bs) cover all covers =
      let s = piece_serves coverage cells chosen barred cover covers in
      let one = without b cover s all.0 in
      let rest = below_covers (barred ++ b.place ∷ []) bs one.0 all.1
      (serves_piece coverage cells chosen (barred ++ b.place ∷ []) one.0 one.1) in (
        rest.0,
        le_trans rest.1 one.2,
        subst (λ (l : List ℕ). IsCoverOfPiece coverage cells chosen l rest.0)
            (append_assoc barred (b.place ∷ []) (places_of bs)) rest.2,
      )
    where
      without : (b : Bar) (cover : List ℕ) → Serves coverage cells chosen barred cover
          → IsDominated coverage cells chosen barred b.place b.by
          → (others : List ℕ) × Serves coverage cells chosen (barred ++ b.place ∷ []) others
          × (length others ≤ length cover)
      without b cover s d = elim (has_or_not cover b.place) [
        | inl h ↦ exchange coverage cells chosen barred cover s b.place b.by h d
        | inr h ↦ (cover, leave_out coverage cells chosen barred cover s b.place h, omega arith)
      ]
