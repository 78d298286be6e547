-- What holds after any events still holds where a piece is opened.
use Rattle.std.proofs.Common.{◌≡◌, ◌≢◌, ◌⊎◌, inl, inr, ℕ, ◌<◌, ◌≤◌, List, [], ◌∷◌, ◌++◌, length, Option, Some, None}
use Rattle.std.proofs.Common.{sym, ap, ◌∙◌, subst, arith, append-nil, le_trans}
use Rattle.cave_model.specs.Plan.{AreDistinct}
use Rattle.set_cover.specs.Instance.{of_instance}
use Rattle.proof_rules.specs.Good.{IsCoverOfPiece}
use Rattle.proof_tree.specs.Bars.{places_of}
use Rattle.proof_tree.specs.Opened.{ArePlacesOn, MayBeOpened, Step, below_bars, step_at, steps_on}
use Rattle.proof_tree.specs.Piece.{Subproblem}
use Rattle.proof_tree.specs.declared.bars.Bar.{Bar}
use Rattle.event_core.specs.State.{State, Part, Status, Way, waiting, opened, closed, HasPart, IsLeft, piece_of}
use Rattle.event_core.specs.Sound.{IsSoundState, IsLeftOver, IsLeftFor, HasKids, HasNoBars}
use Rattle.event_core.specs.Events.{IsParted}
use Rattle.event_core.proofs.KidLemmas.{below_covers, kid_distinct, to_kid}
use Rattle.event_core.proofs.NameLemmas.{same_or_not, kid_or_not, same_kid, kid_other}
use Rattle.event_core.proofs.StateLemmas.{not_none, AreSame, same_parts, left_not_opened, none_or_some}
use Rattle.event_core.proofs.StateLemmas.{opened_not_closed, waiting_not_closed, same_way}

module _ (old : State) (f : List ℕ → Option Part) (n c b : List ℕ) (was : Status) (way : Way) (places : List ℕ)
    (sound : IsSoundState old) (is : HasPart old n c b was) (left : IsLeft was)
    (may : MayBeOpened (piece_of old n c b) way.bars way.on)
    (all : ArePlacesOn (below_bars (piece_of old n c b) way.bars) way.on places)
    (p : IsParted old n c b way places (record old { part_at = f })) where
  abbrev new : State
  new = record old { part_at = f }

  -- the piece below the bars, and the steps to its kids
  abbrev low : Subproblem
  low = below_bars (piece_of old n c b) way.bars

  abbrev steps : List Step
  steps = steps_on way.on places

  -- no piece was below this one
  none_below : (number : ℕ) → old.part_at (n ++ number ∷ []) ≡ None
  none_below number = elim (none_or_some (old.part_at (n ++ number ∷ []))) [
    | inl e ↦ e
    | inr s ↦ (let up = sound.parents n number s.0 s.1 in
        let same = same_parts old n c b up.0 up.1 was (opened up.2) is up.3 in
        left_not_opened was up.2 left same.status)
  ]

  no_kid : (m : List ℕ) (q : Part) → old.part_at m ≡ Some q → (number : ℕ) → number < length steps
      → m ≢ n ++ number ∷ []
  no_kid m q h number lt e = not_none q (sym (none_below number) ∙ ap old.part_at (sym e) ∙ h)

  forth : (m c2 b2 : List ℕ) (s2 : Status) → HasPart old m c2 b2 s2 → (s : Status) × HasPart new m c2 b2 s
  forth m c2 b2 s2 h = elim (same_or_not m n) [
    | inl e ↦ (
      opened way,
      (let same = same_parts old n c b c2 b2 was s2 is (ap old.part_at (sym e) ∙ h) in
          let x : c ≡ c2 = same.chosen in let y : b ≡ b2 = same.barred in
          ap f e ∙ p.here ∙ ap Some (λ i. record { chosen = x i; barred = y i; status = opened way })),
    )
    | inr ne ↦ (s2, p.others m ne (no_kid m (record { chosen = c2; barred = b2; status = s2 }) h) ∙ h)
  ]

  stays : (m c2 b2 : List ℕ) (s2 : Status) → m ≢ n → HasPart old m c2 b2 s2 → HasPart new m c2 b2 s2
  stays m c2 b2 s2 ne h = p.others m ne (no_kid m (record { chosen = c2; barred = b2; status = s2 }) h) ∙ h

  opened_stays : (m c2 b2 : List ℕ) (at : Way) → HasPart old m c2 b2 (opened at) → HasPart new m c2 b2 (opened at)
  opened_stays m c2 b2 at h = elim (same_or_not m n) [
    | inl e ↦ (let same = same_parts old n c b c2 b2 was (opened at) is (ap old.part_at (sym e) ∙ h) in
        left_not_opened was at left same.status)
    | inr ne ↦ stays m c2 b2 (opened at) ne h
  ]

  abbrev kid_part : ℕ → Part
  kid_part number = record {
    chosen = c ++ (step_at steps number).chosen;
    barred = low.barred ++ (step_at steps number).barred;
    status = waiting;
  }

  -- where a piece comes from
  pub record IsKid (m c2 b2 : List ℕ) (s2 : Status) : Type 0 where
    pub number : ℕ
    pub inside : number < length steps
    pub named : m ≡ n ++ number ∷ []
    pub same : AreSame (c ++ (step_at steps number).chosen)
        (low.barred ++ (step_at steps number).barred) waiting c2 b2 s2

  back : (m c2 b2 : List ℕ) (s2 : Status) → HasPart new m c2 b2 s2
      → ((m ≡ n) × AreSame c b (opened way) c2 b2 s2) ⊎ (IsKid m c2 b2 s2 ⊎ ((m ≢ n) × HasPart old m c2 b2 s2))
  back m c2 b2 s2 h = elim (same_or_not m n) [
    | inl e ↦ inl (e, same_parts new n c b c2 b2 (opened way) s2 p.here (ap f (sym e) ∙ h))
    | inr ne ↦ elim (kid_or_not n m (length steps)) [
      | inl k ↦ inr (inl (record {
        number = k.0;
        inside = k.1;
        named = k.2;
        same = same_parts new (n ++ k.0 ∷ []) (c ++ (step_at steps k.0).chosen)
            (low.barred ++ (step_at steps k.0).barred) c2 b2 waiting s2 (p.kids k.0 k.1) (ap f (sym k.2) ∙ h);
      }))
      | inr none_of ↦ inr (inr (ne, sym (p.others m ne none_of) ∙ h))
    ]
  ]

  none_there : (m : List ℕ) → m ≢ n → ((number : ℕ) → number < length steps → m ≢ n ++ number ∷ [])
      → old.part_at m ≡ None → f m ≡ None
  none_there m ne none_of h = p.others m ne none_of ∙ h

  -- a cover of the piece leaves one of no more places to one of its kids
  to_kids : (given cover : List ℕ) → length cover ≤ length given
      → IsCoverOfPiece (of_instance old.region) old.region.cells c b cover → IsLeftOver new given
  to_kids given cover le covers =
      let below = below_covers (of_instance old.region) old.region.cells c b way.bars cover may.dominated covers in
      let k = to_kid low way.on places below.0 may.may all below.2 in
      record {
        name = n ++ k.0 ∷ [];
        chosen = c ++ (step_at steps k.0).chosen;
        barred = low.barred ++ (step_at steps k.0).barred;
        status = waiting;
        there = p.kids k.0 k.1;
        left = tt;
        cover = below.0;
        no_more = le_trans below.1 le;
        covers = k.2;
      }

  left_over : (given : List ℕ) → IsLeftOver old given → IsLeftOver new given
  left_over given l = elim (same_or_not l.name n) [
    | inl e ↦ (let same = same_parts old n l.chosen l.barred c b l.status was (ap old.part_at (sym e) ∙ l.there) is in
        to_kids given l.cover l.no_more
        (subst (λ (x : List ℕ). IsCoverOfPiece (of_instance old.region) old.region.cells x b l.cover) same.chosen
        (subst (λ (x : List ℕ). IsCoverOfPiece (of_instance old.region) old.region.cells l.chosen x l.cover)
        same.barred l.covers)))
    | inr ne ↦ record {
      name = l.name;
      chosen = l.chosen;
      barred = l.barred;
      status = l.status;
      there = stays l.name l.chosen l.barred l.status ne l.there;
      left = l.left;
      cover = l.cover;
      no_more = l.no_more;
      covers = l.covers;
    }
  ]

  -- a cover of the piece covers one of its kids, where there are no bars
  for_kids : (given : List ℕ) → way.bars ≡ [] → IsCoverOfPiece (of_instance old.region) old.region.cells c b given
      → IsLeftFor new given
  for_kids given none covers =
      let same : b ≡ low.barred = sym (append-nil b) ∙ ap (λ (l : List Bar). b ++ places_of l) (sym none) in
      let below = subst (λ (x : List ℕ). IsCoverOfPiece (of_instance old.region) old.region.cells c x given) same
      covers in
      let k = to_kid low way.on places given may.may all below in
      record {
        name = n ++ k.0 ∷ [];
        chosen = c ++ (step_at steps k.0).chosen;
        barred = low.barred ++ (step_at steps k.0).barred;
        status = waiting;
        there = p.kids k.0 k.1;
        left = tt;
        covers = k.2;
      }

  left_for : (given : List ℕ) → way.bars ≡ [] → IsLeftFor old given → IsLeftFor new given
  left_for given none l = elim (same_or_not l.name n) [
    | inl e ↦ (let same = same_parts old n l.chosen l.barred c b l.status was (ap old.part_at (sym e) ∙ l.there) is in
        for_kids given none
        (subst (λ (x : List ℕ). IsCoverOfPiece (of_instance old.region) old.region.cells x b given) same.chosen
        (subst (λ (x : List ℕ). IsCoverOfPiece (of_instance old.region) old.region.cells l.chosen x given)
        same.barred l.covers)))
    | inr ne ↦ record {
      name = l.name;
      chosen = l.chosen;
      barred = l.barred;
      status = l.status;
      there = stays l.name l.chosen l.barred l.status ne l.there;
      left = l.left;
      covers = l.covers;
    }
  ]

  -- where there are no bars now, there were none
  no_bars_before : HasNoBars new → HasNoBars old
  no_bars_before none m c2 b2 at h = none m c2 b2 at (opened_stays m c2 b2 at h)

  new_kids : HasKids new n c b way
  new_kids = record {
    opens = record { dominated = may.dominated; may = may.may };
    places = places;
    all = all;
    there = λ i lt. (waiting, p.kids i lt);
    no_more = λ i le. none_there (n ++ i ∷ []) (kid_other n i)
        (λ j lt e. (let x = (same_kid n n i j e).number in absurd (omega arith))) (none_below i);
  }

  kids_stay : (m c2 b2 : List ℕ) (at : Way) → m ≢ n → HasPart old m c2 b2 (opened at) → HasKids old m c2 b2 at
      → HasKids new m c2 b2 at
  kids_stay m c2 b2 at ne h k = record {
    opens = record { dominated = k.opens.dominated; may = k.opens.may };
    places = k.places;
    all = k.all;
    there = λ i lt. (let t = k.there i lt in forth (m ++ i ∷ []) (c2 ++ (step_at (steps_on at.on k.places) i).chosen)
        ((b2 ++ places_of at.bars) ++ (step_at (steps_on at.on k.places) i).barred) t.0 t.1);
    no_more = λ i le. none_there (m ++ i ∷ [])
        (λ e. not_none (record { chosen = c; barred = b; status = was }) (sym (k.no_more i le) ∙ ap old.part_at e ∙ is))
        (λ j lt e. ne (same_kid m n i j e).parent)
        (k.no_more i le);
  }

  parents_stay : (m : List ℕ) (i : ℕ) (q : Part) → f (m ++ i ∷ []) ≡ Some q
      → (c2 : List ℕ) × (b2 : List ℕ) × (at : Way) × HasPart new m c2 b2 (opened at)
  parents_stay m i q h = elim (back (m ++ i ∷ []) q.chosen q.barred q.status h) [
    | inl e ↦ (let up = sound.parents m i (record { chosen = c; barred = b; status = was }) (ap old.part_at e.0 ∙ is) in
        (up.0, up.1, up.2, opened_stays m up.0 up.1 up.2 up.3))
    | inr o ↦ elim o [
      | inl k ↦ (c, b, way, (let e = (same_kid m n i k.number k.named).parent in ap f e ∙ p.here))
      | inr o ↦ (let up = sound.parents m i q o.1 in (up.0, up.1, up.2, opened_stays m up.0 up.1 up.2 up.3))
    ]
  ]

  -- a sound state stays so when a piece is opened
  pub opened_sound : IsSoundState new
  opened_sound = record {
    seen = sound.seen;
    rooted = forth [] [] [] sound.rooted.0 sound.rooted.1;
    parents = parents_stay;
    distinct = λ m c2 b2 s2 h. elim (back m c2 b2 s2 h) [
      | inl e ↦ subst AreDistinct e.1.chosen (sound.distinct n c b was is)
      | inr o ↦ elim o [
        | inl k ↦ subst AreDistinct k.same.chosen
            (kid_distinct low way.on places (sound.distinct n c b was is) may.may all
            k.number k.inside)
        | inr o ↦ sound.distinct m c2 b2 s2 o.1
      ]
    ];
    covered = λ cover covers lt. left_over cover (sound.covered cover covers lt);
    exact = λ none cover covers lt. left_for cover (none n c b way p.here)
        (sound.exact (no_bars_before none) cover covers lt);
    reached = λ m c2 b2 floor tree h. elim (back m c2 b2 (closed floor tree) h) [
      | inl e ↦ opened_not_closed way floor tree e.1.status
      | inr o ↦ elim o [
        | inl k ↦ waiting_not_closed floor tree k.same.status
        | inr o ↦ sound.reached m c2 b2 floor tree o.1
      ]
    ];
    proved = λ m c2 b2 floor tree h. elim (back m c2 b2 (closed floor tree) h) [
      | inl e ↦ opened_not_closed way floor tree e.1.status
      | inr o ↦ elim o [
        | inl k ↦ waiting_not_closed floor tree k.same.status
        | inr o ↦ sound.proved m c2 b2 floor tree o.1
      ]
    ];
    kids = λ m c2 b2 at h. elim (back m c2 b2 (opened at) h) [
      | inl e ↦ subst (λ (x : List ℕ × (List ℕ × (List ℕ × Way))). HasKids new x.0 x.1.0 x.1.1.0 x.1.1.1)
          (let x = e.0 in let y = e.1.chosen in let z = e.1.barred in let w = same_way way at e.1.status in
          λ i. (sym x i, (y i, (z i, w i)))) new_kids
      | inr o ↦ elim o [
        | inl k ↦ left_not_opened waiting at tt k.same.status
        | inr o ↦ kids_stay m c2 b2 at o.0 o.1 (sound.kids m c2 b2 at o.1)
      ]
    ];
  }
