-- What holds after any events still holds where a piece that waits or is held gets another status.
use Rattle.std.proofs.Common.{◌≡◌, ◌≢◌, ◌⊎◌, inl, inr, ℕ, ◌<◌, ◌≤◌, List, [], ◌∷◌, ◌++◌, length, Option, Some, None}
use Rattle.std.proofs.Common.{sym, ap, ◌∙◌, subst, arith}
use Rattle.cave_model.specs.Plan.{AreDistinct}
use Rattle.set_cover.specs.Instance.{of_instance}
use Rattle.proof_rules.specs.Tree.{Tree}
use Rattle.proof_rules.specs.Good.{Good, IsCoverOfPiece}
use Rattle.event_core.specs.State.{State, Part, Status, Way, opened, closed, HasPart, IsLeft, goal_of}
use Rattle.proof_tree.specs.Bars.{places_of}
use Rattle.proof_tree.specs.Opened.{step_at, steps_on}
use Rattle.event_core.specs.Sound.{IsSoundState, IsLeftOver, IsLeftFor, HasKids, HasNoBars}
use Rattle.event_core.proofs.NameLemmas.{same_or_not}
use Rattle.event_core.proofs.StateLemmas.{not_none, AreSame, same_parts, left_not_opened}

module _ (old : State) (f : List ℕ → Option Part) (n c b : List ℕ) (was status : Status) (sound : IsSoundState old)
    (is : HasPart old n c b was) (left : IsLeft was)
    (here : f n ≡ Some (record { chosen = c; barred = b; status = status }))
    (others : (other : List ℕ) → other ≢ n → f other ≡ old.part_at other) where
  abbrev new : State
  new = record old { part_at = f }

  -- a piece had its places already
  forth : (m c2 b2 : List ℕ) (s2 : Status) → HasPart old m c2 b2 s2 → (s : Status) × HasPart new m c2 b2 s
  forth m c2 b2 s2 h = elim (same_or_not m n) [
    | inl e ↦ (
      status,
      (let same = same_parts old n c b c2 b2 was s2 is (ap old.part_at (sym e) ∙ h) in
          let p : c ≡ c2 = same.chosen in let q : b ≡ b2 = same.barred in
          ap f e ∙ here ∙ ap Some (λ i. record { chosen = p i; barred = q i; status = status })),
    )
    | inr ne ↦ (s2, others m ne ∙ h)
  ]

  back : (m c2 b2 : List ℕ) (s2 : Status) → HasPart new m c2 b2 s2
      → ((m ≡ n) × AreSame c b status c2 b2 s2) ⊎ ((m ≢ n) × HasPart old m c2 b2 s2)
  back m c2 b2 s2 h = elim (same_or_not m n) [
    | inl e ↦ inl (e, same_parts new n c b c2 b2 status s2 here (ap f (sym e) ∙ h))
    | inr ne ↦ inr (ne, sym (others m ne) ∙ h)
  ]

  -- an opened piece stays
  stays : (m c2 b2 : List ℕ) (way : Way) → HasPart old m c2 b2 (opened way) → HasPart new m c2 b2 (opened way)
  stays m c2 b2 way h = elim (same_or_not m n) [
    | inl e ↦ (let same = same_parts old n c b c2 b2 was (opened way) is (ap old.part_at (sym e) ∙ h) in
        left_not_opened was way left same.status)
    | inr ne ↦ others m ne ∙ h
  ]

  -- where there was none, there is none
  none_there : (m : List ℕ) → old.part_at m ≡ None → f m ≡ None
  none_there m h = elim (same_or_not m n) [
    | inl e ↦ not_none (record { chosen = c; barred = b; status = was }) (sym h ∙ ap old.part_at e ∙ is)
    | inr ne ↦ others m ne ∙ h
  ]

  some_there : (m : List ℕ) (p : Part) → f m ≡ Some p → (q : Part) × (old.part_at m ≡ Some q)
  some_there m p h = elim (same_or_not m n) [
    | inl e ↦ (record { chosen = c; barred = b; status = was }, ap old.part_at e ∙ is)
    | inr ne ↦ (p, sym (others m ne) ∙ h)
  ]

  kids_stay : (m c2 b2 : List ℕ) (way : Way) → HasKids old m c2 b2 way → HasKids new m c2 b2 way
  kids_stay m c2 b2 way k = record {
    opens = record { dominated = k.opens.dominated; may = k.opens.may };
    places = k.places;
    all = k.all;
    there = λ i lt. (let t = k.there i lt in forth (m ++ i ∷ [])
        (c2 ++ (step_at (steps_on way.on k.places) i).chosen)
        ((b2 ++ places_of way.bars) ++ (step_at (steps_on way.on k.places) i).barred) t.0 t.1);
    no_more = λ i le. none_there (m ++ i ∷ []) (k.no_more i le);
  }

  left_over : (places : List ℕ) → ((cover : List ℕ) → length cover ≤ length places
      → IsCoverOfPiece (of_instance old.region) old.region.cells c b cover → IsLeft status)
      → IsLeftOver old places → IsLeftOver new places
  left_over places still l = elim (same_or_not l.name n) [
    | inl e ↦ (let same = same_parts old n l.chosen l.barred c b l.status was (ap old.part_at (sym e) ∙ l.there) is in
        let covers = subst (λ (x : List ℕ). IsCoverOfPiece (of_instance old.region) old.region.cells x b l.cover)
        same.chosen
        (subst (λ (x : List ℕ). IsCoverOfPiece (of_instance old.region) old.region.cells l.chosen x l.cover)
        same.barred l.covers) in
        record {
          name = n;
          chosen = c;
          barred = b;
          status = status;
          there = here;
          left = still l.cover l.no_more covers;
          cover = l.cover;
          no_more = l.no_more;
          covers = covers;
        })
    | inr ne ↦ record {
      name = l.name;
      chosen = l.chosen;
      barred = l.barred;
      status = l.status;
      there = others l.name ne
          ∙ l.there;
      left = l.left;
      cover = l.cover;
      no_more = l.no_more;
      covers = l.covers;
    }
  ]

  left_for : (places : List ℕ) → (IsCoverOfPiece (of_instance old.region) old.region.cells c b places → IsLeft status)
      → IsLeftFor old places → IsLeftFor new places
  left_for places still l = elim (same_or_not l.name n) [
    | inl e ↦ (let same = same_parts old n l.chosen l.barred c b l.status was (ap old.part_at (sym e) ∙ l.there) is in
        let covers = subst (λ (x : List ℕ). IsCoverOfPiece (of_instance old.region) old.region.cells x b places)
        same.chosen
        (subst (λ (x : List ℕ). IsCoverOfPiece (of_instance old.region) old.region.cells l.chosen x places)
        same.barred l.covers) in
        record {
          name = n;
          chosen = c;
          barred = b;
          status = status;
          there = here;
          left = still covers;
          covers = covers;
        })
    | inr ne ↦ record {
      name = l.name;
      chosen = l.chosen;
      barred = l.barred;
      status = l.status;
      there = others l.name ne
          ∙ l.there;
      left = l.left;
      covers = l.covers;
    }
  ]

  -- where there are no bars now, there were none
  no_bars_before : HasNoBars new → HasNoBars old
  no_bars_before none m c2 b2 way h = none m c2 b2 way (stays m c2 b2 way h)

  -- the new status is no opened one; it is left where the piece has a smaller cover; and where a tree closes it, the
  -- tree is good
  pub turned_sound : ((way : Way) → status ≢ opened way)
      → ((places : List ℕ) → length places < goal_of old
      → IsCoverOfPiece (of_instance old.region) old.region.cells c b places → IsLeft status)
      → ((floor : ℕ) (tree : Tree) → status ≡ closed floor tree → goal_of old ≤ floor)
      → ((floor : ℕ) (tree : Tree) → status ≡ closed floor tree
      → Good (of_instance old.region) old.region.cells c b floor tree)
      → IsSoundState new
  turned_sound no_way still reach prove = record {
    seen = sound.seen;
    rooted = forth [] [] [] sound.rooted.0 sound.rooted.1;
    parents = λ m i p h. (let q = some_there (m ++ i ∷ []) p h in let up = sound.parents m i q.0 q.1 in
        (up.0, up.1, up.2, stays m up.0 up.1 up.2 up.3));
    distinct = λ m c2 b2 s2 h. elim (back m c2 b2 s2 h) [
      | inl e ↦ subst AreDistinct e.1.chosen (sound.distinct n c b was is)
      | inr o ↦ sound.distinct m c2 b2 s2 o.1
    ];
    covered = λ places covers lt. left_over places
        (λ cover le. still cover (omega (arith, le, lt))) (sound.covered places covers lt);
    exact = λ none places covers lt. left_for places (still places lt)
        (sound.exact (no_bars_before none) places covers lt);
    reached = λ m c2 b2 floor tree h. elim (back m c2 b2 (closed floor tree) h) [
      | inl e ↦ reach floor tree e.1.status
      | inr o ↦ sound.reached m c2 b2 floor tree o.1
    ];
    proved = λ m c2 b2 floor tree h. elim (back m c2 b2 (closed floor tree) h) [
      | inl e ↦ subst (λ (x : List ℕ). Good (of_instance old.region) old.region.cells x b2 floor tree) e.1.chosen
          (subst (λ (x : List ℕ). Good (of_instance old.region) old.region.cells c x floor tree)
          e.1.barred (prove floor tree e.1.status))
      | inr o ↦ sound.proved m c2 b2 floor tree o.1
    ];
    kids = λ m c2 b2 way h. elim (back m c2 b2 (opened way) h) [
      | inl e ↦ absurd (no_way way e.1.status)
      | inr o ↦ kids_stay m c2 b2 way (sound.kids m c2 b2 way o.1)
    ];
  }
