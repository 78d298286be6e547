-- What the judge of nodes makes of a node.
use Rattle.std.proofs.Common.{◌≡◌, ℕ, ◌+◌, inl, inr, List, [], ◌∷◌, ◌++◌, length, Contains, slice_index, IsTrue}
use Rattle.std.proofs.Common.{All, refl}
use Rattle.std.proofs.Common.{sym, ap, subst, ◌∙◌}
use Rattle.std.specs.Prelude.{Some, None, nat_lt, if◌then◌else◌}
use Rattle.std.specs.Option.{option_or}
use Rattle.std.proofs.lemmas.List.Elements.{Contains-push_cases}
use Rattle.proof_rules.proofs.ListLemmas.{no_member}
use Rattle.proof_rules.proofs.OmitLemmas.{left_from}
use Rattle.proof_rules.specs.declared.groups.Group.{Group}
use Rattle.proof_rules.specs.Groups.{places_for_all}
use Rattle.proof_rules.specs.Omitted.{left_without}
use Rattle.cave_model.specs.Cave.{Cave}
use Rattle.cave_model.specs.Spawn.{IsDark}
use Rattle.cave_model.specs.Torches.{IsPlace}
use Rattle.cave_model.specs.Plan.{AreDistinct}
use Rattle.lit_lists.specs.Lists.{LitLists, AreListsOf, is_marked}
use Rattle.proof_check.specs.Judged.{Frame, Weighing, idle, JudgeState, left, at, stuck, enter, pick_at, goes_to}
use Rattle.proof_check.specs.Judged.{after_leaf, after_groups}
use Rattle.node_judges.specs.Tests.{IsFree, AreApartIn, AreLeft, IsDominatedIn, MayBePickedIn, lit_by}
use Rattle.proof_check.specs.Track.{Fits, IsAt, ClosesFrames, Enters, EntersPick}
use Rattle.proof_check.specs.Kept.{IsIn, IsWeighing, left_in, JudgesLeaf, JudgesWeighted, JudgesBranch, JudgesBar}
use Rattle.proof_check.specs.Kept.{JudgesOmission, JudgesPick}
use Rattle.node_judges.specs.Weighed.{MayBeWeighted, MayNotBeWeighted}
use Rattle.proof_check.specs.declared.nodes.NodeJudge.{NodeJudge}
use Rattle.proof_check.specs.declared.track.Frame as held
use Rattle.proof_check.specs.declared.weighing.Weighing as held_weighing
use Rattle.node_judges.proofs.TestLemmas.{element_of}
use Rattle.proof_check.proofs.TrackLemmas.{fits_wider, fits_less, moved}
use Rattle.proof_check.proofs.MeaningLemmas.{free_unlit, unlit_free, apart_scattered, scattered_apart, left_open}
use Rattle.proof_check.proofs.MeaningLemmas.{dominated, dominated_in, picked, picked_in}
use Rattle.proof_check.proofs.WeighedLemmas.{is_weighted, not_weighted}
use Rattle.proof_check.proofs.RefusalLemmas.{open_once}

-- chosen places are places
pub fits_legal : (lists : LitLists) (chosen barred omitted : List ℕ) (kept : List held.Frame) (frames : List Frame)
    → Fits lists chosen barred omitted kept frames → (p : ℕ) → Contains chosen p → IsTrue (is_marked lists.places p)
fits_legal lists chosen barred omitted kept [] f p h = no_member p (subst (λ (l : List ℕ). Contains l p) f.1 h)
fits_legal lists chosen barred omitted kept (a ∷ fs) (front, last, k, is, c, more, b, gone, o, rest) p h =
    elim (Contains-push_cases a.chosen a.place p (subst (λ (l : List ℕ). Contains l p) c h)) [
      | inl old ↦ fits_legal lists a.chosen a.barred a.omitted front fs rest p old
      | inr e ↦ subst (λ (q : ℕ). IsTrue (is_marked lists.places q)) (is.place ∙ e)
          (is.legal (slice_index last.places.items last.index) (element_of last.places.items last.index is.within))
    ]

-- ---- what the judge makes of a node

-- of a judge in a state: its tests are those of the state
chosen_legal : (cave : Cave) (lists : LitLists) (nodes : NodeJudge) (s : JudgeState) → AreListsOf cave lists
    → IsIn cave lists nodes s → (p : ℕ) → Contains s.spot.chosen p → IsPlace cave p
chosen_legal cave lists nodes s known k p h =
    (known.places.exact p).0
    (fits_legal lists nodes.track.chosen.items nodes.track.barred.items nodes.track.omitted.items
    nodes.track.frames.items s.spot.frames k.spot.fits p (subst (λ (l : List ℕ). Contains l p)
    (sym k.spot.chosen_is) h))

-- the judge's lists are those of the state
in_state : (lists : LitLists) (cave : Cave) (nodes : NodeJudge) (s : JudgeState) (P : List ℕ → List ℕ → List ℕ → Type 0)
    → IsIn cave lists nodes s → P (left_in nodes) nodes.track.chosen.items nodes.track.barred.items
    → P (left s) s.spot.chosen s.spot.barred
in_state lists cave nodes s P k p =
    subst (λ (l : List ℕ). P (left s) s.spot.chosen l) k.spot.barred_is
    (subst (λ (l : List ℕ). P (left s) l nodes.track.barred.items) k.spot.chosen_is
    (subst (λ (l : List ℕ). P (left_without s.spot.omitted l) nodes.track.chosen.items nodes.track.barred.items) k.cells
    (subst (λ (l : List ℕ). P (left_without l nodes.region.items) nodes.track.chosen.items nodes.track.barred.items)
    k.spot.omitted_is p)))

-- what is left of a region is dark as that is
left_dark : (lists : LitLists) (cave : Cave) (nodes : NodeJudge) (s : JudgeState) → IsIn cave lists nodes s
    → (cell : ℕ) → Contains (left s) cell → IsDark cave cell
left_dark lists cave nodes s k cell h = k.dark cell (left_from s.spot.omitted s.cells cell h)

-- the first weak leaf, by what is kept and by the state
weak_same : (nodes : NodeJudge) (count line here : ℕ) (s : JudgeState) → nodes.weak ≡ s.weak
    → length nodes.track.chosen.items ≡ length s.spot.chosen → nodes.floor ≡ s.floor → line ≡ here
    → option_or nodes.weak (if nat_lt (length nodes.track.chosen.items + count) nodes.floor then Some line else None)
    ≡ option_or s.weak (if nat_lt (length s.spot.chosen + count) s.floor then Some here else None)
weak_same nodes count line here s w c f l = cc

-- what is told of a weighted leaf stays
weighed_on : (old new : held_weighing.Weighing) (weighing : Weighing) → new ≡ old → IsWeighing old weighing
    → IsWeighing new weighing
weighed_on old new weighing e i = subst (λ (w : held_weighing.Weighing). IsWeighing w weighing) (sym e) i

module _ (lists : LitLists) (old new : NodeJudge) (line : ℕ) where
  weighed : (s : JudgeState) → new.weighing ≡ old.weighing → IsWeighing old.weighing s.weighing
      → IsWeighing new.weighing s.weighing
  weighed s e i = weighed_on old.weighing new.weighing s.weighing e i

  -- a leaf whose cells aren't apart is bad
  pub leaf_bad : (these : List ℕ)
      → (AreDistinct these → ¬ AreApartIn lists (left_in old) old.track.chosen.items old.track.barred.items these)
      → new.bad ≡ Some line → JudgesLeaf lists these line old new
  leaf_bad these never bad = record {
    each = λ cave s known k e. (
      stuck s.line,
      inr (
        (λ once scattered. in_state lists cave old s (λ a b c. ¬ AreApartIn lists a b c these) k (never once)
            (scattered_apart cave lists known (left s) (left_dark lists cave old s k) s.spot.chosen
            (chosen_legal cave lists old s known k)
            s.spot.barred these scattered)),
        refl,
      ),
      bad ∙ ap Some e,
    );
  }

  -- one whose cells are is judged
  pub leaf_good : (these : List ℕ)
      → AreApartIn lists (left_in old) old.track.chosen.items old.track.barred.items these
      → new.bad ≡ old.bad → new.region.items ≡ old.region.items → new.floor ≡ old.floor
      → new.weighing ≡ old.weighing
      → new.weak ≡ option_or old.weak (if nat_lt (length old.track.chosen.items + length these) old.floor
      then Some line else None)
      → (limit : ℕ) → limit ≡ length lists.places
      → ClosesFrames limit old.track.chosen.items old.track.barred.items old.track.omitted.items
      old.track.frames.items new.track.chosen.items new.track.barred.items new.track.omitted.items
      new.track.frames.items
      → JudgesLeaf lists these line old new
  leaf_good these apart bad region floor weighing weak limit wide closes = record {
    each = λ cave s known k e. (
      at (after_leaf s (length these)),
      inl (
        (λ once. apart_scattered cave lists known (left s) (left_dark lists cave old s k) s.spot.chosen
            (chosen_legal cave lists old s known k)
            s.spot.barred these
            (in_state lists cave old s (λ a b c. AreApartIn lists a b c these) k apart) once),
        refl,
      ),
      record {
        good = bad ∙ k.good;
        cells = region ∙ k.cells;
        floor = floor ∙ k.floor;
        weak = weak ∙ weak_same old (length these) line s.line s k.weak (ap length k.spot.chosen_is) k.floor e;
        spot = closes.each lists s.spot.frames (sym wide) k.spot.fits;
        weighing = weighed s weighing k.weighing;
        dark = k.dark;
      },
    );
  }

  -- a branch on a cell that isn't free is bad
  pub branch_bad : (cell count : ℕ) → (¬ IsFree lists (left_in old) old.track.chosen.items cell)
      → new.bad ≡ Some line → JudgesBranch lists cell count line old new
  branch_bad cell count never bad = record {
    each = λ cave s known k e. (
      stuck s.line,
      inr (
        (λ places b. in_state lists cave old s (λ x y z. ¬ IsFree lists x y cell) k never
            (unlit_free cave lists known (left s) (left_dark lists cave old s k) s.spot.chosen
            (chosen_legal cave lists old s known k) cell b.0)),
        refl,
      ),
      bad ∙ ap Some e,
    );
  }

  -- so is one that counts its kids otherwise
  pub branch_other : (cell count : ℕ) (places : List ℕ) → IsFree lists (left_in old) old.track.chosen.items cell
      → AreLeft (lit_by lists cell) old.track.barred.items places → (length places ≡ count → ⊥) → new.bad ≡ Some line
      → JudgesBranch lists cell count line old new
  branch_other cell count places free among differs bad = record {
    each = λ cave s known k e.
        (let f = in_state lists cave old s (λ x y z. IsFree lists x y cell) k free in
        let l = in_state lists cave old s (λ x y z. AreLeft (lit_by lists cell) z places) k among in
        let o = left_open cave lists known (left s) (left_dark lists cave old s k) s.spot.chosen
        (chosen_legal cave lists old s known k)
        s.spot.barred places cell f.of_it l in (
          stuck s.line,
          inr (
            (λ others b. differs (ap length (open_once cave s.spot.barred cell places others o b.1)
                ∙ b.2)),
            refl,
          ),
          bad ∙ ap Some e,
        ));
  }

  -- any other is entered
  pub branch_good : (cell count : ℕ) (places : List ℕ) → IsFree lists (left_in old) old.track.chosen.items cell
      → AreLeft (lit_by lists cell) old.track.barred.items places → length places ≡ count
      → new.bad ≡ old.bad → new.region.items ≡ old.region.items → new.floor ≡ old.floor → new.weak ≡ old.weak
      → new.weighing ≡ old.weighing
      → (limit : ℕ) → limit ≡ length lists.places
      → Enters limit places old.track.chosen.items old.track.barred.items old.track.omitted.items
      old.track.frames.items new.track.chosen.items new.track.barred.items new.track.omitted.items
      new.track.frames.items
      → JudgesBranch lists cell count line old new
  branch_good cell count places free among same bad region floor weak weighing limit wide enters = record {
    each = λ cave s known k e.
        (let f = in_state lists cave old s (λ x y z. IsFree lists x y cell) k free in
        let l = in_state lists cave old s (λ x y z. AreLeft (lit_by lists cell) z places) k among in
        let legal = chosen_legal cave lists old s known k in
        let o = left_open cave lists known (left s) (left_dark lists cave old s k) s.spot.chosen legal s.spot.barred
        places cell f.of_it l in
        let u = free_unlit cave lists known (left s) (left_dark lists cave old s k) s.spot.chosen legal cell f in
        let spot = enters.each lists s.spot.frames (sym wide)
        (λ place h. (known.places.exact place).1 ((o.exact place).0 h).legal) k.spot.fits in (
          at (goes_to s (enter s.spot.chosen s.spot.barred s.spot.omitted places s.spot.frames)),
          inl (places, (u, o, same), refl),
          record {
            good = bad ∙ k.good;
            cells = region ∙ k.cells;
            floor = floor ∙ k.floor;
            weak = weak ∙ k.weak;
            spot = subst (λ (c : List ℕ). IsAt lists (enter c s.spot.barred s.spot.omitted places s.spot.frames)
                new.track.chosen.items new.track.barred.items new.track.omitted.items new.track.frames.items)
                k.spot.chosen_is
                (subst (λ (b : List ℕ). IsAt lists (enter old.track.chosen.items b s.spot.omitted places s.spot.frames)
                new.track.chosen.items new.track.barred.items new.track.omitted.items new.track.frames.items)
                k.spot.barred_is
                (subst (λ (o : List ℕ). IsAt lists
                (enter old.track.chosen.items old.track.barred.items o places s.spot.frames)
                new.track.chosen.items new.track.barred.items new.track.omitted.items new.track.frames.items)
                k.spot.omitted_is spot));
            weighing = weighed s weighing k.weighing;
            dark = k.dark;
          },
        ));
  }

  -- a bar of a place that isn't dominated is bad
  pub bar_bad : (place by : ℕ) → (¬ IsDominatedIn lists (left_in old) old.track.chosen.items old.track.barred.items
      place by) → new.bad ≡ Some line → JudgesBar lists place by line old new
  bar_bad place by never bad = record {
    each = λ cave s known k e. (
      stuck s.line,
      inr (
        (λ d. in_state lists cave old s (λ a b c. ¬ IsDominatedIn lists a b c place by) k never
            (dominated_in cave lists known (left s) (left_dark lists cave old s k) s.spot.chosen
            (chosen_legal cave lists old s known k)
            s.spot.barred place by d)),
        refl,
      ),
      bad ∙ ap Some e,
    );
  }

  -- any other bars it
  pub bar_good : (place by : ℕ) → IsDominatedIn lists
      (left_in old) old.track.chosen.items old.track.barred.items place by
      → new.bad ≡ old.bad → new.region.items ≡ old.region.items → new.floor ≡ old.floor → new.weak ≡ old.weak
      → new.weighing ≡ old.weighing
      → new.track.chosen.items ≡ old.track.chosen.items → new.track.frames.items ≡ old.track.frames.items
      → new.track.omitted.items ≡ old.track.omitted.items
      → new.track.barred.items ≡ old.track.barred.items ++ place ∷ []
      → JudgesBar lists place by line old new
  bar_good place by d bad region floor weak weighing chosen frames omitted barred = record {
    each = λ cave s known k e. (
      at (goes_to s (record s.spot { barred = s.spot.barred ++ place ∷ [] })),
      inl (
        dominated cave lists known (left s) (left_dark lists cave old s k) s.spot.chosen
            (chosen_legal cave lists old s known k)
            s.spot.barred place by (in_state lists cave old s (λ a b c. IsDominatedIn lists a b c place by) k d),
        refl,
      ),
      record {
        good = bad ∙ k.good;
        cells = region ∙ k.cells;
        floor = floor ∙ k.floor;
        weak = weak ∙ k.weak;
        spot = record {
          chosen_is = chosen ∙ k.spot.chosen_is;
          barred_is = barred ∙ ap (λ (l : List ℕ). l ++ place ∷ []) k.spot.barred_is;
          omitted_is = omitted ∙ k.spot.omitted_is;
          fits = moved lists s.spot.frames old.track.chosen.items new.track.chosen.items
              (old.track.barred.items ++ place ∷ []) new.track.barred.items old.track.omitted.items
              new.track.omitted.items old.track.frames.items new.track.frames.items chosen barred omitted frames
              (fits_wider lists old.track.chosen.items old.track.barred.items old.track.omitted.items (place ∷ [])
              old.track.frames.items s.spot.frames k.spot.fits);
        };
        weighing = weighed s weighing k.weighing;
        dark = k.dark;
      },
    );
  }

  -- cells of which one isn't left are no omission
  pub omit_bad : (these : List ℕ) → (¬ All (Contains (left_in old)) these) → new.bad ≡ Some line
      → JudgesOmission lists these line old new
  omit_bad these never bad = record {
    each = λ cave s known k e. (
      stuck s.line,
      inr (
        (λ m. in_state lists cave old s (λ a b c. ¬ All (Contains a) these) k never m.of_them),
        refl,
      ),
      bad ∙ ap Some e,
    );
  }

  -- any others are left out
  pub omit_good : (these : List ℕ) → All (Contains (left_in old)) these
      → new.bad ≡ old.bad → new.region.items ≡ old.region.items → new.floor ≡ old.floor → new.weak ≡ old.weak
      → new.weighing ≡ old.weighing
      → new.track.chosen.items ≡ old.track.chosen.items → new.track.frames.items ≡ old.track.frames.items
      → new.track.barred.items ≡ old.track.barred.items
      → new.track.omitted.items ≡ old.track.omitted.items ++ these
      → JudgesOmission lists these line old new
  omit_good these all bad region floor weak weighing chosen frames barred omitted = record {
    each = λ cave s known k e. (
      at (goes_to s (record s.spot { omitted = s.spot.omitted ++ these })),
      inl (
        (λ some ascending. record {
          filled = some;
          ascending = ascending;
          of_them = in_state lists cave old s (λ a b c. All (Contains a) these) k all;
        }),
        refl,
      ),
      record {
        good = bad ∙ k.good;
        cells = region ∙ k.cells;
        floor = floor ∙ k.floor;
        weak = weak ∙ k.weak;
        spot = record {
          chosen_is = chosen ∙ k.spot.chosen_is;
          barred_is = barred ∙ k.spot.barred_is;
          omitted_is = omitted ∙ ap (λ (l : List ℕ). l ++ these) k.spot.omitted_is;
          fits = moved lists s.spot.frames old.track.chosen.items new.track.chosen.items
              old.track.barred.items new.track.barred.items (old.track.omitted.items ++ these)
              new.track.omitted.items old.track.frames.items new.track.frames.items chosen barred omitted frames
              (fits_less lists old.track.chosen.items old.track.barred.items old.track.omitted.items these
              old.track.frames.items s.spot.frames k.spot.fits);
        };
        weighing = weighed s weighing k.weighing;
        dark = k.dark;
      },
    );
  }

  -- a pick of a place that may not be picked is bad
  pub pick_bad : (place : ℕ) → (¬ MayBePickedIn lists old.track.chosen.items old.track.barred.items place)
      → new.bad ≡ Some line → JudgesPick lists place line old new
  pick_bad place never bad = record {
    each = λ cave s known k e. (
      stuck s.line,
      inr (
        (λ may. in_state lists cave old s (λ a b c. ¬ MayBePickedIn lists b c place) k never
            (picked_in cave lists known s.spot.chosen s.spot.barred place may)),
        refl,
      ),
      bad ∙ ap Some e,
    );
  }

  -- any other is entered
  pub pick_good : (place : ℕ) → MayBePickedIn lists old.track.chosen.items old.track.barred.items place
      → new.bad ≡ old.bad → new.region.items ≡ old.region.items → new.floor ≡ old.floor → new.weak ≡ old.weak
      → new.weighing ≡ old.weighing
      → (limit : ℕ) → limit ≡ length lists.places
      → EntersPick limit place old.track.chosen.items old.track.barred.items old.track.omitted.items
      old.track.frames.items new.track.chosen.items new.track.barred.items new.track.omitted.items
      new.track.frames.items
      → JudgesPick lists place line old new
  pick_good place may bad region floor weak weighing limit wide picks = record {
    each = λ cave s known k e.
        (let spot = picks.each lists s.spot.frames (sym wide) may.legal k.spot.fits in (
          at (goes_to s (pick_at s.spot.chosen s.spot.barred s.spot.omitted place s.spot.frames)),
          inl (
            picked cave lists known s.spot.chosen s.spot.barred place
                (in_state lists cave old s (λ a b c. MayBePickedIn lists b c place) k may),
            refl,
          ),
          record {
            good = bad ∙ k.good;
            cells = region ∙ k.cells;
            floor = floor ∙ k.floor;
            weak = weak ∙ k.weak;
            spot = subst (λ (c : List ℕ). IsAt lists (pick_at c s.spot.barred s.spot.omitted place s.spot.frames)
                new.track.chosen.items new.track.barred.items new.track.omitted.items new.track.frames.items)
                k.spot.chosen_is
                (subst (λ (b : List ℕ). IsAt lists (pick_at old.track.chosen.items b s.spot.omitted place s.spot.frames)
                new.track.chosen.items new.track.barred.items new.track.omitted.items new.track.frames.items)
                k.spot.barred_is
                (subst (λ (o : List ℕ). IsAt lists
                (pick_at old.track.chosen.items old.track.barred.items o place s.spot.frames)
                new.track.chosen.items new.track.barred.items new.track.omitted.items new.track.frames.items)
                k.spot.omitted_is spot));
            weighing = weighed s weighing k.weighing;
            dark = k.dark;
          },
        ));
  }

  -- groups that may not stand in a weighted leaf are bad
  pub weighted_bad : (groups : List Group)
      → MayNotBeWeighted lists (left_in old) old.track.chosen.items old.track.barred.items groups
      → new.bad ≡ Some line → JudgesWeighted lists groups line old new
  weighted_bad groups never bad = record {
    each = λ cave s known k nothing. (
      stuck line,
      inr (
        not_weighted cave lists known (left s) (left_dark lists cave old s k) s.spot.chosen
            (chosen_legal cave lists old s known k) s.spot.barred groups
            (in_state lists cave old s (λ a b c. MayNotBeWeighted lists a b c groups) k never),
        refl,
      ),
      bad,
    );
  }

  -- any others are judged
  pub weighted_good : (groups : List Group)
      → MayBeWeighted lists (left_in old) old.track.chosen.items old.track.barred.items groups
      → new.bad ≡ old.bad → new.region.items ≡ old.region.items → new.floor ≡ old.floor
      → new.weighing ≡ old.weighing
      → new.weak ≡ option_or old.weak (if nat_lt (length old.track.chosen.items + places_for_all groups) old.floor
      then Some line else None)
      → (limit : ℕ) → limit ≡ length lists.places
      → ClosesFrames limit old.track.chosen.items old.track.barred.items old.track.omitted.items
      old.track.frames.items new.track.chosen.items new.track.barred.items new.track.omitted.items
      new.track.frames.items
      → JudgesWeighted lists groups line old new
  weighted_good groups may bad region floor weighing weak limit wide closes = record {
    each = λ cave s known k nothing. (
      at (after_groups s groups line),
      inl (
        (λ are. is_weighted cave lists known (left s) (left_dark lists cave old s k) s.spot.chosen
            (chosen_legal cave lists old s known k) s.spot.barred groups are
            (in_state lists cave old s (λ a b c. MayBeWeighted lists a b c groups) k may)),
        refl,
      ),
      record {
        good = bad ∙ k.good;
        cells = region ∙ k.cells;
        floor = floor ∙ k.floor;
        weak = weak ∙ weak_same old (places_for_all groups) line line s k.weak
            (ap length k.spot.chosen_is) k.floor refl;
        spot = closes.each lists s.spot.frames (sym wide) k.spot.fits;
        weighing = weighed_on old.weighing new.weighing idle weighing nothing;
        dark = k.dark;
      },
    );
  }
