-- The places that light each dark cell, and the dark cells that each place lights.
use Rattle.std.proofs.Common.{◌≡◌, ◌≢◌, ℕ, ◌+◌, ◌<◌, ◌≤◌, Bool, List, [], ◌∷◌, ◌++◌, length, Contains, sym, ap}
use Rattle.std.proofs.Common.{subst, ◌∙◌, refl, inl, inr, arith}
use Rattle.std.specs.Prelude.{◌↔◌, filter}
use Rattle.std.proofs.lemmas.Bool.{cases_lt}
use Rattle.std.proofs.lemmas.List.{get_or_append_left, get_or_push, get_or_past, length_push}
use Rattle.std.proofs.lemmas.List.Kept.{AllPairs-filter}
use Rattle.cave_base.specs.Box.{cell_count}
use Rattle.cave_model.specs.Cave.{Cave}
use Rattle.cave_model.specs.Plan.{AreDistinct}
use Rattle.cave_model.specs.Spawn.{IsDark}
use Rattle.cave_model.specs.Torches.{IsPlace}
use Rattle.lit_lists.specs.Lists.{AreLights, AreMarksOf, ArePairsOf, ArePlacesOf, IsPair, is_marked, row_at}
use Rattle.lit_lists.specs.Reached.{AreReached, IsLightBack}
use Rattle.cave_model.specs.Parts.{parts}
use Rattle.lit_lists.specs.Rows.{AreOfOneBox, AreTurned, AreWhole}
use Rattle.lit_lists.proofs.KeptLemmas.{kept}
use Rattle.lit_lists.proofs.PairLemmas.{marked_inside, rising_distinct}
use Rattle.lit_lists.proofs.PartLemmas.{parts_more, whole_more, whole_none}

-- ---- the places that light a cell

-- before the first cell there is no list
pub places_none : (cave : Cave) → ArePlacesOf cave 0 []
places_none cave = record {
  whole = refl;
  exact = λ place cell. (λ h. absurd (omega (arith, h.1)), λ b. absurd (omega (arith, b.0)));
  once = λ cell. λ i j d lt h. absurd (omega (arith, h));
}

-- these are the places that light the cell, where it is dark, each once
pub record IsRowOf (cave : Cave) (cell : ℕ) (row : List ℕ) : Type 0 where
  pub exact : (place : ℕ) → Contains row place ↔ IsPair cave place cell
  pub once : AreDistinct row

-- none light a cell that isn't dark
pub row_light : (cave : Cave) (cell : ℕ) → (¬ IsDark cave cell) → IsRowOf cave cell []
row_light cave cell never = record {
  exact = λ place. (λ h. absurd (omega (arith, h.1)), λ p. absurd (never p.dark));
  once = λ i j d lt h. absurd (omega (arith, h));
}

-- those light a dark cell that its light on its way back reaches
pub row_dark : (cave : Cave) (cell light : ℕ) (marks : List Bool) (cells : List ℕ) → IsDark cave cell
    → AreMarksOf (cell_count cave.size) (IsPlace cave) marks
    → IsLightBack cave cell light → AreReached cave cell light cells
    → IsRowOf cave cell (filter (is_marked marks) cells)
row_dark cave cell light marks cells dark places back r = record {
  exact = λ place. (
    λ h. (let b = (kept (is_marked marks) cells place).0 h in let at = (places.exact place).0 b.1 in
        record { legal = at; dark = dark; lights = (back.exact place at).1 ((r.exact place).0 b.0) }),
    λ p. (kept (is_marked marks) cells place).1
        ((r.exact place).1 ((back.exact place p.legal).0 p.lights), (places.exact place).1 p.legal),
  );
  once = AllPairs-filter (λ a b. a ≢ b) (is_marked marks) cells r.once;
}

-- a list more
module _ (cave : Cave) (count : ℕ) (rows : List (List ℕ)) (row : List ℕ) (s : ArePlacesOf cave count rows)
    (here : IsRowOf cave count row) where
  before : (cell : ℕ) → cell < count → row_at (rows ++ row ∷ []) cell ≡ row_at rows cell
  before cell h = get_or_append_left rows (row ∷ []) [] cell (omega (arith, s.whole))

  last : (cell : ℕ) → cell ≡ count → row_at (rows ++ row ∷ []) cell ≡ row
  last cell e = get_or_push rows row [] cell (s.whole ∙ sym e)

  past : (cell : ℕ) → count + 1 ≤ cell → row_at (rows ++ row ∷ []) cell ≡ []
  past cell h = get_or_past (rows ++ row ∷ []) cell [] (omega (arith, length_push rows row, s.whole))

  exact_more : (place cell : ℕ) → Contains (row_at (rows ++ row ∷ []) cell) place
      ↔ ((cell < count + 1) × IsPair cave place cell)
  exact_more place cell = elim (cases_lt cell count) [
    | inl lt ↦ (
      λ h. (let b = (s.exact place cell).0 (subst (λ (l : List ℕ). Contains l place) (before cell lt) h) in
          (omega arith, b.1)),
      λ b. subst (λ (l : List ℕ). Contains l place) (sym (before cell lt)) ((s.exact place cell).1 (lt, b.1)),
    )
    | inr le ↦ elim (cases_lt count cell) [
      | inl gt ↦ (
        λ h. (let none : Contains [] place = subst (λ (l : List ℕ). Contains l place) (past cell (omega arith)) h in
            absurd (omega (arith, none.1))),
        λ b. absurd (omega (arith, b.0)),
      )
      | inr ge ↦ (let e : cell ≡ count = omega arith in (
        λ h. (
          omega arith,
          subst (IsPair cave place) (sym e)
              ((here.exact place).0 (subst (λ (l : List ℕ). Contains l place) (last cell e) h)),
        ),
        λ b. subst (λ (l : List ℕ). Contains l place) (sym (last cell e))
            ((here.exact place).1 (subst (IsPair cave place) e b.1)),
      ))
    ]
  ]

  once_more : (cell : ℕ) → AreDistinct (row_at (rows ++ row ∷ []) cell)
  once_more cell = elim (cases_lt cell count) [
    | inl lt ↦ subst AreDistinct (sym (before cell lt)) (s.once cell)
    | inr le ↦ elim (cases_lt count cell) [
      | inl gt ↦ subst AreDistinct (sym (past cell (omega arith))) (λ i j d lt h. absurd (omega (arith, h)))
      | inr ge ↦ subst AreDistinct (sym (last cell (omega arith))) here.once
    ]
  ]

  pub places_more : ArePlacesOf cave (count + 1) (rows ++ row ∷ [])
  places_more = record {
    whole = length_push rows row ∙ ap (λ (n : ℕ). n + 1) s.whole;
    exact = exact_more;
    once = once_more;
  }

-- ---- the dark cells that a place lights

-- these lists are of one box
pub places_boxed : (cave : Cave) (marks : List Bool) (rows : List (List ℕ))
    → AreMarksOf (cell_count cave.size) (IsPlace cave) marks → ArePlacesOf cave (cell_count cave.size) rows
    → AreOfOneBox rows
places_boxed cave marks rows places s = record {
  inside = λ cell place h. subst (λ (n : ℕ). place < n) (sym s.whole)
      (marked_inside cave (IsPlace cave) marks place places ((s.exact place cell).0 h).1.legal);
  once = s.once;
}

-- turned, they are those of the dark cells that each place lights
pub places_turned : (cave : Cave) (marks : List Bool) (rows turned : List (List ℕ))
    → AreMarksOf (cell_count cave.size) (IsDark cave) marks → ArePlacesOf cave (cell_count cave.size) rows
    → length turned ≡ length rows → AreTurned rows turned → AreLights cave turned
places_turned cave marks rows turned dark s whole t = record {
  whole = whole ∙ s.whole;
  exact = λ place cell. (
    λ h. ((s.exact place cell).0 ((t.exact place cell).0 h)).1,
    λ p. (t.exact place cell).1
        ((s.exact place cell).1 (marked_inside cave (IsDark cave) marks cell dark p.dark, p)),
  );
  ascending = t.ascending;
}

-- these are of one box too
pub lights_boxed : (cave : Cave) (dark : List Bool) (rows : List (List ℕ))
    → AreMarksOf (cell_count cave.size) (IsDark cave) dark → AreLights cave rows → AreOfOneBox rows
lights_boxed cave dark rows d s = record {
  inside = λ place cell h. subst (λ (n : ℕ). cell < n) (sym s.whole)
      (marked_inside cave (IsDark cave) dark cell d ((s.exact place cell).0 h).dark);
  once = λ place. rising_distinct (row_at rows place) (s.ascending place);
}

-- with the lists the other way round they are the pairs of the cave
pub pairs_turned : (cave : Cave) (lights lit_by : List (List ℕ)) → AreLights cave lights → AreTurned lights lit_by
    → ArePairsOf cave (record { lights = lights; lit_by = lit_by })
pairs_turned cave lights lit_by s t = record {
  lights = s.exact;
  lit_by = λ place cell. (
    λ h. (s.exact place cell).0 ((t.exact cell place).0 h),
    λ p. (t.exact cell place).1 ((s.exact place cell).1 p),
  );
  ascending = t.ascending;
}

-- ---- the lists of the places, one after another

-- the lists so far, in one list
pub record ArePlaced (cave : Cave) (count : ℕ) (starts found : List ℕ) : Type 0 where
  pub whole : AreWhole starts found
  pub placed : ArePlacesOf cave count (parts starts found)

-- before the first cell none is found
pub placed_none : (cave : Cave) (starts found : List ℕ) → starts ≡ 0 ∷ [] → found ≡ [] → ArePlaced cave 0 starts found
placed_none cave starts found first none = rw (first, none)
    (record { whole = whole_none; placed = places_none cave })

-- a list more
pub placed_more : (cave : Cave) (count : ℕ) (starts found more next all : List ℕ) → ArePlaced cave count starts found
    → IsRowOf cave count more → all ≡ found ++ more → next ≡ starts ++ length all ∷ []
    → ArePlaced cave (count + 1) next all
placed_more cave count starts found more next all s here e grown =
    let begun : next ≡ starts ++ length (found ++ more) ∷ [] =
    grown ∙ ap (λ (l : List ℕ). starts ++ length l ∷ []) e in
    rw (begun, e) (record {
      whole = whole_more starts found more s.whole;
      placed = subst (ArePlacesOf cave (count + 1)) (sym (parts_more starts found more s.whole))
          (places_more cave count (parts starts found) more s.placed here);
    })
