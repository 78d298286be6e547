-- An accepted certificate names the fewest torches.
use Rattle.std.proofs.Common.{◌≡◌, ℕ, suc, ◌≤◌, IsTrue, List, [], ◌∷◌, ◌++◌, length, All, Contains, map, refl, sym}
use Rattle.std.proofs.Common.{ap, subst, ◌∙◌, arith, inl, inr, length-append}
use Rattle.std.specs.Prelude.{slice_index_or}
use Rattle.std.proofs.lemmas.List.Elements.{All-head, All-tail, All-cons, Contains-append_cases, Contains-append_left}
use Rattle.std.proofs.lemmas.List.Elements.{Contains-append_right}
use Rattle.cave_model.specs.Cave.{Cave, IsSound}
use Rattle.cave_model.specs.Torches.{is_legal, IsPlace, Lights}
use Rattle.cave_model.specs.Plan.{Torch, cells_of, AreDistinct, AreLegal, IsSafe}
use Rattle.cave_model.specs.Regions.{all_cells}
use Rattle.cave_model.proofs.TorchLemmas.{safe_covers, cover_is_safe}
use Rattle.cave_model.specs.Coverage.{of_cave}
use Rattle.cave_model.specs.Coverage.{IsLitBy}
use Rattle.proof_rules.specs.Good.{Good}
use Rattle.proof_rules.specs.Certificate.{Section, Certificate, torches_of}
use Rattle.proof_rules.proofs.ListLemmas.{no_member, cons_cases, later, here, has_or_not, distinct_nil, distinct_cons}
use Rattle.proof_rules.proofs.ListLemmas.{distinct_append, no_more}
use Rattle.proof_rules.proofs.BoundLemmas.{bounds}
use Rattle.proof_check.specs.Accepted.{AreProved, Accepts, IsBestPlan}

-- ---- hanging

-- at each of some places a torch can be hung
pub hung : (cave : Cave) (cells : List ℕ) → All (IsPlace cave) cells
    → (torches : List Torch) × (cells_of torches ≡ cells) × AreLegal cave torches
hung cave [] h = ([], refl, λ k d lt. absurd (omega arith))
hung cave (cell ∷ cells) h =
    let rest = hung cave cells (All-tail (IsPlace cave) cell cells h) in
    let first = All-head (IsPlace cave) cell cells h in
    let torch : Torch = record { cell = cell; hang = first.0 } in (
      torch ∷ rest.0,
      ap (λ (l : List ℕ). cell ∷ l) rest.1,
      All-cons (λ (t : Torch). IsTrue (is_legal cave t.cell t.hang)) torch rest.0 first.1 rest.2,
    )

-- as many cells as torches
pub length-cells : (torches : List Torch) → length (cells_of torches) ≡ length torches
length-cells [] = refl
length-cells (t ∷ ts) = ap suc (length-cells ts)

-- the cells of legal torches are places
legal_places : (cave : Cave) (torches : List Torch) → AreLegal cave torches → (p : ℕ) → Contains (cells_of torches) p
    → IsPlace cave p
legal_places cave [] h p c = no_member p c
legal_places cave (t ∷ ts) h p c = elim (cons_cases t.cell (cells_of ts) p c) [
  | inl e ↦ subst (IsPlace cave) e
      (t.hang, All-head (λ (torch : Torch). IsTrue (is_legal cave torch.cell torch.hang)) t ts h)
  | inr c ↦ legal_places cave ts (All-tail (λ (torch : Torch). IsTrue (is_legal cave torch.cell torch.hang)) t ts h) p c
]

-- ---- one region

-- of these places, some that light the cells, each of them one
pub record Picks (cave : Cave) (places cells picked : List ℕ) : Type 0 where
  pub distinct : AreDistinct picked
  pub inside : (p : ℕ) → Contains picked p → Contains places p
  pub lighting : (p : ℕ) → Contains picked p → (cell : ℕ) × Contains cells cell × Lights cave p cell
  pub covers : (cell : ℕ) → Contains cells cell → IsLitBy (of_cave cave) picked cell

-- of places that light all cells, some can be picked that light them, each at least one
pub pick : (cave : Cave) (places cells : List ℕ)
    → ((cell : ℕ) → Contains cells cell → IsLitBy (of_cave cave) places cell)
    → (picked : List ℕ) × Picks cave places cells picked
pick cave places [] lit = (
  [],
  record {
    distinct = distinct_nil;
    inside = λ p h. no_member p h;
    lighting = λ p h. no_member p h;
    covers = λ c h. no_member c h;
  },
)
pick cave places (c ∷ cs) lit =
    let t = pick cave places cs (λ x h. lit x (later c cs x h)) in
    let by = lit c (here c cs) in
    elim (has_or_not t.0 by.0) [
      | inl has ↦ (
        t.0,
        record {
          distinct = t.1.distinct;
          inside = t.1.inside;
          lighting = λ p h. (let l = t.1.lighting p h in (l.0, later c cs l.0 l.1, l.2));
          covers = λ x h. elim (cons_cases c cs x h) [
            | inl e ↦ (by.0, has, subst (λ (y : ℕ). Lights cave by.0 y) e by.2)
            | inr h ↦ t.1.covers x h
          ];
        },
      )
      | inr new ↦ (
        by.0 ∷ t.0,
        record {
          distinct = distinct_cons by.0 t.0 new t.1.distinct;
          inside = λ p h. elim (cons_cases by.0 t.0 p h) [
            | inl e ↦ subst (Contains places) e by.1
            | inr h ↦ t.1.inside p h
          ];
          lighting = λ p h. elim (cons_cases by.0 t.0 p h) [
            | inl e ↦ (c, here c cs, subst (λ (q : ℕ). Lights cave q c) e by.2)
            | inr h ↦ (let l = t.1.lighting p h in (l.0, later c cs l.0 l.1, l.2))
          ];
          covers = λ x h. elim (cons_cases c cs x h) [
            | inl e ↦ (by.0, here by.0 t.0, subst (λ (y : ℕ). Lights cave by.0 y) e by.2)
            | inr h ↦ (let l = t.1.covers x h in (l.0, later by.0 t.0 l.0 l.1, l.2))
          ];
        },
      )
    ]

-- ---- all regions

-- no place lights a cell of one and a cell of the others
pub record IsApart (cave : Cave) (cells others : List ℕ) : Type 0 where
  pub apart : (place a b : ℕ) → IsPlace cave place → Lights cave place a → Lights cave place b → Contains cells a
      → ¬ Contains others b

abbrev pub cells_in : List Section → List ℕ
cells_in sections = all_cells (map (λ section. section.cells) sections)

abbrev pub AreApart : Cave → List Section → Type 0
AreApart cave [] = Unit {0}
AreApart cave (s ∷ ss) = IsApart cave s.cells (cells_in ss) × AreApart cave ss

-- distinct ones of these places, as many as there are torches
pub record PicksAll (cave : Cave) (places : List ℕ) (sections : List Section) (picked : List ℕ) : Type 0 where
  pub distinct : AreDistinct picked
  pub inside : (p : ℕ) → Contains picked p → Contains places p
  pub lighting : (p : ℕ) → Contains picked p → (cell : ℕ) × Contains (cells_in sections) cell × Lights cave p cell
  pub many : length (torches_of sections) ≤ length picked

-- of places that light all regions, distinct ones can be picked, at least as many as there are torches
pub pick_all : (cave : Cave) (places : List ℕ) (sections : List Section)
    → ((p : ℕ) → Contains places p → IsPlace cave p)
    → ((cell : ℕ) → Contains (cells_in sections) cell → IsLitBy (of_cave cave) places cell)
    → AreApart cave sections → AreProved cave (λ section. length section.torches) sections
    → (picked : List ℕ) × PicksAll cave places sections picked
pick_all cave places [] legal lit apart good = (
  [],
  record {
    distinct = distinct_nil;
    inside = λ p h. no_member p h;
    lighting = λ p h. no_member p h;
    many = omega arith;
  },
)
pick_all cave places (s ∷ ss) legal lit apart good =
    let rest = pick_all cave places ss legal (λ c h. lit c (Contains-append_right s.cells (cells_in ss) c h))
    apart.1 (All-tail (λ (s : Section). Good (of_cave cave) s.cells [] [] (length s.torches) s.tree) s ss good) in
    let one = pick cave places s.cells (λ c h. lit c (Contains-append_left s.cells (cells_in ss) c h)) in
    let bound : length s.torches ≤ length one.0 = bounds (of_cave cave) s.cells [] [] s.tree (length s.torches)
    one.0 distinct_nil
    (All-head (λ (s : Section). Good (of_cave cave) s.cells [] [] (length s.torches) s.tree) s ss good)
    (record {
      distinct = one.1.distinct;
      legal = λ p h. legal p (one.1.inside p h);
      covers = one.1.covers;
      holds = λ p h. no_member p h;
      avoids = λ p h. no_member p h;
    }) in (
      one.0 ++ rest.0,
      record {
        distinct = distinct_append one.0 rest.0 one.1.distinct rest.1.distinct (λ p h g.
            (let a = one.1.lighting p h in let b = rest.1.lighting p g in
            apart.0.apart p a.0 b.0 (legal p (one.1.inside p h)) a.2 b.2 a.1 b.1));
        inside = λ p h. elim (Contains-append_cases one.0 rest.0 p h) [
          | inl h ↦ one.1.inside p h
          | inr h ↦ rest.1.inside p h
        ];
        lighting = λ p h. elim (Contains-append_cases one.0 rest.0 p h) [
          | inl h ↦ (let l = one.1.lighting p h in (l.0, Contains-append_left s.cells (cells_in ss) l.0 l.1, l.2))
          | inr h ↦ (let l = rest.1.lighting p h in (l.0, Contains-append_right s.cells (cells_in ss) l.0 l.1, l.2))
        ];
        many = omega (arith, rest.1.many, length-append s.torches (torches_of ss), length-append one.0 rest.0);
      },
    )

-- ---- regions are apart

-- a cell of some lists stands in one of them
which : (regions : List (List ℕ)) (cell : ℕ) → Contains (all_cells regions) cell
    → (i : ℕ) × Contains (slice_index_or regions i []) cell
which [] cell h = no_member cell h
which (r ∷ rs) cell h = elim (Contains-append_cases r (all_cells rs) cell h) [
  | inl h ↦ (0, h)
  | inr h ↦ (let w = which rs cell h in (suc w.0, w.1))
]

abbrev IsApartBy : Cave → List (List ℕ) → Type 0
IsApartBy cave regions = (place a b i j : ℕ) → IsPlace cave place → Lights cave place a → Lights cave place b
    → Contains (slice_index_or regions i []) a → Contains (slice_index_or regions j []) b → i ≡ j

-- regions of which no place lights two are apart from each other
pub are_apart : (cave : Cave) (sections : List Section) → IsApartBy cave (map (λ section. section.cells) sections)
    → AreApart cave sections
are_apart cave [] h = tt
are_apart cave (s ∷ ss) h = (
  record {
    apart = λ p a b l x y ha hb. (let w = which (map (λ (s : Section). s.cells) ss) b hb in
        let same : 0 ≡ suc w.0 = h p a b 0 (suc w.0) l x y ha w.1 in absurd (omega arith));
  },
  are_apart cave ss (λ p a b i j l x y ha hb.
      (let same : suc i ≡ suc j = h p a b (suc i) (suc j) l x y ha hb in omega arith)),
)

-- ---- the law

-- the torches of an accepted certificate are a best plan of a sound cave
pub best_plan : (cave : Cave) (bytes : List ℕ) (certificate : Certificate) → IsSound cave
    → Accepts cave bytes certificate → IsBestPlan cave (torches_of certificate.sections)
best_plan cave bytes certificate sound a =
    let cells = torches_of certificate.sections in
    let p = a.proves in
    let t = hung cave cells p.places.legal in
    let safe : IsSafe cave t.0 = cover_is_safe cave t.0 sound (record {
      legal = t.2;
      distinct = subst AreDistinct (sym t.1) p.places.distinct;
      covered = λ c dark. subst (λ (places : List ℕ). IsLitBy (of_cave cave) places c) (sym t.1) (p.lit c dark);
    }) in
    record {
      hung = (t.0, t.1, safe);
      fewest = record {
        enough = (t.0, safe, sym (length-cells t.0) ∙ ap length t.1);
        least = λ others safe. (let cover = safe_covers cave others sound safe in
            let picked = pick_all cave (cells_of others) certificate.sections (legal_places cave others cover.legal)
            (λ c h. cover.covered c ((p.regions.exact c).0 h))
            (are_apart cave certificate.sections p.regions.apart) p.trees in
            let few : length picked.0 ≤ length (cells_of others) =
            no_more picked.0 (cells_of others) picked.1.distinct picked.1.inside in
            omega (arith, picked.1.many, length-cells others));
      };
    }
