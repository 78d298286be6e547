-- Covers of all regions together, and what bounds them.
use Rattle.std.proofs.Common.{◌≡◌, ℕ, suc, ◌≤◌, IsTrue, List, [], ◌∷◌, ◌++◌, length, get_or, All, Contains, map, sym}
use Rattle.std.proofs.Common.{subst, arith, inl, inr, length-append}
use Rattle.std.specs.Prelude.{slice_index_or, unwrap_or}
use Rattle.std.specs.List.Sorted.{IsStrictlyIncreasing}
use Rattle.std.proofs.lemmas.List.Elements.{All-head, All-tail, All-map, Contains-append_cases}
use Rattle.std.proofs.lemmas.List.Elements.{Contains-append_left, Contains-append_right}
use Rattle.std.proofs.lemmas.List.Kept.{AllPairs-from_increasing}
use Rattle.cave_model.specs.Cave.{Cave, IsSound}
use Rattle.cave_model.specs.Coverage.{of_cave, IsLitBy, IsPlaceOf}
use Rattle.cave_model.specs.Torches.{is_legal, hang_of, IsPlace, Lights}
use Rattle.cave_model.specs.Plan.{Torch, cells_of, hung, AreDistinct, AreLegal, IsSafe}
use Rattle.cave_model.specs.declared.hang.Hang.TheVariants.{Floor}
use Rattle.cave_model.specs.Regions.{all_cells}
use Rattle.cave_model.specs.Spawn.{IsDark}
use Rattle.cave_model.proofs.PlaceLemmas.{legal_hang}
use Rattle.cave_model.proofs.TorchLemmas.{safe_covers, cover_is_safe}
use Rattle.cave_problem.proofs.CoverLemmas.{cells_hung}
use Rattle.set_cover.specs.Instance.{of_instance}
use Rattle.proof_rules.proofs.ListLemmas.{no_member, cons_cases, all_members, at_member, distinct_nil}
use Rattle.proof_rules.proofs.ListLemmas.{distinct_append, no_more}
use Rattle.proof_check.proofs.FewestLemmas.{pick, length-cells}
use Rattle.cave_plan.specs.Bounded.{Bounded, IsBoundedIn, AreBoundedIn, AreInOrder, IsPlanWithin, all_torches}
use Rattle.cave_plan.specs.Bounded.{total_floor}

-- the cells of legal torches are places
pub legal_places : (cave : Cave) (torches : List Torch) → AreLegal cave torches → (p : ℕ)
    → Contains (cells_of torches) p → IsPlace cave p
legal_places cave [] h p c = no_member p c
legal_places cave (t ∷ ts) h p c = elim (cons_cases t.cell (cells_of ts) p c) [
  | inl e ↦ subst (IsPlace cave) e
      (t.hang, All-head (λ (torch : Torch). IsTrue (is_legal cave torch.cell torch.hang)) t ts h)
  | inr c ↦ legal_places cave ts (All-tail (λ (torch : Torch). IsTrue (is_legal cave torch.cell torch.hang)) t ts h) p c
]

abbrev pub cells_in : List Bounded → List ℕ
cells_in parts = all_cells (map (λ part. part.region.cells) parts)

-- no place lights a cell of one and a cell of those after it
abbrev pub ArePartsApart : Cave → List Bounded → Type 0
ArePartsApart cave [] = Unit {0}
ArePartsApart cave (p ∷ ps) = ((place a b : ℕ) → IsPlace cave place → Lights cave place a → Lights cave place b
    → Contains p.region.cells a → ¬ Contains (cells_in ps) b) × ArePartsApart cave ps

-- a cell of some lists stands in one of them
which : (regions : List (List ℕ)) (cell : ℕ) → Contains (all_cells regions) cell
    → (i : ℕ) × Contains (slice_index_or regions i []) cell
which [] cell h = no_member cell h
which (r ∷ rs) cell h = elim (Contains-append_cases r (all_cells rs) cell h) [
  | inl h ↦ (0, h)
  | inr h ↦ (let w = which rs cell h in (suc w.0, w.1))
]

abbrev IsApartBy : Cave → List (List ℕ) → Type 0
IsApartBy cave regions = (place a b i j : ℕ) → IsPlace cave place → Lights cave place a → Lights cave place b
    → Contains (slice_index_or regions i []) a → Contains (slice_index_or regions j []) b → i ≡ j

-- regions of which no place lights two are apart from each other
pub are_apart : (cave : Cave) (parts : List Bounded) → IsApartBy cave (map (λ part. part.region.cells) parts)
    → ArePartsApart cave parts
are_apart cave [] h = tt
are_apart cave (s ∷ ss) h = (
  (λ p a b l x y ha hb. (let w = which (map (λ (part : Bounded). part.region.cells) ss) b hb in
      let same : 0 ≡ suc w.0 = h p a b 0 (suc w.0) l x y ha w.1 in absurd (omega arith))),
  are_apart cave ss (λ p a b i j l x y ha hb.
      (let same : suc i ≡ suc j = h p a b (suc i) (suc j) l x y ha hb in omega arith)),
)

-- ---- torches of all parts

-- each torch is a legal place that lights a cell of its part
lights_its : (cave : Cave) (part : Bounded) → IsBoundedIn cave part → (p : ℕ) → Contains part.torches p
    → IsPlace cave p × (cell : ℕ) × Contains part.region.cells cell × Lights cave p cell
lights_its cave part is p h =
    let of_it = at_member (IsPlaceOf (of_instance part.region) part.region.cells) part.torches p is.cover.of_it h in
    (is.agrees.wider p of_it.0, of_it.1, of_it.2, is.agrees.there p of_it.1 of_it.2 of_it.0 of_it.3)

pub record AreTorches (cave : Cave) (parts : List Bounded) : Type 0 where
  pub distinct : AreDistinct (all_torches parts)
  pub legal : (p : ℕ) → Contains (all_torches parts) p → IsPlace cave p
  pub lighting : (p : ℕ) → Contains (all_torches parts) p
      → (cell : ℕ) × Contains (cells_in parts) cell × Lights cave p cell
  pub covers : (cell : ℕ) → Contains (cells_in parts) cell → IsLitBy (of_cave cave) (all_torches parts) cell

-- the covers of regions that are apart are torches of the cave
pub torches_are : (cave : Cave) (parts : List Bounded) → All (IsBoundedIn cave) parts → ArePartsApart cave parts
    → AreTorches cave parts
torches_are cave [] all apart =
    record {
      distinct = distinct_nil;
      legal = λ p h. no_member p h;
      lighting = λ p h. no_member p h;
      covers = λ c h. no_member c h;
    }
torches_are cave (s ∷ ss) all apart =
    let one : IsBoundedIn cave s = All-head (IsBoundedIn cave) s ss all in
    let rest = torches_are cave ss (All-tail (IsBoundedIn cave) s ss all) apart.1 in
    record {
      distinct = distinct_append s.torches (all_torches ss) one.cover.distinct rest.distinct (λ p h g.
          (let a = lights_its cave s one p h in let b = rest.lighting p g in apart.0 p a.1 b.0 a.0 a.3 b.2 a.2 b.1));
      legal = λ p h. elim (Contains-append_cases s.torches (all_torches ss) p h) [
        | inl h ↦ (lights_its cave s one p h).0
        | inr h ↦ rest.legal p h
      ];
      lighting = λ p h. elim (Contains-append_cases s.torches (all_torches ss) p h) [
        | inl h ↦ (let a = lights_its cave s one p h in
            (a.1, Contains-append_left s.region.cells (cells_in ss) a.1 a.2, a.3))
        | inr h ↦ (let b = rest.lighting p h in (b.0, Contains-append_right s.region.cells (cells_in ss) b.0 b.1, b.2))
      ];
      covers = λ c h. elim (Contains-append_cases s.region.cells (cells_in ss) c h) [
        | inl h ↦ (let by = one.cover.covers c h in
            let place = (at_member (IsPlaceOf (of_instance s.region) s.region.cells)
            s.torches by.0 one.cover.of_it by.1).0 in
            (by.0, Contains-append_left s.torches (all_torches ss) by.0 by.1, one.agrees.there by.0 c h place by.2))
        | inr h ↦ (let by = rest.covers c h in (by.0, Contains-append_right s.torches (all_torches ss) by.0 by.1, by.2))
      ];
    }

-- ---- what bounds them

-- distinct ones of these places, at least as many as all floors
pub record PicksAll (cave : Cave) (places : List ℕ) (parts : List Bounded) (picked : List ℕ) : Type 0 where
  pub distinct : AreDistinct picked
  pub inside : (p : ℕ) → Contains picked p → Contains places p
  pub lighting : (p : ℕ) → Contains picked p → (cell : ℕ) × Contains (cells_in parts) cell × Lights cave p cell
  pub many : total_floor parts ≤ length picked

-- of places that light all regions, distinct ones can be picked, at least as many as the floors together
pub pick_all : (cave : Cave) (places : List ℕ) (parts : List Bounded) → ((p : ℕ) → Contains places p → IsPlace cave p)
    → ((cell : ℕ) → Contains (cells_in parts) cell → IsLitBy (of_cave cave) places cell)
    → ArePartsApart cave parts → All (IsBoundedIn cave) parts
    → (picked : List ℕ) × PicksAll cave places parts picked
pick_all cave places [] legal lit apart all = (
  [],
  record {
    distinct = distinct_nil;
    inside = λ p h. no_member p h;
    lighting = λ p h. no_member p h;
    many = omega arith;
  },
)
pick_all cave places (s ∷ ss) legal lit apart all =
    let rest = pick_all cave places ss legal (λ c h. lit c (Contains-append_right s.region.cells (cells_in ss) c h))
    apart.1 (All-tail (IsBoundedIn cave) s ss all) in
    let is : IsBoundedIn cave s = All-head (IsBoundedIn cave) s ss all in
    let one = pick cave places s.region.cells (λ c h. lit c (Contains-append_left s.region.cells (cells_in ss) c h)) in
    let bound : s.floor ≤ length one.0 = is.none_below one.0 (record {
      distinct = one.1.distinct;
      legal = all_members ((of_instance s.region).Place)
          one.0 (λ p h. (let l = one.1.lighting p h in (is.agrees.back p l.0 l.1 (legal p (one.1.inside p h)) l.2).0));
      covers = λ c h. (let by = one.1.covers c h in
          (by.0, by.1, (is.agrees.back by.0 c h (legal by.0 (one.1.inside by.0 by.1)) by.2).1));
      holds = λ k d h. absurd (omega arith);
      avoids = λ k d h. absurd (omega arith);
    }) in (
      one.0 ++ rest.0,
      record {
        distinct = distinct_append one.0 rest.0 one.1.distinct rest.1.distinct (λ p h g.
            (let a = one.1.lighting p h in let b = rest.1.lighting p g in
            apart.0 p a.0 b.0 (legal p (one.1.inside p h)) a.2 b.2 a.1 b.1));
        inside = λ p h. elim (Contains-append_cases one.0 rest.0 p h) [
          | inl h ↦ one.1.inside p h
          | inr h ↦ rest.1.inside p h
        ];
        lighting = λ p h. elim (Contains-append_cases one.0 rest.0 p h) [
          | inl h ↦ (let l = one.1.lighting p h in
              (l.0, Contains-append_left s.region.cells (cells_in ss) l.0 l.1, l.2))
          | inr h ↦ (let l = rest.1.lighting p h in
              (l.0, Contains-append_right s.region.cells (cells_in ss) l.0 l.1, l.2))
        ];
        many = omega (arith, bound, rest.1.many, length-append one.0 rest.0);
      },
    )

-- ---- the laws

-- ascending cells are distinct
rising_distinct : (cells : List ℕ) → IsStrictlyIncreasing cells → AreDistinct cells
rising_distinct cells up = λ i j d lt h e.
    (let less = AllPairs-from_increasing cells up i j d lt h in omega (arith, less, e))

-- hung each by its first legal hang, torches at places are legal
pub hung_legal : (cave : Cave) (cells : List ℕ) → All (IsPlace cave) cells → AreLegal cave (hung cave cells)
hung_legal cave cells places = All-map (λ (torch : Torch). IsTrue (is_legal cave torch.cell torch.hang))
    (λ place. record { cell = place; hang = unwrap_or (hang_of cave place) Floor }) cells
    (λ i d lt. legal_hang cave (get_or cells i d) (places i d lt))

-- hung so, distinct places that light each dark cell are safe torches
pub hung_safe : (cave : Cave) (cells : List ℕ) → IsSound cave → All (IsPlace cave) cells → AreDistinct cells
    → ((cell : ℕ) → IsDark cave cell → IsLitBy (of_cave cave) cells cell) → IsSafe cave (hung cave cells)
hung_safe cave cells sound places distinct lit = cover_is_safe cave (hung cave cells) sound (record {
  legal = hung_legal cave cells places;
  distinct = subst AreDistinct (sym (cells_hung cave cells)) distinct;
  covered = λ c dark. subst (λ (l : List ℕ). IsLitBy (of_cave cave) l c) (sym (cells_hung cave cells)) (lit c dark);
})

-- the torches of all parts are safe, and no safe torches are fewer than the floors together
pub plan_within : (cave : Cave) (parts : List Bounded) (cells : List ℕ) → IsSound cave → AreBoundedIn cave parts
    → AreInOrder parts cells → IsPlanWithin cave cells (total_floor parts)
plan_within cave parts cells sound are order =
    let apart = are_apart cave parts are.regions.apart in
    let torches = torches_are cave parts are.each apart in
    record {
      safe = hung_safe cave cells sound
          (all_members (IsPlace cave) cells (λ p h. torches.legal p ((order.exact p).0 h)))
          (rising_distinct cells order.ascending)
          (λ c dark. (let by = torches.covers c ((are.regions.exact c).1 dark) in
          (by.0, (order.exact by.0).1 by.1, by.2)));
      floored = λ others safe. (let cover = safe_covers cave others sound safe in
          let picked = pick_all cave (cells_of others) parts (legal_places cave others cover.legal)
          (λ c h. cover.covered c ((are.regions.exact c).0 h)) apart are.each in
          let few : length picked.0 ≤ length (cells_of others) =
          no_more picked.0 (cells_of others) picked.1.distinct picked.1.inside in
          omega (arith, picked.1.many, few, length-cells others));
    }

-- in order there are as many torches as in the parts
pub same_number : (cave : Cave) (parts : List Bounded) (cells : List ℕ) → AreBoundedIn cave parts
    → AreInOrder parts cells → length cells ≡ length (all_torches parts)
same_number cave parts cells are order =
    let torches = torches_are cave parts are.each (are_apart cave parts are.regions.apart) in
    let one = no_more cells (all_torches parts) (rising_distinct cells order.ascending) (λ z h. (order.exact z).0 h) in
    let two = no_more (all_torches parts) cells torches.distinct (λ z h. (order.exact z).1 h) in
    omega (arith, one, two)
