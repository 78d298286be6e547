-- One step of a flood.
use Rattle.std.proofs.Common.{◌≡◌, ℕ, ◌+◌, ◌-◌, ◌<◌, ◌≤◌, List, [], ◌∷◌, ◌++◌, Contains, refl, sym, ap, subst, ◌∙◌}
use Rattle.std.proofs.Common.{arith, inl, inr}
use Rattle.std.proofs.lemmas.Bool.{cases_eq}
use Rattle.std.proofs.lemmas.List.Elements.{Contains-append_left, Contains-push, Contains-push_cases}
use Rattle.cave_base.specs.Box.{cell_count}
use Rattle.cave_model.specs.Cells.{AreNeighbours}
use Rattle.cave_model.specs.Cave.{Cave}
use Rattle.cave_model.specs.Light.{Path, BringsFrom, entering_cost}
use Rattle.cave_model.specs.Light.Path.{start, onward}
use Rattle.cave_model.proofs.LightLemmas.{path_end_inside}
use Rattle.light_flood.specs.Spreading.{waiting_at, IsWaiting, IsRaised, Rises, Spreads, IsPassed, IsFlood, IsSettled}

-- ---- paths

-- a path and one from its end are a path
pub path_onward : {cave : Cave} {a b c m n : ℕ} → Path cave a b m → Path cave b c n → Path cave a c (m + n)
path_onward {cave = cave} {a = a} {c = c} {m = m} p (start h) = subst (λ (k : ℕ). Path cave a c k) (omega arith) p
path_onward {cave = cave} {a = a} {c = c} {m = m} p (onward {before = b} {cost = k} q to n) =
    subst (λ (j : ℕ). Path cave a c j) (omega arith) (onward (path_onward p q) to n)

-- a path begins in the box
pub source_inside : {cave : Cave} {a c n : ℕ} → Path cave a c n → a < cell_count cave.size
source_inside (start h) = h
source_inside (onward p to n) = source_inside p

-- nothing was raised
pub spread_none : (cave : Cave) (levels : ℕ → ℕ) → Spreads cave levels levels
spread_none cave levels cell = inl refl

-- light that was brought is brought on
pub spread_on : (cave : Cave) (f g h : ℕ → ℕ) → Spreads cave f g → Spreads cave g h → Spreads cave f h
spread_on cave f g h first second cell = elim (second cell) [
  | inl same ↦ elim (first cell) [
    | inl was ↦ inl (same ∙ was)
    | inr far ↦ inr (far.0, (far.1.0, far.1.1, omega (arith, same, far.1.2)))
  ]
  | inr near ↦ elim (first near.0) [
    | inl was ↦ inr (near.0, (near.1.0, near.1.1, omega (arith, was, near.1.2)))
    | inr far ↦ inr (far.0, (far.1.0 + near.1.0, path_onward far.1.1 near.1.1, omega (arith, near.1.2, far.1.2)))
  ]
]

-- light in the box is brought from some cell
pub spread_brought : (cave : Cave) (f g : ℕ → ℕ) (cell : ℕ) → Spreads cave f g → cell < cell_count cave.size
    → (source : ℕ) × BringsFrom cave source (f source) cell (g cell)
spread_brought cave f g cell spreads h = elim (spreads cell) [
  | inl same ↦ (cell, (0, start h, omega (arith, same)))
  | inr b ↦ b
]

-- beyond the box nothing changes
pub spread_outside : (cave : Cave) (f g : ℕ → ℕ) (cell : ℕ) → Spreads cave f g → cell_count cave.size ≤ cell
    → g cell ≡ f cell
spread_outside cave f g cell spreads past = elim (spreads cell) [
  | inl same ↦ same
  | inr b ↦ (let inside = path_end_inside b.1.1 in absurd (omega arith))
]

-- ---- one neighbour is raised

-- entering a cell costs at least one
pub entering_pos : (cave : Cave) (cell : ℕ) → 0 < entering_cost cave cell
entering_pos cave cell = omega arith

-- a neighbour raised to what the cell's light brings has it by a path
pub raised_spreads : (cave : Cave) (f g : ℕ → ℕ) (from to : ℕ) → AreNeighbours cave.size from to
    → entering_cost cave to ≤ f from → IsRaised f to (f from - entering_cost cave to) g → Spreads cave f g
raised_spreads cave f g from to shared enough raised cell = elim (cases_eq cell to) [
  | inl e ↦ (let here : g cell ≡ f from - entering_cost cave to = ap g e ∙ raised.raised in
      let path : Path cave from cell (0 + entering_cost cave to) =
      subst (λ (c : ℕ). Path cave from c (0 + entering_cost cave to)) (sym e)
      (onward (start shared.inside) to shared) in
      inr (from, (0 + entering_cost cave to, path, omega (arith, here))))
  | inr ne ↦ inl (raised.others cell ne)
]

-- a cell raised to a level below this one rises
pub raised_rises : (level : ℕ) (f g : ℕ → ℕ) (to brought : ℕ) → brought < level → f to ≤ brought
    → IsRaised f to brought g → Rises level f g
raised_rises level f g to brought under higher raised = record {
  up = λ cell. (elim (cases_eq cell to) [
    | inl e ↦ (let here : g cell ≡ brought = ap g e ∙ raised.raised in let was : f cell ≡ f to = ap f e in
        omega (arith, here, was))
    | inr ne ↦ omega (arith, raised.others cell ne)
  ]);
  below = λ cell high. (elim (cases_eq cell to) [
    | inl e ↦ (let here : g cell ≡ brought = ap g e ∙ raised.raised in absurd (omega (arith, here)))
    | inr ne ↦ raised.others cell ne
  ]);
}

-- a cell raised to a level at which it waits keeps the flood
pub raised_flood : (cave : Cave) (f g : ℕ → ℕ) (waiting next : List (List ℕ)) (passed waits to brought : ℕ)
    → to < cell_count cave.size → IsFlood cave passed waits f waiting
    → brought < passed → brought ≤ 15 → f to ≤ brought → IsRaised f to brought g → IsWaiting waiting brought
    (waiting_at waiting brought ++ to ∷ []) next
    → IsFlood cave passed waits g next
raised_flood cave f g waiting next passed waits to brought to_in flood under low higher raised pushed = record {
  low = λ cell. (elim (cases_eq cell to) [
    | inl e ↦ (let here : g cell ≡ brought = ap g e ∙ raised.raised in omega (arith, here))
    | inr ne ↦ (let top = flood.low cell in omega (arith, raised.others cell ne, top))
  ]);
  passed_on = λ before cell shared high. (elim (cases_eq before to) [
    | inl e ↦ (let here : g before ≡ brought = ap g e ∙ raised.raised in absurd (omega (arith, here)))
    | inr ne ↦ (let same = raised.others before ne in
        let old : IsPassed cave f before cell = flood.passed_on before cell shared (omega (arith, same)) in
        let up : f cell ≤ g cell = rises cell in omega (arith, same, old, up))
  ]);
  awaited = λ cell inside lit below. (elim (cases_eq cell to) [
    | inl e ↦ (let here : g cell ≡ brought = ap g e ∙ raised.raised in
        let at : waiting_at next (g cell) ≡ waiting_at waiting brought ++ to ∷ [] = ap (waiting_at next) here
        ∙ pushed.here in
        subst (λ (cells : List ℕ). Contains cells cell) (sym at)
        (subst (Contains (waiting_at waiting brought ++ to ∷ [])) (sym e)
        (Contains-push (waiting_at waiting brought) to)))
    | inr ne ↦ (let same = raised.others cell ne in
        let old : Contains (waiting_at waiting (g cell)) cell =
        subst (λ (level : ℕ). Contains (waiting_at waiting level) cell) (sym same)
        (flood.awaited cell inside (omega (arith, same)) (omega (arith, same))) in
        kept (g cell) cell old)
  ]);
  inside = λ level cell has. (elim (cases_eq level brought) [
    | inl e ↦ (let there : Contains (waiting_at waiting brought ++ to ∷ []) cell =
        subst (λ (cells : List ℕ). Contains cells cell) (ap (waiting_at next) e ∙ pushed.here) has in
        elim (Contains-push_cases (waiting_at waiting brought) to cell there) [
          | inl old ↦ flood.inside brought cell old
          | inr same ↦ subst (λ (c : ℕ). c < cell_count cave.size) same to_in
        ])
    | inr ne ↦ flood.inside level cell (subst (λ (cells : List ℕ). Contains cells cell) (pushed.others level ne) has)
  ]);
}
  where
    rises : (cell : ℕ) → f cell ≤ g cell
    rises = (raised_rises passed f g to brought under higher raised).up

    kept : (level cell : ℕ) → Contains (waiting_at waiting level) cell → Contains (waiting_at next level) cell
    kept level cell has = elim (cases_eq level brought) [
      | inl e ↦ subst (λ (l : ℕ). Contains (waiting_at next l) cell) (sym e)
          (subst (λ (cells : List ℕ). Contains cells cell) (sym pushed.here)
          (Contains-append_left (waiting_at waiting brought) (to ∷ []) cell
          (subst (λ (l : ℕ). Contains (waiting_at waiting l) cell) e has)))
      | inr ne ↦ subst (λ (cells : List ℕ). Contains cells cell) (sym (pushed.others level ne)) has
    ]

-- ---- the end

-- what a path brings, the flood has
pub path_lit : (cave : Cave) (first levels : ℕ → ℕ) (source cell cost level : ℕ) → IsSettled cave first levels
    → Path cave source cell cost → level + cost ≤ first source → level ≤ levels cell
path_lit cave first levels source cell cost level s (start h) enough = (let up = s.covered source in omega arith)
path_lit cave first levels source cell cost level s (onward {before = b} {cost = c} p to n) enough =
    let there = path_lit cave first levels source b c (level + entering_cost cave to) s p (omega arith) in
    let passed : IsPassed cave levels b to = s.settled b to n in omega arith
