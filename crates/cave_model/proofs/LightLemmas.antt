-- Rounds of relaxation give the greatest level over paths.
use Rattle.std.proofs.Common.{◌≡◌, ℕ, zero, suc, ◌+◌, ◌<◌, ◌≤◌, max, Option, Some, None, refl, subst, arith, ◌⊎◌, inl}
use Rattle.std.proofs.Common.{inr, eq-zero-or-pos}
use Rattle.std.proofs.lemmas.Bool.{cases_lt}
use Rattle.cave_base.specs.Box.{cell_count}
use Rattle.cave_model.specs.Cells.{Face, west, east, north, south, below, above, beyond, AreNeighbours}
use Rattle.cave_model.specs.Cave.{Cave, class_at, IsSound}
use Rattle.cave_model.specs.Light.{entering_cost, Path, BringsFrom, Brings, IsLevelOf}
use Rattle.cave_model.specs.Light.Path.{start, onward}
use Rattle.cave_model.specs.Relaxation.{brought, best_of, relaxed}
use Rattle.cave_model.proofs.FaceLemmas.{opposite, neighbours_mutual, mutual_beyond}

-- a path ends in the box
pub path_end_inside : {cave : Cave} {a c n : ℕ} → Path cave a c n → c < cell_count cave.size
path_end_inside (start h) = h
path_end_inside {cave = cave} (onward {before = b} p to n) = (neighbours_mutual cave.size b to n).inside

-- ---- the way back

-- a path from the second of two neighbours is one from the first, with what entering the second costs
pub path_front : (cave : Cave) (before source cell cost : ℕ) → AreNeighbours cave.size before source
    → Path cave source cell cost → Path cave before cell (cost + entering_cost cave source)
path_front cave before source cell cost n (start h) = onward {before = before} {cost = 0} (start n.inside) source n
path_front cave before source cell cost n (onward {before = b} {cost = c} p to m) =
    let same : c + entering_cost cave source + entering_cost cave to
    ≡ c + entering_cost cave to + entering_cost cave source = omega arith in
    subst (λ (sum : ℕ). Path cave before cell sum) same
    (onward {before = b} {cost = c + entering_cost cave source} (path_front cave before source b c n p) to m)

-- a path from the second cell to the first, which costs as much but for the cells where they begin
pub record IsWayBack (cave : Cave) (first second cost : ℕ) : Type 0 where
  pub back : ℕ
  pub path : Path cave second first back
  pub same : back + entering_cost cave second ≡ cost + entering_cost cave first

-- each path leads back: entering its start then costs, and entering its end doesn't
pub path_back : (cave : Cave) (first second cost : ℕ) → Path cave first second cost → IsWayBack cave first second cost
path_back cave first second cost (start h) = record { back = 0; path = start h; same = refl }
path_back cave first second cost (onward {before = b} {cost = c} p to n) =
    let way = path_back cave first b c p in
    record {
      back = way.back + entering_cost cave b;
      path = path_front cave to b first way.back (neighbours_mutual cave.size b to n) way.path;
      same = omega (arith, way.same);
    }

-- what light brings one way it brings the other, but for what entering each end costs
pub brings_back : (cave : Cave) (first second emission level : ℕ) → BringsFrom cave first emission second level
    → BringsFrom cave second (emission + entering_cost cave first) first (level + entering_cost cave second)
brings_back cave first second emission level b =
    let way = path_back cave first second b.0 b.1 in
    (way.back, way.path, omega (arith, way.same, b.2))

-- ---- a round brings no more than paths do

-- what is at most the greater of two is at most one of them
of_max : {A : Type 0} (n a b : ℕ) → n ≤ max a b → (n ≤ a → A) → (n ≤ b → A) → A
of_max n a b h f g = elim (cases_lt a n) [
  | inl lt ↦ g (omega arith)
  | inr le ↦ f le
]

-- a level that a neighbour brings comes from a cell that shares a face
pub record ComesFrom (cave : Cave) (levels : ℕ → ℕ) (cell level : ℕ) : Type 0 where
  pub before : ℕ
  pub shared : AreNeighbours cave.size before cell
  pub enough : level + entering_cost cave cell ≤ levels before

-- a level that is brought over a face came from a neighbour
came : (cave : Cave) (levels : ℕ → ℕ) (cell level : ℕ) (face : Face) (o : Option ℕ) → beyond cave.size face cell ≡ o
    → cell < cell_count cave.size → 0 < level → level ≤ brought cave levels cell o → ComesFrom cave levels cell level
came cave levels cell level face None e h p le = absurd (omega arith)
came cave levels cell level face (Some before) e h p le = record {
  before = before;
  shared = neighbours_mutual cave.size cell before (record { inside = h; face = face; there = e });
  enough = omega arith;
}

-- it was there, or came through one of the faces
best_from : (cave : Cave) (levels : ℕ → ℕ) (cell level : ℕ) → cell < cell_count cave.size → 0 < level
    → level ≤ best_of cave levels cell → (level ≤ levels cell) ⊎ ComesFrom cave levels cell level
best_from cave levels cell level h p le =
    of_max level _ _ le (λ le. inl le) λ le.
    of_max level _ _ le (came_by west) λ le.
    of_max level _ _ le (came_by east) λ le.
    of_max level _ _ le (came_by north) λ le.
    of_max level _ _ le (came_by south) λ le.
    of_max level _ _ le (came_by below) (came_by above)
  where
    came_by : (face : Face) → level ≤ brought cave levels cell (beyond cave.size face cell)
        → (level ≤ levels cell) ⊎ ComesFrom cave levels cell level
    came_by face le = inr (came cave levels cell level face (beyond cave.size face cell) refl h p le)

-- what a number of rounds gives is brought by a path
pub relaxed_brings : (cave : Cave) (rounds cell level : ℕ) → cell < cell_count cave.size → 0 < level
    → level ≤ relaxed cave rounds cell → Brings cave cell level
unfolding relaxed
relaxed_brings cave zero cell level h p le = (cell, (0, start h, omega arith))
relaxed_brings cave (suc rounds) cell level h p le = elim (best_from cave (relaxed cave rounds) cell level h p le) [
  | inl le ↦ relaxed_brings cave rounds cell level h p le
  | inr from ↦
      let b = relaxed_brings cave rounds from.before (level + entering_cost cave cell) from.shared.inside (omega arith)
      from.enough in (
        b.0,
        (
          b.1.0 + entering_cost cave cell,
          onward {before = from.before} {cost = b.1.0} b.1.1 cell from.shared,
          omega (arith, b.1.2),
        ),
      )
]

-- ---- paths bring no more than rounds do

-- no round takes a cell below its emission
relaxed_more : (cave : Cave) (rounds cell : ℕ) → (class_at cave cell).emission ≤ relaxed cave rounds cell
unfolding relaxed
relaxed_more cave zero cell = omega arith
relaxed_more cave (suc rounds) cell = omega (arith, relaxed_more cave rounds cell)

-- what comes over one face is at most the best over any
at_face : (cave : Cave) (levels : ℕ → ℕ) (cell : ℕ) (face : Face)
    → brought cave levels cell (beyond cave.size face cell) ≤ best_of cave levels cell
at_face cave levels cell west = omega arith
at_face cave levels cell east = omega arith
at_face cave levels cell north = omega arith
at_face cave levels cell south = omega arith
at_face cave levels cell below = omega arith
at_face cave levels cell above = omega arith

-- one step on from a neighbour
best_more : (cave : Cave) (levels : ℕ → ℕ) (before cell : ℕ) → AreNeighbours cave.size before cell
    → levels before ≤ best_of cave levels cell + entering_cost cave cell
best_more cave levels before cell n =
    let m = mutual_beyond cave.size n.face before cell n.inside n.there in
    let le : brought cave levels cell (Some before) ≤ best_of cave levels cell =
    subst (λ (o : Option ℕ). brought cave levels cell o ≤ best_of cave levels cell)
    m.back (at_face cave levels cell (opposite n.face)) in
    omega arith

-- as many rounds as a path costs give at least what it brings
pub path_relaxed : (cave : Cave) (source cell cost rounds : ℕ) → Path cave source cell cost → cost ≤ rounds
    → (class_at cave source).emission ≤ relaxed cave rounds cell + cost
unfolding relaxed
path_relaxed cave source cell cost rounds (start h) le = omega (arith, relaxed_more cave rounds cell)
path_relaxed cave source cell cost zero (onward {before = b} {cost = c} p to n) le = absurd (omega arith)
path_relaxed cave source cell cost (suc rounds) (onward {before = b} {cost = c} p to n) le =
    omega (arith, path_relaxed cave source b c rounds p (omega arith), best_more cave (relaxed cave rounds) b to n)

-- fourteen rounds give the level of light
pub relaxed_level : (cave : Cave) (cell : ℕ) → IsSound cave → cell < cell_count cave.size
    → IsLevelOf cave cell (relaxed cave 14 cell)
relaxed_level cave cell sound h = record {
  reached = elim (eq-zero-or-pos (relaxed cave 14 cell)) [
    | inl e ↦ inl e
    | inr p ↦ inr (relaxed_brings cave 14 cell (relaxed cave 14 cell) h p (omega arith))
  ];
  most = λ level b. elim (eq-zero-or-pos level) [
    | inl e ↦ omega arith
    | inr p ↦ (let le : b.1.0 ≤ 14 = omega (arith, b.1.2, (sound.classed b.0).faint) in
        omega (arith, b.1.2, path_relaxed cave b.0 cell b.1.0 14 b.1.1 le))
  ];
}

-- whether light of a level comes there
pub brings_or_not : (cave : Cave) (cell level : ℕ) → IsSound cave → cell < cell_count cave.size → 0 < level
    → Brings cave cell level ⊎ ¬ Brings cave cell level
brings_or_not cave cell level sound h p = elim (cases_lt (relaxed cave 14 cell) level) [
  | inl lt ↦ inr (λ b. let le : level ≤ relaxed cave 14 cell = (relaxed_level cave cell sound h).most level b in
      omega arith)
  | inr le ↦ inl (relaxed_brings cave 14 cell level h p le)
]

-- ---- levels that no step can raise, as a flood leaves them

-- the levels are brought, cover the sources, and no step raises one
pub record AreSettled (cave : Cave) (glow levels : ℕ → ℕ) : Type 0 where
  pub brought_there : (cell : ℕ) → cell < cell_count cave.size → 0 < levels cell
      → (source : ℕ) × BringsFrom cave source (glow source) cell (levels cell)
  pub covered : (cell : ℕ) → cell < cell_count cave.size → glow cell ≤ levels cell
  pub settled : (before cell : ℕ) → AreNeighbours cave.size before cell
      → levels before ≤ levels cell + entering_cost cave cell

-- levels that no step raises have at least what any path brings
pub path_settled : (cave : Cave) (glow levels : ℕ → ℕ) (source cell cost : ℕ) → AreSettled cave glow levels
    → Path cave source cell cost → glow source ≤ levels cell + cost
path_settled cave glow levels source cell cost s (start h) = omega (arith, s.covered source h)
path_settled cave glow levels source cell cost s (onward {before = b} {cost = c} p to n) =
    omega (arith, path_settled cave glow levels source b c s p, s.settled b to n)

-- the level of light is what a flood from all sources leaves
pub settled_level : (cave : Cave) (levels : ℕ → ℕ) (cell : ℕ)
    → AreSettled cave (λ source. (class_at cave source).emission) levels → cell < cell_count cave.size
    → IsLevelOf cave cell (levels cell)
settled_level cave levels cell s h = record {
  reached = elim (eq-zero-or-pos (levels cell)) [
    | inl e ↦ inl e
    | inr p ↦ inr (s.brought_there cell h p)
  ];
  most = λ level b. omega (
    arith,
    b.1.2,
    path_settled cave (λ (source : ℕ). (class_at cave source).emission) levels
        b.0 cell b.1.0 s b.1.1,
  );
}

-- light of a level comes just where the level is as high
pub brings_level : (cave : Cave) (cell level n : ℕ) → IsLevelOf cave cell level → 0 < n → n ≤ level → Brings cave cell n
brings_level cave cell level n is p le = elim is.reached [
  | inl e ↦ absurd (omega arith)
  | inr b ↦ (b.0, (b.1.0, b.1.1, omega (arith, b.1.2)))
]
