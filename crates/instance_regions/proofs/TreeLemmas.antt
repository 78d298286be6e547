-- Trees of cells.
use Rattle.std.proofs.Common.{◌≡◌, ◌≢◌, ℕ, ◌+◌, ◌<◌, ◌≤◌, min, max, nat_eq, cond, List, [], ◌∷◌, ◌++◌, length, set}
use Rattle.std.proofs.Common.{slice_index, Contains, refl, sym, ap, subst, ◌∙◌, arith, inl, inr}
use Rattle.std.proofs.Common.{length-set, length-append, get_or-set_same, get_or-set_other}
use Rattle.std.proofs.lemmas.Bool.{cases_lt, cases_eq}
use Rattle.std.proofs.lemmas.Bool.Decides.{nat_tests}
use Rattle.std.proofs.lemmas.List.{get_or_push, get_or_append_left}
use Rattle.cave_model.specs.Coverage.{Coverage}
use Rattle.set_cover.specs.Buckets.{bucket}
use Rattle.set_cover.specs.Sparse.{Sparse, IsSparse, ListsAt, ListsIn, of_sparse}
use Rattle.set_cover.proofs.OrderLemmas.{element_at, element_of}
use Rattle.instance_regions.specs.Splitting.{AreLinked, AreChained}
use Rattle.instance_regions.specs.Splitting.AreChained.{here, onward}
use Rattle.instance_regions.specs.Joining.{IsForest, AreRooted, Finds, merged, Joins, AreJoined, AreJoinedBy}
use Rattle.instance_regions.specs.Joining.{IsCoarser, IsOneTree, AreParents, JoinsRow, AreLabels, AreAlone, AreRoots}

-- ---- joined cells

-- what is joined to a joined cell is joined
pub joined_on : {coverage : Coverage} {a b c : ℕ} → AreChained coverage a b → AreChained coverage b c
    → AreChained coverage a c
joined_on p here = p
joined_on p (onward q cell l) = onward (joined_on p q) cell l

-- joining goes both ways
pub joined_back : {coverage : Coverage} {a b : ℕ} → AreChained coverage a b → AreChained coverage b a
joined_back here = here
joined_back (onward {before = b} p cell l) = joined_on (onward here b (l.0, l.2, l.1)) (joined_back p)

-- ---- finding

pub record Finding (old : List ℕ) (cell at : ℕ) (new : List ℕ) : Type 0 where
  pub whole : length new ≡ length old
  pub forest : IsForest new
  pub low : at ≤ cell
  pub inside : cell < length old
  pub kept : (rep : ℕ → ℕ) → AreRooted rep old → AreRooted rep new × (rep cell ≡ rep at)

-- before the first step a cell stands at itself
pub finding_none : (old : List ℕ) (cell : ℕ) → cell < length old → IsForest old → Finding old cell cell old
finding_none old cell h forest =
    record { whole = refl; forest = forest; low = omega arith; inside = h; kept = λ rep is. (is, refl) }

-- a parent may be replaced by its own parent
halved : (new : List ℕ) (at : ℕ) (rep : ℕ → ℕ) → at < length new → IsForest new → AreRooted rep new
    → AreRooted rep (set new at (slice_index new (slice_index new at)))
halved new at rep h forest is = record {
  same = λ c lt. (elim (cases_eq c at) [
    | inl e ↦ subst (λ (d : ℕ). rep (slice_index next d) ≡ rep d) (sym e)
        (ap rep here_is ∙ is.same (slice_index new at) inside ∙ is.same at h)
    | inr ne ↦ ap rep (other c ne) ∙ is.same c (omega (arith, long))
  ]);
  top = λ c lt up. (elim (cases_eq c at) [
    | inl e ↦ (let there : slice_index new (slice_index new at) ≡ at = sym here_is ∙ ap (slice_index next)
        (sym e) ∙ up ∙ e in
        let self : slice_index new at ≡ at = omega (arith, there, first, second) in subst (λ (d : ℕ). rep d ≡ d) (sym e)
        (is.top at h self))
    | inr ne ↦ is.top c (omega (arith, long)) (sym (other c ne) ∙ up)
  ]);
  low = λ c lt. is.low c (omega (arith, long));
}
  where
    next : List ℕ
    next = set new at (slice_index new (slice_index new at))

    long : length next ≡ length new
    long = length-set new at _

    first : slice_index new at ≤ at
    first = forest at h

    inside : slice_index new at < length new
    inside = omega (arith, first)

    second : slice_index new (slice_index new at) ≤ slice_index new at
    second = forest (slice_index new at) inside

    here_is : slice_index next at ≡ slice_index new (slice_index new at)
    here_is = get_or-set_same new at _ 0 h

    other : (c : ℕ) → c ≢ at → slice_index next c ≡ slice_index new c
    other c ne = get_or-set_other new at c _ 0 ne

-- a parent may be lowered
lowered : (new : List ℕ) (at v : ℕ) → at < length new → v ≤ at → IsForest new → IsForest (set new at v)
lowered new at v h le forest c lt = elim (cases_eq c at) [
  | inl e ↦ (let same : slice_index (set new at v) c ≡ v = ap (slice_index (set new at v)) e
      ∙ get_or-set_same new at v 0 h in omega arith)
  | inr ne ↦ (let same = get_or-set_other new at c v 0 ne in let old = forest c (omega (arith, length-set new at v)) in
      omega arith)
]

-- a step goes to the grandparent, which becomes the parent
pub finding_next : (old new : List ℕ) (cell at : ℕ) → Finding old cell at new
    → Finding old cell (slice_index new (slice_index new at)) (set new at (slice_index new (slice_index new at)))
finding_next old new cell at s =
    let h : at < length new = omega (arith, s.low, s.inside, s.whole) in
    let first = s.forest at h in
    let second = s.forest (slice_index new at) (omega (arith, first)) in
    record {
      whole = length-set new at _ ∙ s.whole;
      forest = lowered new at (slice_index new (slice_index new at)) h (omega (arith, first, second)) s.forest;
      low = omega (arith, s.low, first, second);
      inside = s.inside;
      kept = λ rep is. (let k = s.kept rep is in (
        halved new at rep h s.forest k.0,
        k.1
            ∙ sym (k.0.same (slice_index new at) (omega (arith, first)) ∙ k.0.same at h),
      ));
    }

-- a step goes to a smaller cell
pub finding_smaller : (old new : List ℕ) (cell at : ℕ) → Finding old cell at new → slice_index new at ≢ at
    → slice_index new (slice_index new at) < at
finding_smaller old new cell at s ne =
    let h : at < length new = omega (arith, s.low, s.inside, s.whole) in
    let first = s.forest at h in
    let second = s.forest (slice_index new at) (omega (arith, first)) in
    omega (arith, first, second, ne)

-- a cell that is its own parent is the root
pub finding_all : (old new : List ℕ) (cell at : ℕ) → Finding old cell at new → slice_index new at ≡ at
    → Finds old cell at new
finding_all old new cell at s top = record {
  whole = s.whole;
  forest = s.forest;
  low = s.low;
  top = top;
  kept = λ rep is. (let k = s.kept rep is in (k.0, k.1 ∙ k.0.top at (omega (arith, s.low, s.inside, s.whole)) top));
}

-- ---- joining two trees

-- the greater of two roots gets the smaller one
merged_high : (rep : ℕ → ℕ) (one two c : ℕ) → rep c ≡ max (rep one) (rep two)
    → merged rep one two c ≡ min (rep one) (rep two)
merged_high rep one two c e = grind (arith, nat_tests)

-- other roots stay
merged_other : (rep : ℕ → ℕ) (one two c : ℕ) → rep c ≢ max (rep one) (rep two) → merged rep one two c ≡ rep c
merged_other rep one two c ne = grind (arith, nat_tests)

-- what had one root still has one
pub merged_coarser : (rep : ℕ → ℕ) (one two : ℕ) → IsCoarser rep (merged rep one two)
merged_coarser rep one two a b e =
    ap (λ (r : ℕ). cond (nat_eq r (max (rep one) (rep two))) (min (rep one) (rep two)) r) e

-- both cells have one root now
merged_one : (rep : ℕ → ℕ) (one two : ℕ) → merged rep one two one ≡ merged rep one two two
merged_one rep one two = of_one ∙ sym of_two
  where
    of_one : merged rep one two one ≡ min (rep one) (rep two)
    of_one = elim (cases_eq (rep one) (max (rep one) (rep two))) [
      | inl e ↦ merged_high rep one two one e
      | inr ne ↦ merged_other rep one two one ne ∙ omega (arith, ne)
    ]

    of_two : merged rep one two two ≡ min (rep one) (rep two)
    of_two = elim (cases_eq (rep two) (max (rep one) (rep two))) [
      | inl e ↦ merged_high rep one two two e
      | inr ne ↦ merged_other rep one two two ne ∙ omega (arith, ne)
    ]

-- hanging the greater root below the smaller joins their trees
merge_roots : (mid : List ℕ) (rep : ℕ → ℕ) (one two : ℕ) → IsForest mid → AreRooted rep mid → rep (rep one) ≡ rep one
    → rep (rep two) ≡ rep two → max (rep one) (rep two) < length mid
    → AreRooted (merged rep one two) (set mid (max (rep one) (rep two)) (min (rep one) (rep two)))
merge_roots mid rep one two forest is top_one top_two h = record {
  same = λ c lt. (elim (cases_eq c high) [
    | inl e ↦ subst (λ (d : ℕ). merged rep one two (slice_index next d) ≡ merged rep one two d) (sym e)
        (ap (merged rep one two) here_is ∙ of_low ∙ sym of_high)
    | inr ne ↦ ap (merged rep one two) (other c ne) ∙ merged_coarser rep one two (slice_index mid c) c
        (is.same c (omega (arith, long)))
  ]);
  top = λ c lt up. (elim (cases_eq c high) [
    | inl e ↦ (let there : low ≡ high = sym here_is ∙ ap (slice_index next) (sym e) ∙ up ∙ e in
        subst (λ (d : ℕ). merged rep one two d ≡ d) (sym e) (of_high ∙ there))
    | inr ne ↦ (let self = is.top c (omega (arith, long)) (sym (other c ne) ∙ up) in
        let apart : rep c ≢ high = λ e. ne (sym self ∙ e) in merged_other rep one two c apart ∙ self)
  ]);
  low = λ c lt. (let old = is.low c (omega (arith, long)) in elim (cases_eq (rep c) high) [
    | inl e ↦ (let now = merged_high rep one two c e in omega (arith, now, old, e))
    | inr ne ↦ (let now = merged_other rep one two c ne in omega (arith, now, old))
  ]);
}
  where
    high : ℕ
    high = max (rep one) (rep two)

    low : ℕ
    low = min (rep one) (rep two)

    next : List ℕ
    next = set mid high low

    long : length next ≡ length mid
    long = length-set mid high low

    here_is : slice_index next high ≡ low
    here_is = get_or-set_same mid high low 0 h

    other : (c : ℕ) → c ≢ high → slice_index next c ≡ slice_index mid c
    other c ne = get_or-set_other mid high c low 0 ne

    -- the root of a root is itself
    root_high : rep high ≡ high
    root_high = elim (cases_lt (rep one) (rep two)) [
      | inl lt ↦ (let e : high ≡ rep two = omega arith in ap rep e ∙ top_two ∙ sym e)
      | inr le ↦ (let e : high ≡ rep one = omega arith in ap rep e ∙ top_one ∙ sym e)
    ]

    root_low : rep low ≡ low
    root_low = elim (cases_lt (rep one) (rep two)) [
      | inl lt ↦ (let e : low ≡ rep one = omega arith in ap rep e ∙ top_one ∙ sym e)
      | inr le ↦ (let e : low ≡ rep two = omega arith in ap rep e ∙ top_two ∙ sym e)
    ]

    of_high : merged rep one two high ≡ low
    of_high = merged_high rep one two high root_high

    of_low : merged rep one two low ≡ low
    of_low = elim (cases_eq (rep low) high) [
      | inl e ↦ merged_high rep one two low e
      | inr ne ↦ merged_other rep one two low ne ∙ root_low
    ]

-- with both roots found and one hung below the other, the trees are joined
pub joins : (old mid last : List ℕ) (one two first second : ℕ) → one < length old → two < length old
    → Finds old one first mid → Finds mid two second last
    → Joins old one two (set last (max first second) (min first second))
joins old mid last one two first second h k f g = record {
  whole = length-set last _ _ ∙ g.whole ∙ f.whole;
  forest = lowered last (max first second) (min first second) (omega (arith, f.low, g.low, g.whole, f.whole))
      (omega arith) g.forest;
  joined = λ rep is.
      (let a = f.kept rep is in let b = g.kept rep a.0 in
      let root_one : rep first ≡ first = a.0.top first (omega (arith, f.low, f.whole)) f.top in
      let root_two : rep second ≡ second = b.0.top second (omega (arith, g.low, g.whole, f.whole)) g.top in
      let made = merge_roots last rep one two g.forest b.0 (ap rep a.1 ∙ root_one ∙ sym a.1)
      (ap rep b.1 ∙ root_two ∙ sym b.1) (omega (arith, a.1, b.1, f.low, g.low, g.whole, f.whole)) in
      subst (λ (l : List ℕ). AreRooted (merged rep one two) l)
      (ap (λ (n : ℕ). set last (max n (rep two)) (min n (rep two))) a.1
      ∙ ap (λ (n : ℕ). set last (max first n) (min first n)) b.1) made);
}

-- ---- joining a row

-- the cell with this number in a place's list
abbrev listed_at : Sparse → ℕ → ℕ → ℕ
listed_at sparse place k = slice_index (bucket sparse.lit place) k

-- cells that one place lights are linked
link : (sparse : Sparse) (place a b : ℕ) → IsSparse sparse → place < length sparse.places → ListsAt sparse place a
    → ListsAt sparse place b → AreLinked (of_sparse sparse) (slice_index sparse.cells a) (slice_index sparse.cells b)
link sparse place a b is h lit_a lit_b = (slice_index sparse.places place, lights a lit_a, lights b lit_b)
  where
    lights : (c : ℕ) → ListsAt sparse place c
        → ListsIn sparse (slice_index sparse.places place) (slice_index sparse.cells c)
    lights c lit = record {
      place_index = place;
      cell_index = c;
      place_there = record { inside = h; there = refl };
      cell_there = record { inside = is.of_cells place c h lit; there = refl };
      lit = lit;
    }

-- a cell of a place's list has a parent
pub listed_inside : (sparse : Sparse) (place k : ℕ) (lit parents : List ℕ) → AreParents sparse parents
    → place < length sparse.places → lit ≡ bucket sparse.lit place → k < length lit → slice_index lit k < length parents
listed_inside sparse place k lit parents are h e inside =
    let cell = slice_index lit k in
    let has = subst (λ (l : List ℕ). Contains l cell) e (element_of lit cell k inside refl) in
    omega (arith, are.kept.of_cells place cell h has, are.sized)

-- the first `count` cells of a place's list have the root of the first of all
pub record JoiningRow (sparse : Sparse) (place count : ℕ) (old new : List ℕ) : Type 0 where
  pub whole : length new ≡ length old
  pub forest : IsForest new
  pub trees : (rep : ℕ → ℕ) → AreRooted rep old → AreJoinedBy sparse rep
      → (now : ℕ → ℕ) × AreRooted now new × AreJoinedBy sparse now × IsCoarser rep now
      × ((k : ℕ) → k < count → now (listed_at sparse place k) ≡ now (listed_at sparse place 0))

-- the next cell of the list is joined with the first
pub row_next : (sparse : Sparse) (place count : ℕ) (old new next : List ℕ) → IsSparse sparse
    → place < length sparse.places → count < length (bucket sparse.lit place)
    → JoiningRow sparse place count old new
    → Joins new (listed_at sparse place 0) (listed_at sparse place count) next
    → JoiningRow sparse place (count + 1) old next
row_next sparse place count old new next is h inside s joins = record {
  whole = joins.whole ∙ s.whole;
  forest = joins.forest;
  trees = λ rep root joined.
      (let t = s.trees rep root joined in (
        merged t.0 first cell,
        joins.joined t.0 t.1,
        still t.0 t.2,
        (λ a b e. merged_coarser t.0 first cell a b (t.3 a b e)),
        (λ k lt. together t.0 t.4 k lt),
      ));
}
  where
    first : ℕ
    first = listed_at sparse place 0

    cell : ℕ
    cell = listed_at sparse place count

    lit_first : ListsAt sparse place first
    lit_first = element_of (bucket sparse.lit place) first 0 (omega (arith, inside)) refl

    lit_cell : ListsAt sparse place cell
    lit_cell = element_of (bucket sparse.lit place) cell count inside refl

    together : (now : ℕ → ℕ) → ((k : ℕ) → k < count → now (listed_at sparse place k) ≡ now first) → (k : ℕ)
        → k < count + 1 → merged now first cell (listed_at sparse place k) ≡ merged now first cell first
    together now so_far k lt = elim (cases_lt k count) [
      | inl before ↦ merged_coarser now first cell (listed_at sparse place k) first (so_far k before)
      | inr le ↦ (let same : k ≡ count = omega arith in
          ap (λ (n : ℕ). merged now first cell (listed_at sparse place n)) same ∙ sym (merged_one now first cell))
    ]

    still : (now : ℕ → ℕ) → AreJoinedBy sparse now → AreJoinedBy sparse (merged now first cell)
    still now joined c inside = elim (cases_eq (now c) (max (now first) (now cell))) [
      | inl e ↦ subst (AreJoined sparse c) (sym (merged_high now first cell c e))
          (joined_on (subst (AreJoined sparse c) e (joined c inside)) crossing)
      | inr ne ↦ subst (AreJoined sparse c) (sym (merged_other now first cell c ne)) (joined c inside)
    ]
      where
        to_first : AreJoined sparse first (now first)
        to_first = joined first (is.of_cells place first h lit_first)

        to_cell : AreJoined sparse cell (now cell)
        to_cell = joined cell (is.of_cells place cell h lit_cell)

        linked : AreJoined sparse first cell
        linked = onward here (slice_index sparse.cells cell) (link sparse place first cell is h lit_first lit_cell)

        over : AreJoined sparse (now first) (now cell)
        over = joined_on (joined_back to_first) (joined_on linked to_cell)

        crossing : AreJoined sparse (max (now first) (now cell)) (min (now first) (now cell))
        crossing = elim (cases_lt (now first) (now cell)) [
          | inl lt ↦ (let high : now cell ≡ max (now first) (now cell) = omega arith in
              let low : now first ≡ min (now first) (now cell) = omega arith in
              subst (λ (m : ℕ). AreJoined sparse m (min (now first) (now cell))) high
              (subst (AreJoined sparse (now cell)) low (joined_back over)))
          | inr le ↦ (let high : now first ≡ max (now first) (now cell) = omega arith in
              let low : now cell ≡ min (now first) (now cell) = omega arith in
              subst (λ (m : ℕ). AreJoined sparse m (min (now first) (now cell))) high
              (subst (AreJoined sparse (now first)) low over))
        ]

-- after the last, all cells of the list are joined
pub row_all : (sparse : Sparse) (place count : ℕ) (old new : List ℕ) → length (bucket sparse.lit place) ≤ count
    → JoiningRow sparse place count old new → JoinsRow sparse place old new
row_all sparse place count old new all s = record {
  whole = s.whole;
  forest = s.forest;
  trees = λ rep root joined. (let t = s.trees rep root joined in record {
    rep = t.0;
    roots = t.1;
    joined = t.2;
    coarser = t.3;
    one = λ a b lit_a lit_b. rooted t.0 t.4 a lit_a ∙ sym (rooted t.0 t.4 b lit_b);
  });
}
  where
    rooted : (now : ℕ → ℕ)
        → ((k : ℕ) → k < count → now (listed_at sparse place k) ≡ now (listed_at sparse place 0)) → (a : ℕ)
        → ListsAt sparse place a → now a ≡ now (listed_at sparse place 0)
    rooted now each a lit = ap now (sym (element_at (bucket sparse.lit place) a lit))
        ∙ each lit.0 (omega (arith, lit.1, all))

-- ---- all rows, and the roots

pub record Joined (sparse : Sparse) (place : ℕ) (parents : List ℕ) : Type 0 where
  pub whole : length parents ≡ length sparse.cells
  pub forest : IsForest parents
  pub rep : ℕ → ℕ
  pub roots : AreRooted rep parents
  pub joined : AreJoinedBy sparse rep
  pub linked : (p : ℕ) → p < place → IsOneTree sparse p rep

-- before the first place each cell stands alone
pub joined_none : (sparse : Sparse) (parents : List ℕ) → AreAlone (length sparse.cells) parents
    → Joined sparse 0 parents
joined_none sparse parents alone = record {
  whole = alone.whole;
  forest = λ c lt. omega (arith, alone.each c (omega (arith, alone.whole)));
  rep = λ c. c;
  roots = record {
    same = λ c lt. alone.each c (omega (arith, alone.whole));
    top = λ c lt e. refl;
    low = λ c lt. omega arith;
  };
  joined = λ c lt. here;
  linked = λ p lt. absurd (omega arith);
}

-- one place more has joined its cells
pub joined_next : (sparse : Sparse) (place : ℕ) (parents next : List ℕ) → Joined sparse place parents
    → JoinsRow sparse place parents next → Joined sparse (place + 1) next
joined_next sparse place parents next s row =
    let t = row.trees s.rep s.roots s.joined in
    record {
      whole = row.whole ∙ s.whole;
      forest = row.forest;
      rep = t.rep;
      roots = t.roots;
      joined = t.joined;
      linked = λ p lt. (elim (cases_lt p place) [
        | inl before ↦ λ a b lit_a lit_b. t.coarser a b (s.linked p before a b lit_a lit_b)
        | inr le ↦ (let same : place ≡ p = omega arith in subst (λ (q : ℕ). IsOneTree sparse q t.rep) same t.one)
      ]);
    }

pub record RootsTo (old : List ℕ) (cell : ℕ) (new labels : List ℕ) : Type 0 where
  pub whole : length new ≡ length old
  pub counted : length labels ≡ cell
  pub forest : IsForest new
  pub kept : (rep : ℕ → ℕ) → AreRooted rep old → AreRooted rep new
  pub each : (rep : ℕ → ℕ) → AreRooted rep old → (c : ℕ) → c < cell
      → (slice_index labels c ≡ rep c) × (rep (rep c) ≡ rep c)

-- before the first cell there are no labels
pub roots_none : (old labels : List ℕ) → IsForest old → labels ≡ [] → RootsTo old 0 old labels
roots_none old labels forest e =
    record {
      whole = refl;
      counted = ap length e;
      forest = forest;
      kept = λ rep is. is;
      each = λ rep is c lt. absurd (omega arith);
    }

-- the next cell's label is its root
pub roots_next : (old new next labels : List ℕ) (cell found : ℕ) → cell < length old → Finds new cell found next
    → RootsTo old cell new labels → RootsTo old (cell + 1) next (labels ++ found ∷ [])
roots_next old new next labels cell found h f s = record {
  whole = f.whole ∙ s.whole;
  counted = omega (arith, length-append labels (found ∷ []), s.counted);
  forest = f.forest;
  kept = λ rep is. (f.kept rep (s.kept rep is)).0;
  each = λ rep is c lt. (elim (cases_lt c cell) [
    | inl before ↦ (let b = s.each rep is c before in
        (get_or_append_left labels (found ∷ []) 0 c (omega (arith, s.counted)) ∙ b.0, b.1))
    | inr le ↦ (let same : c ≡ cell = omega arith in
        let k = f.kept rep (s.kept rep is) in
        let top : rep found ≡ found = k.0.top found (omega (arith, f.low, f.whole, s.whole)) f.top in
        subst (λ (d : ℕ). (slice_index (labels ++ found ∷ []) d ≡ rep d) × (rep (rep d) ≡ rep d)) (sym same)
        (get_or_push labels found 0 cell s.counted ∙ sym k.1, ap rep k.1 ∙ top ∙ sym k.1))
  ]);
}

-- after the last the labels are the roots
pub roots_all : (old new labels : List ℕ) (cell : ℕ) → cell ≡ length old → RootsTo old cell new labels
    → AreRoots old labels
roots_all old new labels cell e s =
    record { whole = s.counted ∙ e; each = λ rep is c lt. s.each rep is c (omega arith) }

-- after all places the roots are the labels of the regions
pub labels_are : (sparse : Sparse) (parents labels : List ℕ) (count : ℕ) → IsSparse sparse
    → length sparse.places ≤ count → Joined sparse count parents → AreRoots parents labels
    → AreLabels sparse labels
labels_are sparse parents labels count is all s roots = record {
  whole = roots.whole ∙ s.whole;
  linked = λ place h a b lit_a lit_b. (label a (of_cell place a h lit_a)).0
      ∙ s.linked place (omega arith) a b lit_a lit_b ∙ sym (label b (of_cell place b h lit_b)).0;
  joined = λ c h. subst (AreJoined sparse c) (sym (label c (omega (arith, s.whole))).0) (s.joined c h);
  low = λ c h. (let inside : c < length parents = omega (arith, roots.whole) in
      omega (arith, (label c inside).0, s.roots.low c inside));
  top = λ c h. (let inside : c < length parents = omega (arith, roots.whole) in
      let l = label c inside in
      let low = s.roots.low c inside in
      ap (slice_index labels) l.0 ∙ (label (s.rep c) (omega arith)).0 ∙ l.1 ∙ sym l.0);
}
  where
    label : (c : ℕ) → c < length parents → (slice_index labels c ≡ s.rep c) × (s.rep (s.rep c) ≡ s.rep c)
    label c h = roots.each s.rep s.roots c h

    of_cell : (place a : ℕ) → place < length sparse.places → ListsAt sparse place a → a < length parents
    of_cell place a h lit = omega (arith, is.of_cells place a h lit, s.whole)
