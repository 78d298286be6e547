-- Shapes in which nothing waits or is held.
use Rattle.std.proofs.Common.{◌≡◌, ◌⊎◌, inl, inr, ℕ, zero, suc, ◌+◌, Bool, true, false, ◌&&◌, true≢false, List, []}
use Rattle.std.proofs.Common.{◌∷◌, ◌++◌, length, Some, refl, sym, ap, ◌∙◌, subst, arith, append_assoc, append-nil}
use Rattle.proof_rules.specs.Tree.{Tree, Forest, leaf, weighted, branch, bar, omit, pick, none, more, tree_count}
use Rattle.proof_tree.specs.Bars.{places_of, wrapped}
use Rattle.proof_tree.specs.Opened.{Step, steps_on}
use Rattle.proof_tree.specs.declared.bars.Bar.{Bar}
use Rattle.proof_tree.specs.declared.branching.Branching.{Branching}
use Rattle.proof_tree.specs.declared.branching.Branching.TheVariants.{Cell, Place}
use Rattle.event_core.specs.State.{State, Part, waiting, held, opened, closed, IsLeft}
use Rattle.event_core.specs.Assembled.{IsAssembled, AreAssembled, IsBelow, IsClosedBy, IsOpenedOn}
use Rattle.event_core.specs.Shape.{Shape, Shapes, at_rest, in_hand, settled, parted, no_shape, one_shape, part_in}
use Rattle.event_core.specs.Shape.{part_below, shape_count}
use Rattle.event_core.specs.Finished.{IsWhole, AreWhole, is_done, are_done, assembled, all_assembled, joined_on}
use Rattle.event_core.proofs.StateLemmas.{same_part, not_none}

-- where both are set the first is
and_left : (a b : Bool) → (a && b) ≡ true → a ≡ true
and_left true b e = refl
and_left false b e = e

-- and the second
and_right : (a b : Bool) → (a && b) ≡ true → b ≡ true
and_right true b e = e
and_right false b e = absurd (true≢false (sym e))

-- one of both is false
and_false : (a b : Bool) → (a && b) ≡ false → (a ≡ false) ⊎ ((a ≡ true) × (b ≡ false))
and_false true b e = inr (refl, e)
and_false false b e = inl refl

mutual
  -- in a shape that is done no piece is left
  pub done_all : (c b : List ℕ) (s : Shape) (name : List ℕ) (p : Part) → is_done s ≡ true → part_in c b s name ≡ Some p
      → ¬ IsLeft p.status
  done_all c b at_rest name p d h = absurd (true≢false (sym d))
  done_all c b (in_hand w) name p d h = absurd (true≢false (sym d))
  done_all c b (settled f t) [] p d h = λ left. subst IsLeft
      (sym (ap (λ (q : Part). q.status) (same_part (record { chosen = c; barred = b; status = closed f t }) p h))) left
  done_all c b (settled f t) (k ∷ ks) p d h = not_none p h
  done_all c b (parted way places trees boxes kids) [] p d h = λ left. subst IsLeft
      (sym (ap (λ (q : Part). q.status) (same_part (record { chosen = c; barred = b; status = opened way }) p h))) left
  done_all c b (parted way places trees boxes kids) (k ∷ ks) p d h =
      done_below c (b ++ places_of way.bars) (steps_on way.on places) kids k ks p d h

  -- nor below its kids
  pub done_below : (c b : List ℕ) (steps : List Step) (kids : Shapes) (k : ℕ) (ks : List ℕ) (p : Part)
      → are_done kids ≡ true → part_below c b steps kids k ks ≡ Some p → ¬ IsLeft p.status
  done_below c b [] kids k ks p d h = not_none p h
  done_below c b (q ∷ qs) no_shape k ks p d h = not_none p h
  done_below c b (q ∷ qs) (one_shape s ss) zero ks p d h = done_all (c ++ q.chosen) (b ++ q.barred) s ks p
      (and_left (is_done s) (are_done ss) d) h
  done_below c b (q ∷ qs) (one_shape s ss) (suc k) ks p d h = done_below c b qs ss k ks p
      (and_right (is_done s) (are_done ss) d) h

-- a piece that waits or is held
pub record SomeLeft (c b : List ℕ) (s : Shape) : Type 0 where
  pub name : List ℕ
  pub part : Part
  pub there : part_in c b s name ≡ Some part
  pub left : IsLeft part.status

pub record SomeBelow (c b : List ℕ) (steps : List Step) (kids : Shapes) : Type 0 where
  pub number : ℕ
  pub rest : List ℕ
  pub part : Part
  pub there : part_below c b steps kids number rest ≡ Some part
  pub left : IsLeft part.status

mutual
  -- in a whole shape that isn't done some piece is left
  pub some_left : (c b : List ℕ) (s : Shape) → IsWhole s → is_done s ≡ false → SomeLeft c b s
  some_left c b at_rest w d = record {
    name = [];
    part = record { chosen = c; barred = b; status = waiting };
    there = refl;
    left = tt;
  }
  some_left c b (in_hand v) w d =
      record { name = []; part = record { chosen = c; barred = b; status = held v }; there = refl; left = tt }
  some_left c b (settled f t) w d = absurd (true≢false d)
  some_left c b (parted way places trees boxes kids) w d =
      (let l = some_below c (b ++ places_of way.bars) (steps_on way.on places) kids w.3 w.0 d in
      record { name = l.number ∷ l.rest; part = l.part; there = l.there; left = l.left })

  -- and so below kids that aren't
  pub some_below : (c b : List ℕ) (steps : List Step) (kids : Shapes) → AreWhole kids
      → shape_count kids ≡ length steps → are_done kids ≡ false → SomeBelow c b steps kids
  some_below c b steps no_shape w count d = absurd (true≢false d)
  some_below c b [] (one_shape s ss) w count d = absurd (omega arith)
  some_below c b (q ∷ qs) (one_shape s ss) w count d = elim (and_false (is_done s) (are_done ss) d) [
    | inl e ↦ (let l = some_left (c ++ q.chosen) (b ++ q.barred) s w.0 e in
        record { number = 0; rest = l.name; part = l.part; there = l.there; left = l.left })
    | inr e ↦ (let l = some_below c b qs ss w.1 (omega arith) e.1 in
        record { number = suc l.number; rest = l.rest; part = l.part; there = l.there; left = l.left })
  ]

-- ---- the tree

-- the tree that closes a piece is the piece's tree
closed_tree : (state : State) (name : List ℕ) (tree : Tree) → IsClosedBy state name tree → IsAssembled state name tree
closed_tree state name (leaf cells) k = k
closed_tree state name (weighted groups) k = k
closed_tree state name (branch cell kids) k = inl k
closed_tree state name (bar place by kid) k = inl k
closed_tree state name (omit cells kid) k = k
closed_tree state name (pick place with without) k = inl k

-- the trees of the kids of a piece that is opened on this
abbrev AreKids : State → List ℕ → Branching → Forest → Type 0
AreKids state name (Cell cell) kids = AreAssembled state name 0 kids
AreKids state name (Place place) kids = AreAssembled state name 0 kids × (tree_count kids ≡ 2)

-- joined below the other bars they are what stands below the first
below_is : (state : State) (name : List ℕ) (bars : List Bar) (on : Branching) (kids : Forest)
    → AreKids state name on kids → IsBelow state name bars on (wrapped bars (joined_on on kids))
below_is state name (b ∷ bs) on kids k = (bs, refl, below_is state name bs on kids k)
below_is state name [] (Cell cell) kids k = (refl, refl, k)
below_is state name [] (Place place) none k = absurd (omega (arith, k.1))
below_is state name [] (Place place) (more with none) k = absurd (omega (arith, k.1))
below_is state name [] (Place place) (more with (more without none)) k = (refl, refl, k.0.0, k.0.1.0)
below_is state name [] (Place place) (more with (more without (more t ts))) k = absurd (omega (arith, k.1))

-- and joined below all they are the tree of the piece
opened_is : (state : State) (name : List ℕ) (bars : List Bar) (on : Branching) (kids : Forest)
    → IsOpenedOn state name bars on → AreKids state name on kids
    → IsAssembled state name (wrapped bars (joined_on on kids))
opened_is state name (b ∷ bs) on kids o k = inr (bs, on, o, below_is state name bs on kids k)
opened_is state name [] (Cell cell) kids o k = inr (o, k)
opened_is state name [] (Place place) none o k = absurd (omega (arith, k.1))
opened_is state name [] (Place place) (more with none) o k = absurd (omega (arith, k.1))
opened_is state name [] (Place place) (more with (more without none)) o k = inr (o, k.0.0, k.0.1.0)
opened_is state name [] (Place place) (more with (more without (more t ts))) o k = absurd (omega (arith, k.1))

-- there is a tree for each kid
assembled_count : (kids : Shapes) → tree_count (all_assembled kids) ≡ shape_count kids
assembled_count no_shape = refl
assembled_count (one_shape s ss) = omega (arith, assembled_count ss)

-- as many as there are steps
kids_are : (state : State) (name : List ℕ) (on : Branching) (places : List ℕ) (kids : Forest)
    → AreAssembled state name 0 kids → tree_count kids ≡ length (steps_on on places) → AreKids state name on kids
kids_are state name (Cell cell) places kids all count = all
kids_are state name (Place place) places kids all count = (all, count)

mutual
  -- the shape stands in the state below this name
  pub assembled_is : (state : State) (front c b : List ℕ) (s : Shape) → IsWhole s → is_done s ≡ true
      → ((rest name : List ℕ) → name ≡ front ++ rest → state.part_at name ≡ part_in c b s rest)
      → IsAssembled state front (assembled s)
  assembled_is state front c b at_rest w d there = absurd (true≢false (sym d))
  assembled_is state front c b (in_hand v) w d there = absurd (true≢false (sym d))
  assembled_is state front c b (settled f t) w d there = closed_tree state front t
      (c, b, f, there [] front (sym (append-nil front)))
  assembled_is state front c b (parted way places trees boxes kids) w d there =
      opened_is state front way.bars way.on (all_assembled kids) (c, b, there [] front (sym (append-nil front)))
      (kids_are state front way.on places (all_assembled kids)
      (all_are state front c (b ++ places_of way.bars) (steps_on way.on places) kids 0 w.3 w.0 d
      (λ j rest name e. there (j ∷ rest) name (e ∙ ap (λ (n : ℕ). front ++ n ∷ rest) (omega arith))))
      (assembled_count kids ∙ w.0))

  -- kids that are done have the trees that they assemble to
  pub all_are : (state : State) (front c b : List ℕ) (steps : List Step) (kids : Shapes) (i : ℕ) → AreWhole kids
      → shape_count kids ≡ length steps → are_done kids ≡ true
      → ((j : ℕ) (rest name : List ℕ) → name ≡ front ++ (i + j) ∷ rest
      → state.part_at name ≡ part_below c b steps kids j rest) → AreAssembled state front i
      (all_assembled kids)
  all_are state front c b [] no_shape i w count d there = there 0 [] (front ++ i ∷ [])
      (ap (λ (n : ℕ). front ++ n ∷ []) (omega arith))
  all_are state front c b (q ∷ qs) no_shape i w count d there = absurd (omega arith)
  all_are state front c b [] (one_shape s ss) i w count d there = absurd (omega arith)
  all_are state front c b (q ∷ qs) (one_shape s ss) i w count d there = (
    assembled_is state (front ++ i ∷ []) (c ++ q.chosen) (b ++ q.barred) s w.0 (and_left (is_done s) (are_done ss) d)
        (λ rest name e. there 0 rest name
        (e ∙ append_assoc front (i ∷ []) rest ∙ ap (λ (n : ℕ). front ++ n ∷ rest) (omega arith))),
    all_are state front c b qs ss (i + 1) w.1 (omega arith) (and_right (is_done s) (are_done ss) d)
        (λ j rest name e. there (suc j) rest name (e ∙ ap (λ (n : ℕ). front ++ n ∷ rest) (omega arith))),
  )
