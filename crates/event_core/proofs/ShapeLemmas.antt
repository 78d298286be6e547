-- What a new shape at a name changes.
use Rattle.std.proofs.Common.{◌≡◌, ◌≢◌, ℕ, zero, suc, ◌+◌, List, [], ◌∷◌, ◌++◌, Some, None, refl, sym, ap, ◌∙◌, subst}
use Rattle.proof_tree.specs.Bars.{places_of}
use Rattle.proof_tree.specs.Opened.{Step, steps_on}
use Rattle.event_core.specs.State.{opened, Part, IsLeft}
use Rattle.event_core.specs.Shape.{Shape, Shapes, at_rest, in_hand, settled, parted, no_shape, one_shape, status_of}
use Rattle.event_core.specs.Shape.{part_in, part_below, put_in, put_below, shape_count}
use Rattle.event_core.specs.Finished.{IsWhole, AreWhole}
use Rattle.event_core.proofs.StateLemmas.{same_part, not_none}

-- below the name stands the new shape
mutual
  -- what is put at a name is found there
  pub put_there : (c b : List ℕ) (s new : Shape) (name rest : List ℕ) (p : Part) → part_in c b s name ≡ Some p
      → part_in c b (put_in s name new) (name ++ rest) ≡ part_in p.chosen p.barred new rest
  put_there c b s new [] rest p h =
      let e = same_part (record { chosen = c; barred = b; status = status_of s }) p h in
      ap (λ (q : Part). part_in q.chosen q.barred new rest) e
  put_there c b at_rest new (k ∷ ks) rest p h = not_none p h
  put_there c b (in_hand w) new (k ∷ ks) rest p h = not_none p h
  put_there c b (settled f t) new (k ∷ ks) rest p h = not_none p h
  put_there c b (parted way places trees boxes kids) new (k ∷ ks) rest p h =
      put_there_below c (b ++ places_of way.bars) (steps_on way.on places) kids new k ks rest p h

  -- and below a kid's number
  pub put_there_below : (c b : List ℕ) (steps : List Step) (kids : Shapes) (new : Shape) (k : ℕ) (ks rest : List ℕ)
      (p : Part) → part_below c b steps kids k ks ≡ Some p
      → part_below c b steps (put_below kids k ks new) k (ks ++ rest) ≡ part_in p.chosen p.barred new rest
  put_there_below c b [] kids new k ks rest p h = not_none p h
  put_there_below c b (q ∷ qs) no_shape new k ks rest p h = not_none p h
  put_there_below c b (q ∷ qs) (one_shape s ss) new zero ks rest p h =
      put_there (c ++ q.chosen) (b ++ q.barred) s new ks rest p h
  put_there_below c b (q ∷ qs) (one_shape s ss) new (suc k) ks rest p h = put_there_below c b qs ss new k ks rest p h

-- names equal but for a first number stay equal when it is raised
up : (j k : ℕ) (js ks : List ℕ) → j ∷ js ≡ k ∷ ks → suc j ∷ js ≡ suc k ∷ ks
up j k js ks e = cc

-- elsewhere all stays
mutual
  -- what doesn't stand below the name stays
  pub put_apart : (c b : List ℕ) (s new : Shape) (name other : List ℕ) → ((rest : List ℕ) → other ≢ name ++ rest)
      → part_in c b (put_in s name new) other ≡ part_in c b s other
  put_apart c b s new [] other ne = absurd (ne other refl)
  put_apart c b at_rest new (k ∷ ks) other ne = refl
  put_apart c b (in_hand w) new (k ∷ ks) other ne = refl
  put_apart c b (settled f t) new (k ∷ ks) other ne = refl
  put_apart c b (parted way places trees boxes kids) new (k ∷ ks) [] ne = refl
  put_apart c b (parted way places trees boxes kids) new (k ∷ ks) (j ∷ js) ne =
      put_apart_below c (b ++ places_of way.bars) (steps_on way.on places) kids new k ks j js ne

  -- and stays below other kids
  pub put_apart_below : (c b : List ℕ) (steps : List Step) (kids : Shapes) (new : Shape) (k : ℕ) (ks : List ℕ)
      (j : ℕ) (js : List ℕ)
      → ((rest : List ℕ) → j ∷ js ≢ (k ∷ ks) ++ rest)
      → part_below c b steps (put_below kids k ks new) j js ≡ part_below c b steps kids j js
  put_apart_below c b [] kids new k ks j js ne = refl
  put_apart_below c b (q ∷ qs) no_shape new k ks j js ne = refl
  put_apart_below c b (q ∷ qs) (one_shape s ss) new zero ks zero js ne =
      put_apart (c ++ q.chosen) (b ++ q.barred) s new ks js (λ rest e. ne rest (ap (λ (l : List ℕ). 0 ∷ l) e))
  put_apart_below c b (q ∷ qs) (one_shape s ss) new zero ks (suc j) js ne = refl
  put_apart_below c b (q ∷ qs) (one_shape s ss) new (suc k) ks zero js ne = refl
  put_apart_below c b (q ∷ qs) (one_shape s ss) new (suc k) ks (suc j) js ne =
      put_apart_below c b qs ss new k ks j js (λ rest e. ne rest (up j k js (ks ++ rest) e))

-- nothing stands below what isn't opened
mutual
  -- below a piece that is left there is nothing
  pub nothing_below : (c b : List ℕ) (s : Shape) (name : List ℕ) (k : ℕ) (rest : List ℕ) (p : Part)
      → part_in c b s name ≡ Some p → IsLeft p.status
      → part_in c b s (name ++ k ∷ rest) ≡ None
  nothing_below c b at_rest [] k rest p h left = refl
  nothing_below c b (in_hand w) [] k rest p h left = refl
  nothing_below c b (settled f t) [] k rest p h left = refl
  nothing_below c b (parted way places trees boxes kids) [] k rest p h left =
      absurd (subst IsLeft (sym (ap (λ (q : Part). q.status)
      (same_part (record { chosen = c; barred = b; status = opened way }) p h))) left)
  nothing_below c b at_rest (j ∷ js) k rest p h left = refl
  nothing_below c b (in_hand w) (j ∷ js) k rest p h left = refl
  nothing_below c b (settled f t) (j ∷ js) k rest p h left = refl
  nothing_below c b (parted way places trees boxes kids) (j ∷ js) k rest p h left =
      nothing_below_kid c (b ++ places_of way.bars) (steps_on way.on places) kids j js k rest p h left

  -- nor below such a kid
  pub nothing_below_kid : (c b : List ℕ) (steps : List Step) (kids : Shapes) (j : ℕ) (js : List ℕ) (k : ℕ)
      (rest : List ℕ) (p : Part) → part_below c b steps kids j js ≡ Some p → IsLeft p.status
      → part_below c b steps kids j (js ++ k ∷ rest) ≡ None
  nothing_below_kid c b [] kids j js k rest p h left = refl
  nothing_below_kid c b (q ∷ qs) no_shape j js k rest p h left = refl
  nothing_below_kid c b (q ∷ qs) (one_shape s ss) zero js k rest p h left =
      nothing_below (c ++ q.chosen) (b ++ q.barred) s js k rest p h left
  nothing_below_kid c b (q ∷ qs) (one_shape s ss) (suc j) js k rest p h left =
      nothing_below_kid c b qs ss j js k rest p h left

-- each opened piece keeps its room
mutual
  -- a whole shape stays so with a whole one put in it
  pub put_whole : (s new : Shape) (name : List ℕ) → IsWhole s → IsWhole new → IsWhole (put_in s name new)
  put_whole s new [] w n = n
  put_whole at_rest new (k ∷ ks) w n = tt
  put_whole (in_hand v) new (k ∷ ks) w n = tt
  put_whole (settled f t) new (k ∷ ks) w n = tt
  put_whole (parted way places trees boxes kids) new (k ∷ ks) w n =
      (put_count kids k ks new ∙ w.0, w.1, w.2, put_whole_below kids k ks new w.3 n)

  -- and so do its kids
  pub put_whole_below : (kids : Shapes) (k : ℕ) (ks : List ℕ) (new : Shape) → AreWhole kids → IsWhole new
      → AreWhole (put_below kids k ks new)
  put_whole_below no_shape k ks new w n = tt
  put_whole_below (one_shape s ss) zero ks new w n = (put_whole s new ks w.0 n, w.1)
  put_whole_below (one_shape s ss) (suc k) ks new w n = (w.0, put_whole_below ss k ks new w.1 n)

  -- putting leaves the number of kids
  pub put_count : (kids : Shapes) (k : ℕ) (ks : List ℕ) (new : Shape)
      → shape_count (put_below kids k ks new) ≡ shape_count kids
  put_count no_shape k ks new = refl
  put_count (one_shape s ss) zero ks new = refl
  put_count (one_shape s ss) (suc k) ks new = ap (λ (n : ℕ). n + 1) (put_count ss k ks new)
