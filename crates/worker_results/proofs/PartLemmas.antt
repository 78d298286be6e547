-- One result more is taken apart.
use Rattle.std.proofs.Common.{◌≡◌, ℕ, ◌+◌, ◌≤◌, min, List, [], ◌∷◌, ◌++◌, length, All, Option}
use Rattle.std.proofs.Common.{Some, None, sym, ap, ◌∙◌, subst, le_trans, append_assoc, arith}
use Rattle.std.proofs.lemmas.List.{map-append}
use Rattle.std.proofs.lemmas.List.Elements.{All-push, All-weaker}
use Rattle.beacon.specs.declared.known.Known.{Known}
use Rattle.beacon.specs.Marks.{AtLeast, lesser_told, together}
use Rattle.set_cover.specs.Instance.{Instance}
use Rattle.instance_regions.specs.Cover.{Covering}
use Rattle.proof_tree.specs.Piece.{Subproblem, Fathomed}
use Rattle.proof_tree.specs.Weights.{weigh}
use Rattle.schedule_law.specs.Joined.{all_kids, least_size, less_by}
use Rattle.schedule_law.specs.Worked.{IsClosedFrom, IsWork, Worked}
use Rattle.schedule_law.proofs.PieceLemmas.{weigh-append}
use Rattle.worker_results.specs.Passes.{IsRow, KnownPass, Owned, Row, all_taken}
use Rattle.worker_results.specs.Results.{Handed, KeepsTold}
use Rattle.worker_results.specs.Joining.{numbers_of, total, workers_of, works_of}
use Rattle.worker_results.specs.Parting.{AreResultParts, IsOneMore, AreParted, told_size, weigh_done}

-- an item more adds its number
pub total-push : {A : Type 0} (f : A → ℕ) (xs : List A) (x : A) → total f (xs ++ x ∷ []) ≡ total f xs + f x
total-push f [] x = omega arith
total-push f (y ∷ ys) x = omega (arith, total-push f ys x)

-- an item more is one more
length-push : {A : Type 0} (xs : List A) (x : A) → length (xs ++ x ∷ []) ≡ length xs + 1
length-push [] x = omega arith
length-push (y ∷ ys) x = omega (arith, length-push ys x)

-- ---- sizes

-- a cover lowers the greater of two sizes to no less than the smaller
less_by_keeps : (n m : ℕ) (o : Option Covering) → n ≤ m → less_by n o ≤ less_by m o
less_by_keeps n m None le = le
less_by_keeps n m (Some c) le = omega arith

-- it doesn't matter which cover lowers a size first
less_by_swaps : (n : ℕ) (a b : Option Covering) → less_by (less_by n a) b ≤ less_by (less_by n b) a
less_by_swaps n None None = omega arith
less_by_swaps n None (Some c) = omega arith
less_by_swaps n (Some c) None = omega arith
less_by_swaps n (Some c) (Some d) = omega arith

-- a cover never raises a size
less_by_low : (n : ℕ) (o : Option Covering) → less_by n o ≤ n
less_by_low n None = omega arith
less_by_low n (Some c) = omega arith

-- a worker more may lower the least size by its cover
least-push : (n : ℕ) (xs : List Worked) (x : Worked) → least_size n (xs ++ x ∷ []) ≤ less_by (least_size n xs) x.cover
least-push n [] x = omega arith
least-push n (y ∷ ys) x =
    le_trans (less_by_keeps _ _ y.cover (least-push n ys x)) (less_by_swaps (least_size n ys) x.cover y.cover)

-- lowered by the cover that was told, a size is at most what was told
kept_cover : (n : ℕ) (o : Option Covering) (told : Option ℕ) → KeepsTold o told → AtLeast (less_by n o) told
kept_cover n o None k = tt
kept_cover n None (Some t) k = absurd k
kept_cover n (Some c) (Some t) k = omega arith

-- a smaller size is at most what a greater one is
at_least_less : (n m : ℕ) (told : Option ℕ) → n ≤ m → AtLeast m told → AtLeast n told
at_least_less n m None le k = tt
at_least_less n m (Some t) le k = omega arith

-- a size at most either of two is at most the lesser
at_least_both : (n : ℕ) (a b : Option ℕ) → AtLeast n a → AtLeast n b → AtLeast n (lesser_told a b)
at_least_both n None b h k = k
at_least_both n (Some x) None h k = h
at_least_both n (Some x) (Some y) h k = omega arith

-- ---- works

-- a floor that reaches a size reaches a smaller one
closed_less : (region : Instance) (n m : ℕ) → n ≤ m → (f : Fathomed) → IsClosedFrom region m f → IsClosedFrom region n f
closed_less region n m le f c = record { of_it = c.of_it; reaches = le_trans le c.reaches; proved = c.proved }

-- so do the floors of a worker
work_less : (region : Instance) (n m : ℕ) → n ≤ m → (work : Worked) → IsWork region m work → IsWork region n work
work_less region n m le work w = record {
  cover = w.cover;
  closed = All-weaker (IsClosedFrom region m) (IsClosedFrom region n) (closed_less region n m le) work.closed w.closed;
  opened = w.opened;
}

-- so do those of all workers
pub works_less : (region : Instance) (n m : ℕ) (works : List Worked) → n ≤ m → All (IsWork region m) works
    → All (IsWork region n) works
works_less region n m works le all =
    All-weaker (IsWork region m) (IsWork region n) (work_less region n m le) works all

-- ---- one more

module _ (region : Instance) (start : ℕ → List Subproblem) (workers : ℕ) where
  apart_push : (old new : Known) (owners : List Owned) (rows : List Row) (works : List Worked)
      (done : Handed) (own : Owned) (row : Row) (work : Worked)
      → AreParted region start workers old new owners rows works → AreResultParts region start workers done own row work
      → AreParted region start workers old (together new done.knows) (owners ++ own ∷ []) (rows ++ row ∷ [])
      (works ++ work ∷ [])
  apart_push old new owners rows works done own row work p are =
      let size : ℕ = told_size old.told in
      let both = least-push size works work in
      let before : least_size size (works ++ work ∷ []) ≤ least_size size works =
      le_trans both (less_by_low (least_size size works) work.cover) in
      record {
        first = p.first;
        out = (let a = p.out in let b = length-push rows row in omega arith);
        kept = at_least_both _ new.told done.knows.told
            (at_least_less _ (least_size size works) new.told before p.kept)
            (at_least_less _ (less_by (least_size size works) work.cover) done.knows.told both
            (kept_cover (least_size size works) work.cover done.knows.told
            (subst (λ (w : Worked). KeepsTold w.cover done.knows.told) (sym are.heaps) are.is_done.kept)));
        fit = All-push (IsWork region (min new.seen done.knows.seen)) works work
            (works_less region (min new.seen done.knows.seen) new.seen works (omega arith) p.fit)
            (work_less region (min new.seen done.knows.seen) done.knows.seen (omega arith) work
            (subst (IsWork region done.knows.seen) (sym are.heaps) are.is_done.fit));
        passes_out = All-push (λ (o : Owned). o.knows.out ≡ workers) owners own p.passes_out are.out;
        each = All-push (IsRow workers) rows row p.each are.each;
        balance = λ h. (let a = p.balance h in let b = are.is_done.adds_up.balance h in
            let c = total-push (weigh_done h) works work in
            let d = total-push (λ (o : Owned). weigh h o.knows.taken) owners own in
            let e = total-push (λ (r : Row). weigh h (all_taken r.items)) rows row in
            let j = total-push (λ (o : Owned). weigh h o.knows.pushed) owners own in
            let l = total-push (λ (o : Owned). weigh h (start o.worker)) owners own in
            let n = total-push (λ (w : Worked). weigh h (all_kids w.opened)) works work in
            let f = ap (λ (o : Owned). weigh h o.knows.taken) are.owner in
            let g = ap (λ (r : List KnownPass). weigh h (all_taken r)) are.passes in
            let i = ap (λ (w : Worked). weigh_done h w) are.heaps in
            let k = ap (λ (o : Owned). weigh h o.knows.pushed) are.owner in
            let m = ap (λ (o : Owned). weigh h (start o.worker)) are.owner in
            let o = ap (λ (w : Worked). weigh h (all_kids w.opened)) are.heaps in
            let q = weigh-append h done.holdings.own.taken (all_taken done.holdings.passes) in
            omega arith);
      }

  module _ (done : Handed) (owners more_owners : List Owned) (rows more_rows : List Row)
      (works more_works : List Worked)
      (one : IsOneMore region start workers done owners rows works more_owners more_rows more_works) where
    -- one result more was taken apart
    pub apart_more : (old new next : Known) → AreParted region start workers old new owners rows works
        → next ≡ together new done.knows → AreParted region start workers old next more_owners more_rows more_works
    apart_more old new next p is =
        subst (λ (x : Known × (List Owned × (List Row × List Worked))).
        AreParted region start workers old x.0 x.1.0 x.1.1.0 x.1.1.1)
        (λ i. (sym is i, (sym one.in_owners i, (sym one.in_rows i, sym one.in_works i))))
        (apart_push old new owners rows works done one.own one.row one.work p one.are)

    -- its owner follows the others
    pub numbers_more : (rest : List Handed)
        → numbers_of more_owners ++ workers_of rest ≡ numbers_of owners ++ workers_of (done ∷ rest)
    numbers_more rest =
        ap (λ l. numbers_of l ++ workers_of rest) one.in_owners
        ∙ ap (λ l. l ++ workers_of rest) (map-append (λ (o : Owned). o.worker) owners (one.own ∷ []))
        ∙ append_assoc (numbers_of owners) (one.own.worker ∷ []) (workers_of rest)
        ∙ ap (λ (o : Owned). numbers_of owners ++ o.worker ∷ workers_of rest) one.are.owner

    -- and so do its passes
    pub rows_more : length more_rows ≡ length rows + 1
    rows_more = ap length one.in_rows ∙ length-push rows one.row

    -- and its work
    pub works_more : (rest : List Handed) → more_works ++ works_of rest ≡ works ++ works_of (done ∷ rest)
    works_more rest =
        ap (λ (l : List Worked). l ++ works_of rest) one.in_works
        ∙ append_assoc works (one.work ∷ []) (works_of rest)
        ∙ ap (λ (w : Worked). works ++ w ∷ works_of rest) one.are.heaps
