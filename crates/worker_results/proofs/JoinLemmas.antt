-- Parts that were closed are joined results.
use Rattle.std.proofs.Common.{◌≡◌, ℕ, ◌+◌, ◌≤◌, List, [], ◌∷◌, ◌++◌, Some}
use Rattle.std.proofs.Common.{refl, ap, ◌∙◌, subst, arith}
use Rattle.std.proofs.lemmas.List.{map-append}
use Rattle.beacon.specs.declared.known.Known.{Known}
use Rattle.beacon.specs.Marks.{AtLeast}
use Rattle.set_cover.specs.Instance.{Instance}
use Rattle.proof_tree.specs.Piece.{Subproblem, Fathomed, root_of}
use Rattle.proof_tree.specs.Opened.{Split}
use Rattle.proof_tree.specs.Weights.{weigh}
use Rattle.schedule_law.specs.Worked.{Worked}
use Rattle.schedule_law.specs.Joined.{AreJoined, all_back, all_closed, all_kids, all_opened, least_size}
use Rattle.schedule_law.specs.Joined.{pieces_closed, pieces_opened}
use Rattle.schedule_law.proofs.PieceLemmas.{weigh-append}
use Rattle.schedule_law.proofs.LongLemmas.{kids-append, pieces-append}
use Rattle.worker_results.specs.Naming.{numbers_from}
use Rattle.worker_results.specs.Passes.{Owned, Row}
use Rattle.worker_results.specs.Joining.{StartWith, numbers_of, total}
use Rattle.worker_results.specs.Parting.{AreParted, told_size, weigh_done}
use Rattle.worker_results.specs.Taking.{AreDrained, TakeRows}
use Rattle.worker_results.proofs.PartLemmas.{works_less}

-- the pieces opened weigh as much in two lists as in one
weigh_opened : (h : Subproblem → ℕ) (xs ys : List Split)
    → weigh h (pieces_opened (xs ++ ys)) ≡ weigh h (pieces_opened xs) + weigh h (pieces_opened ys)
weigh_opened h xs ys = ap (weigh h) (pieces-append xs ys) ∙ weigh-append h (pieces_opened xs) (pieces_opened ys)

-- so do the pieces closed
weigh_closed : (h : Subproblem → ℕ) (xs ys : List Fathomed)
    → weigh h (pieces_closed (xs ++ ys)) ≡ weigh h (pieces_closed xs) + weigh h (pieces_closed ys)
weigh_closed h xs ys =
    ap (weigh h) (map-append (λ (f : Fathomed). f.piece) xs ys) ∙ weigh-append h (pieces_closed xs) (pieces_closed ys)

-- so do the kids
weigh_kids : (h : Subproblem → ℕ) (xs ys : List Split)
    → weigh h (all_kids (xs ++ ys)) ≡ weigh h (all_kids xs) + weigh h (all_kids ys)
weigh_kids h xs ys = ap (weigh h) (kids-append xs ys) ∙ weigh-append h (all_kids xs) (all_kids ys)

-- the kids of all workers weigh as much together as one worker after the other
total_kids : (h : Subproblem → ℕ) (xs : List Worked)
    → total (λ w. weigh h (all_kids w.opened)) xs ≡ weigh h (all_kids (all_opened xs))
total_kids h [] = refl
total_kids h (x ∷ xs) = omega (arith, total_kids h xs, weigh_kids h x.opened (all_opened xs))

-- what became of the pieces of all workers, added up worker by worker
total_done : (h : Subproblem → ℕ) (xs : List Worked) → total (weigh_done h) xs
    ≡ (weigh h (pieces_opened (all_opened xs)) + weigh h (pieces_closed (all_closed xs))) + weigh h (all_back xs)
total_done h [] = refl
total_done h (x ∷ xs) = omega (
  arith,
  total_done h xs,
  weigh_opened h x.opened (all_opened xs),
  weigh_closed h x.closed (all_closed xs),
  weigh-append h (x.held ++ x.kept) (all_back xs),
  weigh-append h x.held x.kept,
)

-- what lay on the deques at the start is what lay on those of the owners
total_starts : (h : Subproblem → ℕ) (start : ℕ → List Subproblem) (os : List Owned)
    → total (λ (o : Owned). weigh h (start o.worker)) os ≡ total (λ (w : ℕ). weigh h (start w)) (numbers_of os)
total_starts h start [] = refl
total_starts h start (o ∷ os) = omega (arith, total_starts h start os)

-- where all seats and passes came back, each piece that came to be is accounted for once
pub joined : (region : Instance) (start : ℕ → List Subproblem) (workers goal word : ℕ)
    (old new : Known) (owners drained : List Owned) (rows : List Row) (works : List Worked)
    (left : List Subproblem) → AreParted region start workers old new owners rows works → TakeRows owners rows drained
    → AreDrained drained left → old.told ≡ Some goal → new.told ≡ Some word → word ≤ new.seen
    → numbers_of owners ≡ numbers_from 0 workers → StartWith start workers (root_of region ∷ [])
    → AreJoined region goal works left
joined region start workers goal word old new owners drained rows works left p t d began told seen numbers s =
    let size : told_size old.told ≡ goal = ap told_size began in
    let low : least_size (told_size old.told) works ≤ word =
    subst (AtLeast (least_size (told_size old.told) works)) told p.kept in
    record {
      fit = works_less region (least_size goal works) new.seen works
          (let a = ap (λ n. least_size n works) size in omega arith) p.fit;
      balance = λ h. (let a = p.balance h in let c = t.pushed h in let e = t.taken h in
          let f = d h in let g = s h in let i = ap (total (λ (w : ℕ). weigh h (start w))) numbers in
          let k = total_starts h start owners in
          omega (arith, total_kids h works, total_done h works));
    }
