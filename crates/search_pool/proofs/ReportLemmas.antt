-- What a report's numbers add up to.
use Rattle.std.proofs.Common.{◌≡◌, ℕ, ◌+◌, ◌-◌, ◌^◌, ◌<◌, Option, Some, None, List, [], ◌∷◌, ◌++◌, length, min}
use Rattle.std.proofs.Common.{refl, sym, ap, ◌∙◌, arith}
use Rattle.std.specs.Prelude.{IfSome, map}
use Rattle.set_cover.specs.Instance.{Instance}
use Rattle.proof_tree.specs.Piece.{Subproblem}
use Rattle.schedule_law.specs.Joined.{AreJoined, all_closed, all_pieces}
use Rattle.schedule_law.specs.Worked.{Worked}
use Rattle.schedule_law.proofs.LawLemmas.{counts}
use Rattle.gathering.specs.Counted.{AreCounted}
use Rattle.gathering.specs.Gathered.{Gathering, IsGathered}
use Rattle.gathering.proofs.LawLemmas.{counted}
use Rattle.search_traits.specs.Turns.{AreSpent, IsWithin, rest}
use Rattle.gathering.specs.Gathered.{StopsGathering}
use Rattle.search_traits.specs.declared.region_fault.RegionFault.TheVariants.{Stopped}
use Rattle.search_traits.specs.declared.so_far.SoFar.{SoFar}
use Rattle.search_pool.specs.Reports.{StopsPool, sum_of}
use Rattle.search_pool.specs.Rows.{counted as counted_sum}
use Rattle.search_pool.specs.Tallies.{AreTallied}
use Rattle.search_pool.specs.declared.piece_counts.PieceCounts.{PieceCounts}

-- two lists are together as long as both
length-append : {A : Type 0} (xs ys : List A) → length (xs ++ ys) ≡ length xs + length ys
length-append [] ys = omega arith
length-append (x ∷ xs) ys = omega (arith, length-append xs ys)

-- what each worker closed, added up
pub sum_of_closed : (works : List Worked) → sum_of (map (λ work. length work.closed) works) ≡ length (all_closed works)
sum_of_closed [] = refl
sum_of_closed (work ∷ works) =
    let rest = sum_of_closed works in let all = length-append work.closed (all_closed works) in omega (arith, rest, all)

module _ (region : Instance) (first : List ℕ) (aim : ℕ) (works : List Worked) (left : List Subproblem)
    (joined : AreJoined region (min aim (length first)) works left) where
  -- what was gathered counts all
  pub counted_at : (gathered : Gathering) → IsGathered region first aim works gathered → AreCounted works left gathered
  counted_at gathered is = counted region first aim works left joined gathered is

  -- all that came to be is what was opened, closed, handed back or left
  pub all_came : (tally : PieceCounts) → AreTallied works tally
      → length (all_pieces region works) ≡ tally.opened + tally.closed + (tally.held + tally.kept) + length left
  all_came tally told =
      let all = counts region (min aim (length first)) works left joined in
      let a = told.closed in let b = told.opened in let c = told.back in omega (arith, all, a, b, c)

-- the caller's thread closed what was handed back and what was left
pub all_gleaned : (works : List Worked) (left : List Subproblem) (gathered : Gathering) (tally : PieceCounts)
    → AreCounted works left gathered → AreTallied works tally
    → length gathered.gleaned ≡ tally.held + tally.kept + length left
all_gleaned works left gathered tally counted told =
    let a = counted.by_caller in let b = told.back in omega (arith, a, b)

-- and workers closed the rest
pub all_by_workers : (works : List Worked) (left : List Subproblem) (gathered : Gathering) (tally : PieceCounts)
    → AreCounted works left gathered → AreTallied works tally → sum_of gathered.closed_by ≡ tally.closed
all_by_workers works left gathered tally counted told =
    ap sum_of counted.by_workers ∙ sum_of_closed works ∙ sym told.closed

-- turns of workers, and of the caller's thread after them, are no more than there are
pub both_within : (turns : Option ℕ) (granted more : ℕ) → IsWithin turns granted → IsWithin (rest turns granted) more
    → IsWithin turns (counted_sum (granted + more))
both_within None granted more first later = tt
both_within (Some most) granted more first later = omega (arith, first, later)

-- where the caller's thread took all that workers left, all were taken
pub all_spent : (turns : Option ℕ) (granted more sum : ℕ) → IsWithin turns granted
    → IfSome turns (λ most. most < 2 ^ 64) → AreSpent (rest turns granted) more
    → sum ≡ counted_sum (granted + more) → AreSpent turns sum
all_spent None granted more sum within fits spent same = absurd (cc)
all_spent (Some most) granted more sum within fits spent same =
    let left : most - granted ≡ more = cc in
    ap Some (let e : most ≡ sum = omega (arith, left, within, fits, same) in e)

-- a stop of the caller's thread is one of all
pub stops_all : (region : Instance) (turns : Option ℕ) (granted sum : ℕ) (found : SoFar)
    → IsWithin turns granted → IfSome turns (λ most. most < 2 ^ 64) → sum ≡ counted_sum (granted + found.granted)
    → StopsGathering region (rest turns granted) (Stopped found)
    → StopsPool region turns (Stopped (record { cover = found.cover; floor = found.floor; granted = sum }))
stops_all region None granted sum found within fits same stops = (let spent = stops.1 in absurd (cc))
stops_all region (Some most) granted sum found within fits same stops = (
  record { limited = refl; of_it = stops.0.of_it; some = stops.0.some; none_below = stops.0.none_below },
  all_spent (Some most) granted found.granted sum within fits stops.1 same,
)
