-- How many turns gleaning takes.
use Rattle.std.proofs.Common.{ℕ, ◌+◌, ◌≤◌, List, [], ◌∷◌, ◌++◌, length, Option, Some, None, arith}
use Rattle.std.proofs.Common.{◌≡◌}
use Rattle.search_traits.specs.Turns.{TookOne}
use Rattle.gathering.specs.Gathered.{EachTook}

-- no piece takes no turn
pub took_none : (limit : Option ℕ) (old : ℕ) → EachTook limit 0 old old
took_none None old = omega arith
took_none (Some most) old = omega arith

-- more turns than were taken may be granted
pub took_past : (limit : Option ℕ) (pieces old mid new : ℕ) → EachTook limit pieces old mid → mid ≤ new
    → EachTook limit pieces old new
took_past None pieces old mid new took more = omega (arith, took, more)
took_past (Some most) pieces old mid new took more = omega (arith, took, more)

-- an item more is one more
length-push : {A : Type 0} (xs : List A) (x : A) → length (xs ++ x ∷ []) ≡ length xs + 1
length-push [] x = omega arith
length-push (y ∷ ys) x = omega (arith, length-push ys x)

-- a piece more takes a turn at least
pub took_next : (limit : Option ℕ) (names : List (List ℕ)) (name : List ℕ) (old mid new : ℕ)
    → EachTook limit (length names) old mid → TookOne limit mid new
    → EachTook limit (length (names ++ name ∷ [])) old new
took_next None names name old mid new took works = omega (arith, took, works)
took_next (Some most) names name old mid new took works = omega (arith, took, works, length-push names name)
