-- Heaps of pieces with one more at the end.
use Rattle.std.proofs.Common.{◌≡◌, ℕ, ◌+◌, ◌≤◌, List, [], ◌∷◌, ◌++◌, ap, ◌∙◌, le_trans, arith}
use Rattle.std.proofs.lemmas.List.Elements.{All-push, All-weaker}
use Rattle.set_cover.specs.Instance.{Instance}
use Rattle.proof_tree.specs.Piece.{Subproblem, Fathomed, IsClosed}
use Rattle.proof_tree.specs.Opened.{Split, kids_of}
use Rattle.proof_tree.specs.Weights.{weigh}
use Rattle.piece_deque.proofs.TotalLemmas.{weigh_append}
use Rattle.schedule_law.specs.Worked.{IsClosedFrom}
use Rattle.schedule_law.specs.Joined.{all_kids, pieces_closed, pieces_opened}
use Rattle.search_traits.specs.Pieces.{IsClosing}
use Rattle.worker_results.specs.Holdings.{AreClosedFrom}

-- a closed piece more adds its weight
pub closed_snoc : (h : Subproblem → ℕ) (es : List Fathomed) (e : Fathomed)
    → weigh h (pieces_closed (es ++ e ∷ [])) ≡ weigh h (pieces_closed es) + h e.piece
closed_snoc h [] e = omega arith
closed_snoc h (x ∷ xs) e = omega (arith, closed_snoc h xs e)

-- an opened piece more adds its weight
pub opened_snoc : (h : Subproblem → ℕ) (ss : List Split) (s : Split)
    → weigh h (pieces_opened (ss ++ s ∷ [])) ≡ weigh h (pieces_opened ss) + h s.piece
opened_snoc h [] s = omega arith
opened_snoc h (x ∷ xs) s = omega (arith, opened_snoc h xs s)

-- an opened piece more adds the weight of its kids
pub kids_snoc : (h : Subproblem → ℕ) (ss : List Split) (s : Split)
    → weigh h (all_kids (ss ++ s ∷ [])) ≡ weigh h (all_kids ss) + weigh h (kids_of s)
kids_snoc h [] s = let e = weigh_append h (kids_of s) [] in omega arith
kids_snoc h (x ∷ xs) s =
    let a = weigh_append h (kids_of x) (all_kids (xs ++ s ∷ [])) in
    let b = weigh_append h (kids_of x) (all_kids xs) in omega (arith, kids_snoc h xs s)

-- a lesser floor
pub from_less : (region : Instance) (n m : ℕ) (e : Fathomed) → n ≤ m → IsClosedFrom region m e → IsClosedFrom region n e
from_less region n m e le h = record { of_it = h.of_it; reaches = le_trans le h.reaches; proved = h.proved }

-- a lesser floor for all
pub all_from_less : (region : Instance) (n m : ℕ) (es : List Fathomed) → n ≤ m
    → AreClosedFrom region m es → AreClosedFrom region n es
all_from_less region n m es le all =
    All-weaker (IsClosedFrom region m) (IsClosedFrom region n) (λ e h. from_less region n m e le h) es all

-- one more closed piece, where the floor may be lesser than before
pub all_from_push : (region : Instance) (n m : ℕ) (es : List Fathomed) (e : Fathomed) → n ≤ m
    → IsClosedFrom region n e → AreClosedFrom region m es → AreClosedFrom region n (es ++ e ∷ [])
all_from_push region n m es e le one all =
    All-push (IsClosedFrom region n) es e (all_from_less region n m es le all) one

-- what closing a piece of the region gives
pub from_closing : (region : Instance) (p : Subproblem) (least : ℕ) (e : Fathomed) → IsClosing p least e
    → p.region ≡ region → IsClosed e → IsClosedFrom region least e
from_closing region p least e closing on proved = record {
  of_it = ap (λ (q : Subproblem). q.region) closing.of_it ∙ on;
  reaches = closing.reached;
  proved = proved;
}
