-- The shapes of nodes.
use Rattle.std.proofs.Common.{◌≡◌, ℕ, zero, suc, ◌+◌, ◌<◌, ◌≤◌, List, [], ◌∷◌, ◌++◌, length, get_or, set, None, refl}
use Rattle.std.proofs.Common.{ap, ◌∙◌, arith}
use Rattle.proof_tree.specs.Opened.{Step, step_at}
use Rattle.event_core.specs.Shape.{Shape, Shapes, at_rest, no_shape, one_shape, part_in, part_below, put_in}
use Rattle.event_core.specs.Shape.{put_below, shape_size, shapes_size, shape_count}
use Rattle.event_core.specs.Finished.{all_at_rest}
use Rattle.event_core.specs.NodeShape.{shape_of, shapes_of}
use Rattle.event_core.specs.declared.node.PieceNode.{PieceNode}

-- the part below a kid's number is that of the kid
pub kid_here : (c b : List ℕ) (steps : List Step) (ns : List PieceNode) (k : ℕ) (d : PieceNode) (ks : List ℕ)
    → k < length steps → k < length ns
    → part_below c b steps (shapes_of ns) k ks
    ≡ part_in (c ++ (step_at steps k).chosen) (b ++ (step_at steps k).barred) (shape_of (get_or ns k d)) ks
kid_here c b [] ns k d ks lt less = absurd (omega arith)
kid_here c b (q ∷ qs) [] k d ks lt less = absurd (omega arith)
kid_here c b (q ∷ qs) (n ∷ ns) zero d ks lt less = refl
kid_here c b (q ∷ qs) (n ∷ ns) (suc k) d ks lt less = kid_here c b qs ns k d ks (omega arith) (omega arith)

-- past the last step there is none
pub no_step : (c b : List ℕ) (steps : List Step) (kids : Shapes) (k : ℕ) (ks : List ℕ) → length steps ≤ k
    → part_below c b steps kids k ks ≡ None
no_step c b [] kids k ks le = refl
no_step c b (q ∷ qs) no_shape k ks le = refl
no_step c b (q ∷ qs) (one_shape s ss) zero ks le = absurd (omega arith)
no_step c b (q ∷ qs) (one_shape s ss) (suc k) ks le = no_step c b qs ss k ks (omega arith)

-- past the last kid there is none
pub no_node : (c b : List ℕ) (steps : List Step) (ns : List PieceNode) (k : ℕ) (ks : List ℕ) → length ns ≤ k
    → part_below c b steps (shapes_of ns) k ks ≡ None
no_node c b [] ns k ks le = refl
no_node c b (q ∷ qs) [] k ks le = refl
no_node c b (q ∷ qs) (n ∷ ns) zero ks le = absurd (omega arith)
no_node c b (q ∷ qs) (n ∷ ns) (suc k) ks le = no_node c b qs ns k ks (omega arith)

-- a shape put below a kid's number is put in the kid
pub put_kid : (ns : List PieceNode) (k : ℕ) (ks : List ℕ) (new : Shape) (n d : PieceNode) → k < length ns
    → shape_of n ≡ put_in (shape_of (get_or ns k d)) ks new
    → shapes_of (set ns k n) ≡ put_below (shapes_of ns) k ks new
put_kid [] k ks new n d lt e = absurd (omega arith)
put_kid (m ∷ ms) zero ks new n d lt e = ap (λ (s : Shape). one_shape s (shapes_of ms)) e
put_kid (m ∷ ms) (suc k) ks new n d lt e = ap (one_shape (shape_of m)) (put_kid ms k ks new n d (omega arith) e)

-- past the last kid nothing is put
pub put_far : (ns : List PieceNode) (k : ℕ) (ks : List ℕ) (new : Shape) → length ns ≤ k
    → shapes_of ns ≡ put_below (shapes_of ns) k ks new
put_far [] k ks new le = refl
put_far (m ∷ ms) zero ks new le = absurd (omega arith)
put_far (m ∷ ms) (suc k) ks new le = ap (one_shape (shape_of m)) (put_far ms k ks new (omega arith))

-- what was put last at a place stands there
pub set_twice : (ns : List PieceNode) (k : ℕ) (a b : PieceNode) → set (set ns k a) k b ≡ set ns k b
set_twice [] k a b = refl
set_twice (m ∷ ms) zero a b = refl
set_twice (m ∷ ms) (suc k) a b = ap (λ (l : List PieceNode). m ∷ l) (set_twice ms k a b)

-- a kid is smaller than all kids together
pub kid_smaller : (ns : List PieceNode) (k : ℕ) (d : PieceNode) → k < length ns
    → shape_size (shape_of (get_or ns k d)) < shapes_size (shapes_of ns)
kid_smaller [] k d lt = absurd (omega arith)
kid_smaller (n ∷ ns) zero d lt = omega arith
kid_smaller (n ∷ ns) (suc k) d lt = (let rest = kid_smaller ns k d (omega arith) in omega arith)

-- as many shapes as nodes
pub count_nodes : (ns : List PieceNode) → shape_count (shapes_of ns) ≡ length ns
count_nodes [] = refl
count_nodes (n ∷ ns) = omega (arith, count_nodes ns)

-- ---- waiting kids

abbrev pub added : Shapes → Shapes
added no_shape = one_shape at_rest no_shape
added (one_shape s ss) = one_shape s (added ss)

-- a node at rest more is a shape at rest more
pub nodes_push : (ns : List PieceNode) (n : PieceNode) → shape_of n ≡ at_rest
    → shapes_of (ns ++ n ∷ []) ≡ added (shapes_of ns)
nodes_push [] n e = ap (λ (s : Shape). one_shape s no_shape) e
nodes_push (m ∷ ms) n e = ap (one_shape (shape_of m)) (nodes_push ms n e)

-- one kid at rest more
pub rest_push : (count : ℕ) → all_at_rest (count + 1) ≡ added (all_at_rest count)
rest_push count = ap all_at_rest (one_up count) ∙ rest_suc count
  where
    one_up : (n : ℕ) → n + 1 ≡ suc n
    one_up n = omega arith

    rest_suc : (n : ℕ) → all_at_rest (suc n) ≡ added (all_at_rest n)
    rest_suc zero = refl
    rest_suc (suc n) = ap (one_shape at_rest) (rest_suc n)
