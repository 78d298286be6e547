-- The trees of nodes.
use Rattle.std.proofs.Common.{◌≡◌, ℕ, ◌+◌, true, List, [], ◌∷◌, ◌++◌, length, map}
use Rattle.std.proofs.Common.{take, Vec, Global, refl, sym, ap, ◌∙◌, subst, arith, append-nil}
use Rattle.std.proofs.lemmas.List.{take_all}
use Rattle.proof_rules.specs.Tree.{Tree, Forest, none, more}
use Rattle.proof_tree.specs.Bars.{wrapped}
use Rattle.proof_tree.specs.Opened.{steps_on}
use Rattle.proof_tree.specs.declared.bars.Bar.{Bar}
use Rattle.proof_tree.specs.declared.branching.Branching.{Branching}
use Rattle.proof_tree.specs.declared.branching.Branching.TheVariants.{Cell, Place}
use Rattle.proof_tree.specs.declared.proof.Below.{Below}
use Rattle.proof_tree.specs.Shape.{tree_of, forest_of}
use Rattle.proof_tree.specs.declared.proof.Proof.{Proof}
use Rattle.event_core.specs.Shape.{Shapes, parted, shape_count}
use Rattle.event_core.specs.Finished.{is_done, are_done, assembled, all_assembled, IsWhole, AreWhole, boxes_on}
use Rattle.event_core.specs.Finished.{joined_on}
use Rattle.event_core.specs.Joining.{HasTreesFor}
use Rattle.event_core.specs.State.{Way}
use Rattle.event_core.specs.NodeShape.{shape_of, shapes_of}
use Rattle.event_core.specs.declared.node.PieceNode.{PieceNode}
use Rattle.event_core.specs.declared.node.PieceNode.TheVariants.{Opened}
use Rattle.event_core.proofs.NodeLemmas.{count_nodes}

abbrev pub trees_of : List PieceNode → List Tree
trees_of ns = map (λ n. assembled (shape_of n)) ns

abbrev pub forest : List Tree → Forest
forest [] = none
forest (t ∷ ts) = more t (forest ts)

-- the trees of proofs are their forest
pub forest_trees : (ps : List Proof) → forest (map tree_of ps) ≡ forest_of ps
forest_trees [] = refl
forest_trees (p ∷ ps) = ap (more (tree_of p)) (forest_trees ps)

-- the trees of nodes are what their shapes assemble to
pub forest_nodes : (ns : List PieceNode) → forest (trees_of ns) ≡ all_assembled (shapes_of ns)
forest_nodes [] = refl
forest_nodes (n ∷ ns) = ap (more (assembled (shape_of n))) (forest_nodes ns)

-- ---- an opened piece that is done

pub record IsReady (ns : List PieceNode) (room : ℕ) : Type 0 where
  pub done : are_done (shapes_of ns) ≡ true
  pub whole : AreWhole (shapes_of ns)
  pub room_is : length ns ≡ room

-- an opened node that is done has done kids and room for their trees
pub opened_ready : (node : PieceNode) (bars : List Bar) (on : Branching) (places : List ℕ) (kids : Shapes)
    (trees : Vec Proof Global) (boxes : Vec Below Global) (ns rest : List PieceNode)
    → node ≡ Opened bars on places kids trees boxes → shapes_of ns ≡ kids → rest ≡ ns
    → is_done (shape_of node) ≡ true → IsWhole (shape_of node) → IsReady rest (length trees.items)
opened_ready node bars on places kids trees boxes ns rest is kids_are same done whole =
    let way : Way = record { bars = bars; on = on } in
    let shape : shape_of node ≡ parted way places (length trees.items) (length boxes.items) kids = ap shape_of is in
    let shapes : kids ≡ shapes_of rest = sym kids_are ∙ ap shapes_of (sym same) in
    let w : IsWhole (parted way places (length trees.items) (length boxes.items) kids) = subst IsWhole shape whole in
    let count = count_nodes rest in let same_count = ap shape_count shapes in let a = w.0 in let b = w.1 in
    record {
      done = sym (ap is_done shape ∙ ap are_done shapes) ∙ done;
      whole = subst AreWhole shapes w.3;
      room_is = omega arith;
    }

-- and it has both trees of a pick
pub trees_enough : (node : PieceNode) (bars : List Bar) (on : Branching) (places : List ℕ) (kids : Shapes)
    (trees : Vec Proof Global) (boxes : Vec Below Global) (count : ℕ) → node ≡ Opened bars on places kids trees boxes
    → IsWhole (shape_of node) → count ≡ length trees.items → HasTreesFor on count
trees_enough node bars on places kids trees boxes count is whole e = enough on places
    (e ∙ (subst IsWhole (ap shape_of is) whole).1)
  where
    enough : (on : Branching) (places : List ℕ) → count ≡ length (steps_on on places) → HasTreesFor on count
    enough (Cell cell) places e = tt
    enough (Place place) places e = e

-- and memory for what stands below others
pub boxes_enough : (node : PieceNode) (bars : List Bar) (on : Branching) (places : List ℕ) (kids : Shapes)
    (trees : Vec Proof Global) (boxes : Vec Below Global) → node ≡ Opened bars on places kids trees boxes
    → IsWhole (shape_of node) → length boxes.items ≡ length bars + boxes_on on
boxes_enough node bars on places kids trees boxes is whole = (subst IsWhole (ap shape_of is) whole).2

-- nodes of which there are none are no nodes
no_nodes : (ns : List PieceNode) → length ns ≡ 0 → ns ≡ []
no_nodes [] e = refl
no_nodes (n ∷ ns) e = absurd (omega arith)

-- with the trees of all kids made, what they are joined to is what the node assembles to
pub all_there : (node : PieceNode) (bars : List Bar) (on : Branching) (places : List ℕ) (kids : Shapes)
    (had trees : Vec Proof Global) (boxes : Vec Below Global) (index : ℕ) (ns first rest : List PieceNode)
    → node ≡ Opened bars on places kids had boxes → shapes_of ns ≡ kids → first ≡ ns → length rest ≡ 0
    → index + length rest ≡ length trees.items
    → map tree_of (take index trees.items) ++ trees_of rest ≡ trees_of first
    → wrapped bars (joined_on on (forest_of trees.items)) ≡ assembled (shape_of node)
all_there node bars on places kids had trees boxes index ns first rest is kids_are same none_left full made =
    let all : take index trees.items ≡ trees.items = take_all index trees.items (omega arith) in
    let front : map tree_of (take index trees.items) ++ [] ≡ trees_of first =
    ap (λ (l : List PieceNode). map tree_of (take index trees.items) ++ trees_of l)
    (sym (no_nodes rest none_left)) ∙ made in
    let whole : map tree_of trees.items ≡ trees_of ns = ap (λ (l : List Proof). map tree_of l) (sym all)
    ∙ sym (append-nil (map tree_of (take index trees.items))) ∙ front ∙ ap trees_of same in
    ap (λ (f : Forest). wrapped bars (joined_on on f)) (sym (forest_trees trees.items) ∙ ap forest whole
    ∙ forest_nodes ns ∙ ap all_assembled kids_are)
    ∙ sym (ap (λ (n : PieceNode). assembled (shape_of n)) is)
