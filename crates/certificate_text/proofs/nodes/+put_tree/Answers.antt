use Rattle.std.proofs.Common.{◌∙◌, ◌∷◌, [], ◌++◌, List, ℕ, length, codes, subst, sym, ap, arith, rules, length-append}
use Rattle.std.proofs.Common.{append_assoc}
use Rattle.std.proofs.lemmas.Result.{err_from_is_err_and}
use Rattle.proof_rules.specs.declared.groups.Group.{Group}
use Rattle.proof_rules.specs.Tree.{Tree, Forest, leaf, weighted, branch, bar, omit, pick}
use Rattle.proof_rules.specs.Text.{line}
use Rattle.certificate_text.specs.Lines.{tree_text, forest_text, HasDistinctCells}
use Rattle.proof_tree.specs.Order.{in_order}
use Rattle.proof_tree.specs.Shape.{tree_of, forest_of, tree_size}
use Rattle.certificate_text.specs.Sending.{IsSent, SendsAll, SendsPart}
use Rattle.proof_tree.specs.declared.proof.Proof.{Proof}
use Rattle.certificate_text.proofs.NodeLemmas.{one_line, branch_text, pick_text, count_trees, none_sent}
use Rattle.certificate_text.proofs.NodeLemmas.{next_distinct, one_sent, failed_sent, tree_below}
use Rattle.certificate_text.proofs.SentLemmas.{err_sent, then_sent, failed_before, sends_then, sends_part}
use Rattle.certificate_text.proofs.nodes.+put_tree.Goals as goal

pub put_tree-returns-in_ok-numbers-in-Leaf : goal.put_tree-returns-in_ok-numbers-in-Leaf
put_tree-returns-in_ok-numbers-in-Leaf g t c =
    let cells = c.as_slice.result.now in
    let numbers = c.deref.ensures.value ∙ c.in_ok-numbers-in-Leaf.ensures in
    let text = ap (λ (l : List ℕ). line (codes "L") l ++ 10 ∷ []) numbers
    ∙ one_line (line (codes "L") (length (in_order cells) ∷ in_order cells))
    ∙ ap (λ (l : List ℕ). tree_text (leaf l)) c.as_slice.ensures
    ∙ ap (λ (p : Proof). tree_text (tree_of p)) (sym c.in-Leaf.is) in
    subst (IsSent g.W.Write.contents c.put_line.result c.args.sink.now c.put_line.new.self) text c.put_line.ensures

pub put_tree-returns-in_err-put_line-in-Branch : goal.put_tree-returns-in_err-put_line-in-Branch
put_tree-returns-in_err-put_line-in-Branch g t c =
    let p = err_from_is_err_and c.from_residual-in_err-put_line-in-Branch.result
    c.from_residual-in_err-put_line-in-Branch.ensures.1 in
    let kids = forest_of c.trees-trees.result.now in
    let whole = branch_text c.in-Branch.cell (length c.trees-trees.result.now) kids
    (sym (count_trees c.trees-trees.result.now))
    ∙ ap (λ (f : Forest). tree_text (branch c.in-Branch.cell f)) (sym c.trees-trees.ensures)
    ∙ ap (λ (q : Proof). tree_text (tree_of q)) (sym c.in-Branch.is) in
    err_sent g.W.Write.contents c.from_residual-in_err-put_line-in-Branch.result p.0 c.args.sink.now
    c.put_line-in-Branch.new.self
    (line (codes "B") (c.in-Branch.cell ∷ length c.trees-trees.result.now ∷ []) ++ 10 ∷ [])
    (forest_text kids) _ p.1 whole c.in_err-put_line-in-Branch.ensures

pub put_tree-returns-in_ok-put_line-in-Branch : goal.put_tree-returns-in_ok-put_line-in-Branch
put_tree-returns-in_ok-put_line-in-Branch g t c =
    let kids = forest_of c.trees-trees.result.now in
    let whole = branch_text c.in-Branch.cell (length c.trees-trees.result.now) kids
    (sym (count_trees c.trees-trees.result.now))
    ∙ ap (λ (f : Forest). tree_text (branch c.in-Branch.cell f)) (sym c.trees-trees.ensures)
    ∙ ap (λ (q : Proof). tree_text (tree_of q)) (sym c.in-Branch.is) in
    then_sent g.W.Write.contents c.put_trees.result c.args.sink.now c.put_line-in-Branch.new.self
    c.put_trees.new.sink
    (line (codes "B") (c.in-Branch.cell ∷ length c.trees-trees.result.now ∷ []) ++ 10 ∷ [])
    (forest_text kids) _ whole c.in_ok-put_line-in-Branch.ensures c.put_trees.ensures

pub put_tree-returns-in_err-put_line-in-Bar : goal.put_tree-returns-in_err-put_line-in-Bar
put_tree-returns-in_err-put_line-in-Bar g t c =
    let p = err_from_is_err_and c.from_residual-in_err-put_line-in-Bar.result
    c.from_residual-in_err-put_line-in-Bar.ensures.1 in
    let whole = ap (λ (q : Proof). tree_text (tree_of q)) (sym c.in-Bar.is) in
    err_sent g.W.Write.contents c.from_residual-in_err-put_line-in-Bar.result p.0 c.args.sink.now
    c.put_line-in-Bar.new.self
    (line (codes "E") (c.in-Bar.place ∷ c.in-Bar.by ∷ []) ++ 10 ∷ [])
    (tree_text c.in-Bar.kid) _ p.1 whole c.in_err-put_line-in-Bar.ensures

pub put_tree-returns-in_ok-put_line-in-Bar : goal.put_tree-returns-in_ok-put_line-in-Bar
put_tree-returns-in_ok-put_line-in-Bar g t c =
    let below = tree_of c.tree.result.now in
    let whole = ap (λ (k : Tree). tree_text (bar c.in-Bar.place c.in-Bar.by k)) c.tree.ensures
    ∙ ap (λ (q : Proof). tree_text (tree_of q)) (sym c.in-Bar.is) in
    then_sent g.W.Write.contents c.put_tree.result c.args.sink.now c.put_line-in-Bar.new.self
    c.put_tree.new.sink
    (line (codes "E") (c.in-Bar.place ∷ c.in-Bar.by ∷ []) ++ 10 ∷ [])
    (tree_text below) _ whole c.in_ok-put_line-in-Bar.ensures c.put_tree.ensures

pub put_tree-returns-in-Weighted : goal.put_tree-returns-in-Weighted
put_tree-returns-in-Weighted g t c =
    let text = ap (λ (l : List Group). tree_text (weighted l)) c.as_slice-in-Weighted.ensures
    ∙ ap (λ (p : Proof). tree_text (tree_of p)) (sym c.in-Weighted.is) in
    subst (IsSent g.W.Write.contents c.put_weighted.result c.args.sink.now c.put_weighted.new.sink) text
    c.put_weighted.ensures

pub put_tree-returns-in_err-put_line-in-Omit : goal.put_tree-returns-in_err-put_line-in-Omit
put_tree-returns-in_err-put_line-in-Omit g t c =
    let p = err_from_is_err_and c.from_residual-in_err-put_line-in-Omit.result
    c.from_residual-in_err-put_line-in-Omit.ensures.1 in
    let numbers = c.deref-in-Omit.ensures.value ∙ c.in_ok-numbers-in-Omit.ensures
    ∙ ap (λ (l : List ℕ). length l ∷ l) c.as_slice-in-Omit.ensures in
    let whole = ap (λ (l : List ℕ). (line (codes "D") l ++ 10 ∷ []) ++ tree_text c.in-Omit.kid) numbers
    ∙ ap (λ (q : Proof). tree_text (tree_of q)) (sym c.in-Omit.is) in
    err_sent g.W.Write.contents c.from_residual-in_err-put_line-in-Omit.result p.0 c.args.sink.now
    c.put_line-in-Omit.new.self (line (codes "D") c.deref-in-Omit.result.now ++ 10 ∷ [])
    (tree_text c.in-Omit.kid) _ p.1 whole c.in_err-put_line-in-Omit.ensures

pub put_tree-returns-in_ok-put_line-in-Omit : goal.put_tree-returns-in_ok-put_line-in-Omit
put_tree-returns-in_ok-put_line-in-Omit g t c =
    let below = tree_of c.tree-in-Omit.result.now in
    let numbers = c.deref-in-Omit.ensures.value ∙ c.in_ok-numbers-in-Omit.ensures
    ∙ ap (λ (l : List ℕ). length l ∷ l) c.as_slice-in-Omit.ensures in
    let whole = ap (λ (l : List ℕ). (line (codes "D") l ++ 10 ∷ []) ++ tree_text below) numbers
    ∙ ap (λ (k : Tree). tree_text (omit c.in-Omit.cells k)) c.tree-in-Omit.ensures
    ∙ ap (λ (q : Proof). tree_text (tree_of q)) (sym c.in-Omit.is) in
    then_sent g.W.Write.contents c.put_tree-in-Omit.result c.args.sink.now c.put_line-in-Omit.new.self
    c.put_tree-in-Omit.new.sink (line (codes "D") c.deref-in-Omit.result.now ++ 10 ∷ [])
    (tree_text below) _ whole c.in_ok-put_line-in-Omit.ensures c.put_tree-in-Omit.ensures

pub put_tree-returns-in_err-put_line-in-Pick : goal.put_tree-returns-in_err-put_line-in-Pick
put_tree-returns-in_err-put_line-in-Pick g t c =
    let p = err_from_is_err_and c.from_residual-in_err-put_line-in-Pick.result
    c.from_residual-in_err-put_line-in-Pick.ensures.1 in
    let whole = pick_text c.in-Pick.place c.in-Pick.with c.in-Pick.without
    ∙ ap (λ (q : Proof). tree_text (tree_of q)) (sym c.in-Pick.is) in
    err_sent g.W.Write.contents c.from_residual-in_err-put_line-in-Pick.result p.0 c.args.sink.now
    c.put_line-in-Pick.new.self (line (codes "P") (c.in-Pick.place ∷ []) ++ 10 ∷ [])
    (tree_text c.in-Pick.with ++ tree_text c.in-Pick.without) _ p.1 whole c.in_err-put_line-in-Pick.ensures

pub put_tree-returns-in_err-put_tree-in-Pick : goal.put_tree-returns-in_err-put_tree-in-Pick
put_tree-returns-in_err-put_tree-in-Pick g t c =
    let p = err_from_is_err_and c.from_residual-in_err-put_tree-in-Pick.result
    c.from_residual-in_err-put_tree-in-Pick.ensures.1 in
    let first = line (codes "P") (c.in-Pick.place ∷ []) ++ 10 ∷ [] in
    let below = tree_of c.tree-in-Pick.result.now in
    let whole = append_assoc first (tree_text below) (tree_text c.in-Pick.without)
    ∙ pick_text c.in-Pick.place below c.in-Pick.without
    ∙ ap (λ (k : Tree). tree_text (pick c.in-Pick.place k c.in-Pick.without)) c.tree-in-Pick.ensures
    ∙ ap (λ (q : Proof). tree_text (tree_of q)) (sym c.in-Pick.is) in
    err_sent g.W.Write.contents c.from_residual-in_err-put_tree-in-Pick.result p.0 c.args.sink.now
    c.put_tree-in-Pick.new.sink (first ++ tree_text below) (tree_text c.in-Pick.without) _ p.1 whole
    (sends_part g.W.Write.contents c.args.sink.now c.put_line-in-Pick.new.self c.put_tree-in-Pick.new.sink first
    (tree_text below) c.in_ok-put_line-in-Pick.ensures c.in_err-put_tree-in-Pick.ensures)

pub put_tree-returns-in_ok-put_tree-in-Pick : goal.put_tree-returns-in_ok-put_tree-in-Pick
put_tree-returns-in_ok-put_tree-in-Pick g t c =
    let first = line (codes "P") (c.in-Pick.place ∷ []) ++ 10 ∷ [] in
    let with = tree_of c.tree-in-Pick.result.now in let without = tree_of c.tree-in-Pick-2.result.now in
    let whole = append_assoc first (tree_text with) (tree_text without) ∙ pick_text c.in-Pick.place with without
    ∙ ap (λ (k : Tree). tree_text (pick c.in-Pick.place k without)) c.tree-in-Pick.ensures
    ∙ ap (λ (k : Tree). tree_text (pick c.in-Pick.place c.in-Pick.with k)) c.tree-in-Pick-2.ensures
    ∙ ap (λ (q : Proof). tree_text (tree_of q)) (sym c.in-Pick.is) in
    then_sent g.W.Write.contents c.put_tree-in-Pick-2.result c.args.sink.now c.put_tree-in-Pick.new.sink
    c.put_tree-in-Pick-2.new.sink (first ++ tree_text with) (tree_text without) _ whole
    (sends_then g.W.Write.contents c.args.sink.now c.put_line-in-Pick.new.self c.put_tree-in-Pick.new.sink first
    (tree_text with) c.in_ok-put_line-in-Pick.ensures c.in_ok-put_tree-in-Pick.ensures) c.put_tree-in-Pick-2.ensures

pub put_trees-loop-tree-init : goal.put_trees-loop-tree-init
put_trees-loop-tree-init g t c = none_sent g.W.Write.contents c.args.sink.now c.args.trees.now c.requires

pub put_trees-put_tree-requires : goal.put_trees-put_tree-requires
put_trees-put_tree-requires g t c κs within =
    let i = c.loop-tree.tree-index in
    let same = ap (λ (p : Proof). tree_size (tree_of p)) c.tree-item.is in
    let below = tree_below c.args.trees.now i c.tree-item.result c.loop-tree-test.true in
    let distinct = next_distinct g.W.Write.contents c.args.sink.now c.loop-tree.sink c.args.trees.now i
    c.tree-item.result c.loop-tree-test.true c.loop-tree.invariant in (
      omega (arith, below, same, c.decreases),
      (
        search rules,
        subst (λ (p : Proof). HasDistinctCells (tree_of p))
            (sym c.tree-item.is) distinct.0,
      ),
    )

pub put_trees-returns-in_err-put_tree : goal.put_trees-returns-in_err-put_tree
put_trees-returns-in_err-put_tree g t c =
    let p = err_from_is_err_and c.from_residual.result c.from_residual.ensures.1 in
    let part = subst (λ (q : Proof). SendsPart g.W.Write.contents c.loop-tree.sink c.put_tree.new.sink
    (tree_text (tree_of q))) c.tree-item.is c.in_err-put_tree.ensures in
    rw p.1 (failed_sent g.W.Write.contents c.args.sink.now c.loop-tree.sink c.put_tree.new.sink c.args.trees.now
    c.loop-tree.tree-index c.tree-item.result c.loop-tree-test.true c.loop-tree.invariant part)

pub put_trees-loop-tree-preserved : goal.put_trees-loop-tree-preserved
put_trees-loop-tree-preserved g t c =
    let sent = subst (λ (q : Proof). SendsAll g.W.Write.contents c.loop-tree.sink c.put_tree.new.sink
    (tree_text (tree_of q))) c.tree-item.is c.in_ok-put_tree.ensures in
    one_sent g.W.Write.contents c.args.sink.now c.loop-tree.sink c.put_tree.new.sink c.args.trees.now
    c.loop-tree.tree-index c.tree-item.result c.loop-tree-test.true c.loop-tree.invariant sent

pub put_tree-returns-in_err-numbers-in-Leaf : goal.put_tree-returns-in_err-numbers-in-Leaf
put_tree-returns-in_err-numbers-in-Leaf g t c =
    let p = err_from_is_err_and c.from_residual.result c.from_residual.ensures.1 in
    let cells = c.in-Leaf.cells in
    let first = line (codes "L") (length (in_order cells) ∷ in_order cells) in
    let text = one_line first ∙ ap (λ (q : Proof). tree_text (tree_of q)) (sym c.in-Leaf.is) in
    failed_before g.W.Write.contents c.from_residual.result p.0 c.args.sink.now
    (tree_text (tree_of c.args.proof.now)) p.1 (omega (arith, ap length text, length-append first (10 ∷ [])))
