use Rattle.std.proofs.Common.{List, [], ◌∷◌, ◌++◌, ◌≡◌, ap, sym, ◌∙◌}
use Rattle.proof_rules.specs.Tree.{Tree}
use Rattle.proof_tree.specs.Shape.{tree_of}
use Rattle.proof_tree.specs.Bars.{wrapped}
use Rattle.proof_tree.specs.declared.bars.Bar.{Bar}
use Rattle.proof_tree.proofs.BarLemmas.{wrapped_push}
use Rattle.proof_tree.proofs.bars.wrap.Goals as goal

pub loop-bar-preserved : goal.loop-bar-preserved
loop-bar-preserved c =
    let rest = c.pop.new.self.items in
    let parts : c.loop-bar.bars.items ≡ rest ++ c.in-Some.bar ∷ [] = c.in-Some.ensures.items in
    ap (λ (t : Tree). wrapped rest t) c.in_ok-whole.ensures
    ∙ sym (wrapped_push rest c.in-Some.bar (tree_of c.loop-bar.whole))
    ∙ ap (λ (l : List Bar). wrapped l (tree_of c.loop-bar.whole)) (sym parts) ∙ c.loop-bar.invariant
