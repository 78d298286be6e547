use Rattle.std.proofs.Common.{List, [], ◌∷◌, ◌++◌, ◌≡◌, ap, sym, ◌∙◌, length, arith, length-append}
use Rattle.proof_rules.specs.Tree.{Tree, bar}
use Rattle.proof_tree.specs.Shape.{tree_of}
use Rattle.proof_tree.specs.Bars.{wrapped}
use Rattle.proof_tree.specs.declared.bars.Bar.{Bar}
use Rattle.proof_tree.proofs.BarLemmas.{wrapped_push}
use Rattle.event_core.proofs.joining.wrap_in.Goals as goal

pub loop-bar-preserved : goal.loop-bar-preserved
loop-bar-preserved c =
    let rest = c.pop.new.self.items in let b = c.in-Some.bar in
    let parts : c.loop-bar.bars.items ≡ rest ++ b ∷ [] = c.in-Some.ensures.items in
    let rooms = c.in-Some-pop.ensures.items in
    record {
      made = ap (λ (t : Tree). wrapped rest (bar b.place b.by t)) c.holding.ensures
          ∙ sym (wrapped_push rest b (tree_of c.loop-bar.whole))
          ∙ ap (λ (l : List Bar). wrapped l (tree_of c.loop-bar.whole)) (sym parts) ∙ c.loop-bar.invariant.made;
      enough = (let l = ap length parts in let m = length-append rest (b ∷ []) in let n = c.loop-bar.invariant.enough in
          let k = ap length rooms in let q = length-append c.pop-in-Some.new.self.items (c.in-Some-pop.room ∷ []) in
          omega arith);
    }
