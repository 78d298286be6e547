use Rattle.std.proofs.Common.{refl, ap, ◌∙◌, ◌++◌, List, ℕ, arith}
use Rattle.proof_check.proofs.nodes.NodeJudge.begin.Goals as goal

pub returns : goal.returns
returns c = record {
  begins = record {
    region = λ inside. c.in_ok-mark.ensures.marked (λ p h. (let lt = inside p h in omega (arith, c.cut.ensures.whole)))
        ∙ ap (λ (l : List ℕ). l ++ c.args.cells.now) c.cut.ensures.items;
    whole = c.in_ok-mark.ensures.whole ∙ c.cut.ensures.whole;
    seen = refl;
    rooms = refl;
    track = refl;
    floor = refl;
    weak = refl;
    bad = refl;
    weighing = refl;
  };
}
