use Rattle.std.proofs.Common.{◌++◌, [], ◌∷◌, length, append_assoc, sym, ap, ◌∙◌, arith}
use Rattle.worker_results.proofs.working.push_all.Goals as goal

pub loop-piece-preserved : goal.loop-piece-preserved
loop-piece-preserved c =
    let i = c.loop-piece.invariant in
    let step = c.in-Some.ensures.steps.0 in
    let put = c.push_reserved.ensures in
    let before = c.loop-piece.kept.items in
    let rest = c.next.new.self.rest.items in
    let fewer = ap length step in
    record {
      room = (let r = i.room in let a = put.len in let b = put.capacity in omega arith);
      all = ap (λ l. l ++ rest) put.items ∙ append_assoc before (c.in-Some.piece ∷ []) rest
          ∙ ap (λ l. before ++ l) (sym step) ∙ i.all;
    }
