use Rattle.std.proofs.Common.{◌++◌, List, length, sym, ap, ◌∙◌, arith}
use Rattle.worker_results.specs.Results.{Handed}
use Rattle.worker_results.specs.Joining.{numbers_of, workers_of, works_of}
use Rattle.worker_results.proofs.PartLemmas.{apart_more, numbers_more, rows_more, works_more}
use Rattle.worker_results.proofs.parting.part_all.Goals as goal

pub loop-done-preserved : goal.loop-done-preserved
loop-done-preserved g c =
    let i = c.loop-done.invariant in
    let p = c.loop-done.parts in
    let q = c.in_ok-parts.parts in
    let one = c.in_ok-parts.ensures.more in
    let rest = c.next.new.self.rest.items in
    let step = c.in-Some.ensures.steps.0 in
    record {
      seat = c.in_ok-parts.ensures.seat.0;
      apart = apart_more _ _ _ _ _ _ _ _ _ _ one _ _ _ i.apart c.in_ok-parts.ensures.seat.1;
      numbers = numbers_more _ _ _ _ _ _ _ _ _ _ one rest
          ∙ ap (λ (l : List Handed). numbers_of p.owners.items ++ workers_of l) (sym step) ∙ i.numbers;
      rows = (let a = rows_more _ _ _ _ _ _ _ _ _ _ one in let b = ap length step in let e = i.rows in omega arith);
      works = works_more _ _ _ _ _ _ _ _ _ _ one rest
          ∙ ap (λ (l : List Handed). p.works.items ++ works_of l) (sym step) ∙ i.works;
    }
