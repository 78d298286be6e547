use Rattle.std.proofs.Common.{◌≡◌, ◌∷◌, suc, length, All, sym, ap, ◌∙◌, subst, arith}
use Rattle.std.proofs.lemmas.List.Elements.{All-head, All-tail}
use Rattle.proof_tree.specs.Weights.{weigh}
use Rattle.worker_results.specs.Passes.{IsRow, Owned, Row, all_taken}
use Rattle.worker_results.specs.Joining.{total}
use Rattle.worker_results.specs.Parting.{AreOut}
use Rattle.worker_results.proofs.TakeLemmas.{owners_long, row_long, out_in, pushed_in, taken_in}
use Rattle.worker_results.proofs.deques.take_rows.Goals as goal

pub loop-row-preserved : goal.loop-row-preserved
loop-row-preserved g c =
    let i = c.loop-row.invariant in
    let workers = g.B.Naming.workers in
    let row : Row = c.in-Some.row in
    let rest = c.next.new.self.rest.items in
    let old = c.loop-row.owners.items in
    let now = c.take_row.ensures.done in
    let step = c.in-Some.ensures.steps.0 in
    let rows : All (IsRow workers) (row ∷ rest) = subst (All (IsRow workers)) step i.rows in
    let same : length row.items ≡ length old =
    row_long row.items 0 workers (All-head (IsRow workers) row rest rows) ∙ sym (owners_long old workers i.numbers) in
    let out : AreOut (suc (length rest)) old = subst (λ n. AreOut n old) (ap length step) i.out in
    record {
      numbers = c.take_row.ensures.numbers ∙ i.numbers;
      out = subst (AreOut (length rest)) (sym now) (out_in (length rest) old row.items same out);
      rows = All-tail (IsRow workers) row rest rows;
      pushed = λ h. ap (total (λ (o : Owned). weigh h o.knows.pushed)) now ∙ pushed_in h old row.items ∙ i.pushed h;
      taken = λ h. (let a = i.taken h in let b = ap (total (λ (o : Owned). weigh h o.knows.taken)) now in
          let e = taken_in h old row.items same in
          let f = ap (total (λ (r : Row). weigh h (all_taken r.items))) step in omega arith);
    }
