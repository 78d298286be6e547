use Rattle.std.proofs.Common.{◌+◌, ◌∙◌, All, length, subst, sym, ap, arith}
use Rattle.std.proofs.lemmas.List.Elements.{All-push}
use Rattle.worker_results.specs.Passes.{all_taken, deques}
use Rattle.worker_results.specs.Joining.{numbers_of}
use Rattle.search_pool.specs.Slots.{IsNewRow, IsReady}
use Rattle.search_pool.proofs.SlotLemmas.{deques_out, length-push, none_taken, numbers_out, one_more}
use Rattle.search_pool.proofs.slots.lend_all.Goals as goal

pub loop-number-preserved : goal.loop-number-preserved
loop-number-preserved g c =
    let i = c.loop-number.invariant in
    let before = c.loop-number.owned.items in
    let rows = c.loop-number.rows.items in
    let row = c.in_ok-row.row.1 in
    let pushed = c.in_ok-push.ensures.items in
    let made = c.in_ok-row.ensures in
    let start = g.B.Naming.start in
    record {
      numbers = ap numbers_of made.owned ∙ numbers_out before ∙ i.numbers;
      ready = subst (All (IsReady start (c.loop-number.number + 1))) (sym made.owned)
          (one_more start c.loop-number.number before i.ready);
      rows = subst (All (IsNewRow g.B.Naming.workers)) (sym pushed)
          (All-push (IsNewRow g.B.Naming.workers) rows row i.rows
          (ap deques made.passes ∙ deques_out before ∙ i.numbers, ap all_taken made.passes ∙ none_taken before));
      each = (let e = ap length pushed ∙ length-push rows row in let f = i.each in omega (arith, e, f));
    }
