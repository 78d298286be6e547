use Rattle.std.proofs.Common.{◌∙◌, Option, IfSome, length, ap, subst, arith}
use Rattle.std.proofs.lemmas.List.Elements.{All-rest, All-pop}
use Rattle.beacon.specs.declared.known.Known.{Known}
use Rattle.worker_results.specs.Passes.{Row}
use Rattle.search_pool.specs.Slots.{IsNewRow, IsReady}
use Rattle.search_pool.proofs.SlotLemmas.{length-push}
use Rattle.search_pool.proofs.slots.fill.Goals as goal

pub new-requires-clause-others : goal.new-requires-clause-others
new-requires-clause-others g c =
    subst (λ (row : Option Row). IfSome row (IsNewRow g.B.Naming.workers)) c.in-Some-pop.is
    (All-pop (IsNewRow g.B.Naming.workers) _ _ _ c.pop.ensures.items c.loop-own.invariant.rows).1

pub loop-own-preserved : goal.loop-own-preserved
loop-own-preserved g c =
    let i = c.loop-own.invariant in
    let step = c.in-Some.ensures.steps.0 in
    let slots = c.loop-own.slots.items in
    let more = ap length c.in_ok-push.ensures.items ∙ length-push slots c.new-in-loop-own.result in
    let marks = c.split-seat.ensures.marks.0 in
    record {
      split = record {
        same = c.split-seat.ensures.same.0 ∙ i.split.same;
        chief = ap (λ (k : Known). k.first) marks ∙ i.split.chief;
        told = ap (λ (k : Known). k.told) marks ∙ i.split.told;
        out = (let o = ap (λ (k : Known). k.out) marks in let b = i.split.out in omega (arith, more, o, b));
      };
      ready = All-rest (IsReady g.B.Naming.start g.B.Naming.workers) _ _ _ step i.ready;
      rows = (All-pop (IsNewRow g.B.Naming.workers) _ _ _ c.pop.ensures.items i.rows).0;
      each = (let d = ap length step in let f = i.each in omega (arith, more, d, f));
    }
