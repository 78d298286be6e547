use Rattle.std.proofs.Common.{◌≡◌, ◌∙◌, length, sym, subst, arith}
use Rattle.worker_results.specs.Parting.{AreOut}
use Rattle.worker_results.proofs.JoinLemmas.{joined}
use Rattle.worker_results.proofs.TakeLemmas.{results_long}
use Rattle.worker_results.proofs.joined.close_up.Goals as goal

pub take_rows-requires-clause-out : goal.take_rows-requires-clause-out
take_rows-requires-clause-out g c =
    let p = c.in_ok-first.ensures in
    let f = c.in_ok-first.field-0 in
    let workers = g.B.Naming.workers in
    let long : length f.rows.items ≡ workers
    = p.each.count ∙ results_long c.args.results.items workers c.requires.all in
    subst (λ n. AreOut n f.owners.items) (sym long) p.apart.passes_out

pub close-requires : goal.close-requires
close-requires g c =
    let p = c.in_ok-first.ensures in
    let f = c.in_ok-first.field-0 in
    let r = c.requires in
    let workers = g.B.Naming.workers in
    let long : length f.rows.items ≡ workers = p.each.count ∙ results_long c.args.results.items workers r.all in
    let out = p.apart.out in
    let began = r.seat.out in
    (p.seat ∙ sym r.beacon, p.apart.first, omega arith)

pub returns-clause-joined : goal.returns-clause-joined
returns-clause-joined g c = λ start.
    let f = c.in_ok-first.field-0 in
    let w = c.close.ensures in
    let r = c.requires in
    joined g.B.Naming.region g.B.Naming.start g.B.Naming.workers c.args._goal c.close.result
    c.args.first.knows f.first.knows f.owners.items c.take_rows.new.owners.items f.rows.items f.works.items
    c.in_ok-left.left.items c.in_ok-first.ensures.apart c.take_rows.ensures.sums c.in_ok-left.ensures
    r.seat.told w.told w.seen (c.in_ok-first.ensures.each.numbers ∙ r.all) start

pub returns-clause-works : goal.returns-clause-works
returns-clause-works g c = c.in_ok-first.ensures.each.heaps
