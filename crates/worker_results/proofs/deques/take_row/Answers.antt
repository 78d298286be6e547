use Rattle.std.proofs.Common.{◌≡◌, ◌<◌, ◌+◌, ◌++◌, List, take, drop, length, refl, sym, ap, ◌∙◌, subst, arith}
use Rattle.worker_results.specs.Naming.{numbers_from}
use Rattle.worker_results.specs.Passes.{Owned, KnownPass, deques, took_back}
use Rattle.worker_results.specs.Taking.{take_back_row}
use Rattle.worker_results.proofs.TakeLemmas.{number_at, numbers_of-set, owners_long, row_long, first_deque}
use Rattle.worker_results.proofs.TakeLemmas.{take_more, take_end}
use Rattle.worker_results.proofs.deques.take_row.Goals as goal

pub loop-pass-init : goal.loop-pass-init
loop-pass-init g c =
    let items = c.args.row.items in
    let rest = c.into_iter-pass-iterator.result.rest.items in
    let is : rest ≡ items = c.into_iter-pass-iterator.ensures.into_iter_gives.0 in
    let of = c.requires.row in
    let long : length rest ≡ g.B.Naming.workers = ap length is ∙ row_long items 0 g.B.Naming.workers of in
    record {
      numbers = c.requires.numbers;
      deques = ap deques is ∙ of ∙ ap (numbers_from 0) (sym long);
      all = (omega arith);
      done = refl {a = take_back_row c.args.owners.now.items rest};
    }

pub returns-clause-done : goal.returns-clause-done
returns-clause-done g c =
    let i = c.loop-pass.invariant in
    let rest = c.loop-pass.pass-iterator.rest in
    let none : length rest.items ≡ 0 = sym rest.ok.0 ∙ c.in-None.ensures.steps.0 in
    let os = c.loop-pass.owners.items in
    let long = owners_long os g.B.Naming.workers i.numbers in
    let all = i.all in
    let first = c.into_iter-pass-iterator.ensures.into_iter_gives.0 in
    sym (take_end os c.loop-pass.next rest.items (omega arith)) ∙ i.done
    ∙ ap (take_back_row c.args.owners.now.items) first

pub index_mut-requires : goal.index_mut-requires
index_mut-requires g c =
    let i = c.loop-pass.invariant in
    let fewer = ap length c.in-Some.ensures.steps.0 in
    let all = i.all in
    let long = owners_long c.loop-pass.owners.items g.B.Naming.workers i.numbers in
    omega (arith, c.loop-pass.owners.ok.0)

pub take_back-requires : goal.take_back-requires
take_back-requires g c =
    let i = c.loop-pass.invariant in
    let os = c.loop-pass.owners.items in
    let next = c.loop-pass.next in
    let rest = c.next.new.self.rest.items in
    let step = c.in-Some.ensures.steps.0 in
    let fewer = ap length step in
    let all = i.all in
    let long = owners_long os g.B.Naming.workers i.numbers in
    let near : next < length os = omega arith in
    let d = c.index_mut.result.now in
    let now = subst (λ (l : List KnownPass). deques l ≡ numbers_from next (length l)) step i.deques in
    let there : d.worker ≡ 0 + next = ap (λ (o : Owned). o.worker) c.index_mut.ensures.value
    ∙ number_at os 0 g.B.Naming.workers next d near i.numbers in
    (first_deque c.in-Some.pass rest next now).0 ∙ (omega arith)

pub loop-pass-preserved : goal.loop-pass-preserved
loop-pass-preserved g c =
    let i = c.loop-pass.invariant in
    let os = c.loop-pass.owners.items in
    let next = c.loop-pass.next in
    let rest = c.next.new.self.rest.items in
    let r = c.in-Some.pass in
    let step = c.in-Some.ensures.steps.0 in
    let fewer = ap length step in
    let all = i.all in
    let long = owners_long os g.B.Naming.workers i.numbers in
    let near : next < length os = omega arith in
    let d = c.index_mut.result.now in
    let o = c.take_back.new.self in
    let was = c.index_mut.ensures.value in
    let now = subst (λ (l : List KnownPass). deques l ≡ numbers_from next (length l)) step i.deques in
    let worker = c.take_back.ensures.same ∙ ap (λ (x : Owned). x.worker) was in
    record {
      numbers = numbers_of-set os next o d worker ∙ i.numbers;
      deques = (first_deque r rest next now).1;
      all = (omega arith);
      done = take_more os next (next + 1) o d r rest (omega arith) near worker
          (c.take_back.ensures.done ∙ ap (λ (x : Owned). took_back x.knows r.knows.taken) was)
          ∙ ap (λ (l : List KnownPass). take next os ++ take_back_row (drop next os) l) (sym step) ∙ i.done;
    }
