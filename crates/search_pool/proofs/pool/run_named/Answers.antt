use Rattle.std.proofs.Common.{◌≡◌, ◌∙◌, length, ap, arith}
use Rattle.search_pool.proofs.SlotLemmas.{in_a_row, length-map, owned_long}
use Rattle.search_pool.proofs.CrewLemmas.{few_workers}
use Rattle.beacon.specs.declared.known.Known.{Known}
use Rattle.worker_results.specs.Naming.{numbers_from}
use Rattle.worker_results.specs.Results.{Handed}
use Rattle.worker_results.specs.Holdings.{work_of}
use Rattle.search_pool.proofs.pool.run_named.Goals as goal

pub run_scope-requires-clause-count : goal.run_scope-requires-clause-count
run_scope-requires-clause-count g c κs within =
    let owned = c.in_ok-passes.passes.owned.items in
    let long = owned_long owned g.B.Naming.workers c.in_ok-passes.ensures.numbers in
    let few = few_workers c.args.run.workers.number c.args.run.workers.some in
    let each = c.in_ok-slots.ensures.each in
    let same = c.requires.few.0 in
    let slice = c.as_slice.ensures.len in
    (omega (arith, long, few.0, each, same, slice), omega (arith, long, few.1, each, same, slice))

pub close_up-requires-clause-seat : goal.close_up-requires-clause-seat
close_up-requires-clause-seat g c =
    let split = c.in_ok-slots.ensures.first in
    let first = c.requires.seat in
    let owned = c.in_ok-passes.passes.owned.items in
    let long = owned_long owned g.B.Naming.workers c.in_ok-passes.ensures.numbers in
    let each = c.in_ok-slots.ensures.each in
    record {
      of_it = split.same ∙ first.1;
      first = split.chief;
      told = split.told ∙ ap (λ (k : Known). k.told) first.2;
      out = (let a = split.out in let b = ap (λ (k : Known). k.out) first.2 in omega (arith, a, b, long, each));
    }

pub close_up-requires-clause-all : goal.close_up-requires-clause-all
close_up-requires-clause-all g c =
    let results = c.in_ok-results.results.items in
    let are = c.in_ok-results.ensures in
    let owned = c.in_ok-passes.passes.owned.items in
    let long = owned_long owned g.B.Naming.workers c.in_ok-passes.ensures.numbers in
    let each = c.in_ok-slots.ensures.each in
    let slice = c.as_slice.ensures.len in
    let count : length results ≡ g.B.Naming.workers = (let l = are.1 in omega (arith, l, long, each, slice)) in
    in_a_row 0 results are.0 ∙ ap (numbers_from 0) count

pub returns : goal.returns
returns g c =
    let joined = c.in_ok-joined.ensures in
    let results = c.in_ok-results.results.items in
    let workers = c.args.run.workers.number in
    let long = owned_long c.in_ok-passes.passes.owned.items g.B.Naming.workers c.in_ok-passes.ensures.numbers in
    let count : length results ≡ workers = (let l = c.in_ok-results.ensures.1 in
    let each = c.in_ok-slots.ensures.each in let same = c.requires.few.0 in
    let slice = c.as_slice.ensures.len in omega (arith, l, long, each, same, slice)) in
    record {
      run = record {
        joined = joined.joined c.requires.dealt.stocked;
        each = (let w = ap length joined.works in
            let m = length-map (λ (done : Handed). work_of done.holdings done.cover) results in
            omega (arith, w, m, count));
      };
      within = c.within-turns.ensures.within;
      fits = c.within-turns.ensures.fits;
    }
