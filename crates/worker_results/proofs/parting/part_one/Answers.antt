use Rattle.std.proofs.Common.{subst}
use Rattle.worker_results.specs.Parting.{AreResultParts}
use Rattle.worker_results.specs.Results.{Handed}
use Rattle.worker_results.proofs.parting.part_one.Goals as goal

pub returns-clause-more : goal.returns-clause-more
returns-clause-more g c =
    let region = g.B.Naming.region in
    let start = g.B.Naming.start in
    let workers = g.B.Naming.workers in
    let seat = c.into_parts-seat.result.0 in
    let cover = c.into_parts-seat.result.1 in
    let holdings = c.into_parts-seat.result.2 in
    let own = c.into_parts-own.result.0 in
    let row = c.into_parts-own.result.1 in
    let work = c.into_parts-own.result.2 in
    let had = c.into_parts-seat.ensures in
    let has = c.into_parts-own.ensures in
    let now : Handed = record { holdings = holdings; knows = seat.knows; cover = cover } in
    let are : AreResultParts region start workers now own row work = record {
      owner = λ i. record { worker = has.own.0 i; knows = has.own.1 i };
      passes = has.passes.0;
      heaps = has.work;
      out = has.own.2;
      each = has.passes.1;
      is_done = record {
        adds_up = has.holdings.adds_up;
        kept = had.cover.1;
        fit = record { cover = had.cover.2; closed = had.holdings.1; opened = has.holdings.all_opened };
      };
    } in
    record {
      own = own;
      row = row;
      work = work;
      are = subst (λ (done : Handed). AreResultParts region start workers done own row work)
          (λ i. record { holdings = had.holdings.0 i; knows = had.seat.1 i; cover = had.cover.0 i }) are;
      in_owners = c.in_ok-push.ensures.items;
      in_rows = c.in_ok-push-2.ensures.items;
      in_works = c.in_ok-push-3.ensures.items;
    }
