use Rattle.std.proofs.Common.{ℕ, ◌+◌, List, Option, sym, ap, ◌∙◌, subst, arith}
use Rattle.std.specs.Arc.{arc_value}
use Rattle.instance_regions.specs.Cover.{Covering}
use Rattle.proof_rules.specs.Tree.{Tree}
use Rattle.search_traits.specs.Planned.{IsProvedTo}
use Rattle.search_traits.specs.Turns.{IsWithin, rest}
use Rattle.gathering.specs.Gathered.{IsGathered, StopsGathering}
use Rattle.schedule_law.specs.Worked.{Worked}
use Rattle.search_traits.specs.declared.region_fault.RegionFault.TheVariants.{Stopped}
use Rattle.search_traits.specs.declared.so_far.SoFar.{SoFar}
use Rattle.search_pool.specs.Reports.{StopsPool, sum_of}
use Rattle.search_pool.specs.Rows.{counted}
use Rattle.search_pool.specs.Tallies.{AreTallied}
use Rattle.search_pool.proofs.ReportLemmas.{all_by_workers, all_came, all_gleaned, both_within, counted_at, stops_all}
use Rattle.search_pool.proofs.merging.merged.Goals as goal

pub report-requires-clause-gleaned : goal.report-requires-clause-gleaned
report-requires-clause-gleaned g c =
    let works = c.args.ran.joined.works.items in
    let left = c.args.ran.joined.left.items in
    let all = counted_at (arc_value c.args.search.region.now) c.args.first.places c.args.aim works left
    c.requires.ran.run.joined _ c.in-Ok.ensures.gathered in
    let tally = c.count_pieces-counts.result in
    let told = subst (λ (l : List Worked). AreTallied l tally) c.deref.ensures.value
    c.count_pieces-counts.ensures.counted in
    let gleaned = all_gleaned works left _ tally all told in
    let long = c.len-left.ensures in
    omega (arith, gleaned, long)

pub returns-in-Ok-clause-proved : goal.returns-in-Ok-clause-proved
returns-in-Ok-clause-proved g c =
    subst (λ (v : Covering × Tree). IsProvedTo (arc_value c.args.search.region.now) c.args.aim v.0 v.1)
    (λ i. (sym c.report.ensures.cover i, sym c.report.ensures.tree i)) c.in-Ok.ensures.proved

pub returns-in-Ok-clause-counts : goal.returns-in-Ok-clause-counts
returns-in-Ok-clause-counts g c =
    let works = c.args.ran.joined.works.items in
    let left = c.args.ran.joined.left.items in
    let tally = c.count_pieces-counts.result in
    let told = subst (λ (l : List Worked). AreTallied l tally) c.deref.ensures.value
    c.count_pieces-counts.ensures.counted in
    let all = counted_at (arc_value c.args.search.region.now) c.args.first.places c.args.aim works left
    c.requires.ran.run.joined _ c.in-Ok.ensures.gathered in
    let gleaned = all_gleaned works left _ tally all told in
    let closed = ap sum_of c.report.ensures.closed_by ∙ all_by_workers works left _ tally all told in
    let r = c.report.ensures in
    let long = c.len-left.ensures in
    let a = r.pushed in let b = r.opened in let d = r.handed_back in let e = r.left_over in let f = r.gleaned in
    let turns = c.args.turns in let granted = c.args.ran.turns in let more = c.in-Ok.gathered.turns in
    let within = subst (λ (o : Option ℕ). IsWithin o more) c.rest_of.ensures c.in-Ok.ensures.granted.within in (
      record {
        whole = omega (arith, gleaned, closed, long, a, b, d, e, f);
        gleaned_few = omega (arith, gleaned, closed, long, a, b, d, e, f);
      },
      subst (IsWithin turns) (sym c.report.ensures.turns) (both_within turns granted more c.requires.ran.within within),
    )

pub returns-in-Ok-clause-report : goal.returns-in-Ok-clause-report
returns-in-Ok-clause-report g c =
    let region = arc_value c.args.search.region.now in
    let works = c.args.ran.joined.works.items in
    let left = c.args.ran.joined.left.items in
    let first = c.args.first.places in
    let tally = c.count_pieces-counts.result in
    let told = subst (λ (l : List Worked). AreTallied l tally) c.deref.ensures.value
    c.count_pieces-counts.ensures.counted in
    let run = c.requires.ran.run in
    let gathered = c.in-Ok.gathered in
    let came = all_came region first c.args.aim works left run.joined tally told in
    let r = c.report.ensures in
    let long = c.len-left.ensures in
    let a = r.pushed in let b = r.opened in let d = r.handed_back in let e = r.left_over in let f = r.gleaned in
    let t0 = told.opened in let t1 = told.back in let t2 = told.kept in
    record {
      works = works;
      left = left;
      run = run;
      names = gathered.gleaned.items;
      gathered = subst (λ (x : Covering × (Tree × List ℕ)).
          IsGathered region first c.args.aim works (record {
            cover = x.0;
            tree = x.1.0;
            closed_by = x.1.1;
            gleaned = gathered.gleaned.items;
          }))
          (λ i. (sym r.cover i, (sym r.tree i, sym r.closed_by i))) c.in-Ok.ensures.gathered;
      numbers = record {
        pushed = omega (arith, came, a, long, t2);
        opened = b ∙ t0;
        handed_back = d ∙ t1;
        left_over = omega (arith, e, long);
        gleaned = omega (arith, f, t2);
      };
    }

pub returns-in-Err-Stopped : goal.returns-in-Err-Stopped
returns-in-Err-Stopped g c =
    let region = arc_value c.args.search.region.now in let turns = c.args.turns in let granted = c.args.ran.turns in
    let found = c.in-Err-Stopped.found in
    let stops = subst (StopsGathering region (rest turns granted)) c.in-Err-Stopped.field-0-is
    (subst (λ (o : Option ℕ). StopsGathering region o c.in-Err-Stopped.field-0) c.rest_of.ensures
    c.in-Err-Stopped.ensures.stopped) in
    record {
      proved = tt;
      counts = tt;
      report = tt;
      stopped = rw c.in-Err-Stopped.field-0-is (stops_all region turns granted c.sum.result found
          c.requires.ran.within c.requires.ran.fits (rw c.in-Err-Stopped.field-0-is at c.sum.ensures) stops);
    }
