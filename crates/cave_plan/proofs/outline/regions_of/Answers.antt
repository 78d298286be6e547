use Rattle.std.proofs.lemmas.List.Elements.{All-weaker}
use Rattle.std.proofs.Common.{◌∙◌}
use Rattle.instance_regions.specs.Region.{IsRegion}
use Rattle.instance_regions.specs.Splitting.{IsPartOf}
use Rattle.cave_regions.proofs.CaveLemmas.{regions_are, regions_agree}
use Rattle.cave_plan.proofs.FaultLemmas.{cover_names, cover_no_thread, cover_refused, none_named}
use Rattle.cave_plan.proofs.outline.regions_of.Goals as goal

pub returns-clause-regions : goal.returns-clause-regions
returns-clause-regions c =
    let cave = c.args.world.now in let problem = c.in-Ok.problem in let regions =
    c.in_ok-regions.regions.items in
    let is = c.in-Ok.ensures.found in let are = c.in_ok-regions.ensures in
    record {
      parts = regions_are cave problem regions is are;
      ordered = are.ordered;
      each = All-weaker (IsPartOf problem) IsRegion (λ region part. part.kept) regions are.each;
      agree = regions_agree cave problem regions is are;
    }

pub returns-in-Err-clause-fault : goal.returns-in-Err-clause-fault
returns-in-Err-clause-fault c = λ other. rw c.plan_fault.ensures
    (cover_names c.args.world.now c.in-Err.fault c.in-Err.ensures.fault (λ same. other (c.plan_fault.ensures ∙ same)))

pub returns-in-Err-clause-threads : goal.returns-in-Err-clause-threads
returns-in-Err-clause-threads c = rw c.plan_fault.ensures (cover_no_thread c.args.world.now c.in-Err.fault)

pub returns-in-Err-clause-refused : goal.returns-in-Err-clause-refused
returns-in-Err-clause-refused c = rw c.plan_fault.ensures
    (cover_refused c.args.world.now c.in-Err.fault c.in-Err.ensures.refused)

pub returns-clause-refused : goal.returns-clause-refused
returns-clause-refused c = none_named c.args.world.now c.in-Ok.ensures.refused
