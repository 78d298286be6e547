use Rattle.std.proofs.Common.{◌∙◌, ℕ, Result, IfOk, Vec, Global, length, ap, sym, subst, arith}
use Rattle.std.specs.Arc.{arc_value}
use Rattle.instance_regions.specs.Cover.{Covering}
use Rattle.proof_tree.specs.Shape.{tree_of}
use Rattle.proof_tree.specs.declared.name.Name.{Name}
use Rattle.search_traits.specs.Alone.{Alone}
use Rattle.search_traits.specs.declared.halt.Halt.{Halt}
use Rattle.event_core.specs.Kept.{state_of}
use Rattle.gathering.specs.Gathered.{Gleans}
use Rattle.gathering.specs.Gleaning.{GleansAll}
use Rattle.gathering.proofs.GatherLemmas.{played_aim, played_none_held, played_workers, played_region, gathered}
use Rattle.gathering.proofs.GatherLemmas.{gathered_to}
use Rattle.gathering.proofs.merge.gather.Goals as goal

pub glean_named-gleaned-requires-clause-may : goal.glean_named-gleaned-requires-clause-may
glean_named-gleaned-requires-clause-may g c =
    let region = arc_value c.args.search.region.now in let first = c.args.first.places in let aim = c.args.aim in
    let works = c.args.works.items in let counts = c.in_ok-core.closed_by.items in
    let closed = state_of c.in_ok-core.core in let p = c.in_ok-core.ensures in
    let caller = c.in-Some.ensures.0 ∙ ap length c.deref.ensures.value in
    record {
      known = omega (arith, caller, played_workers region first aim works counts closed p);
      none_held = played_none_held region first aim works counts closed p;
      aimed = c.new-desk.ensures.aim.0 ∙ sym (played_aim region first aim works counts closed p);
      of_it = ap (λ (x : Covering). x.region) (ap (λ (a : Alone). a.cover) c.new-desk.ensures.desk
          ∙ c.new.ensures.cover ∙ c.in_ok-try_clone.ensures ∙ c.best.ensures);
    }

pub returns-in-Ok-assemble-clause-gathered : goal.returns-in-Ok-assemble-clause-gathered
returns-in-Ok-assemble-clause-gathered g c =
    let region = arc_value c.args.search.region.now in let first = c.args.first.places in
    let works = c.args.works.items in
    let closed = state_of c.in_ok-core.core in let final = c.glean_named-gleaned.new.core in
    let caller = c.in-Some.ensures.0 ∙ ap length c.deref.ensures.value in
    let all = subst (λ (r : Result (Vec Name Global) Halt). IfOk r (λ ns.
    GleansAll closed c.in-Some.caller ns.items (state_of final))) c.in-Ok.is c.glean_named-gleaned.ensures.gleans in
    gathered region first c.args.aim works c.in_ok-core.closed_by.items closed c.in_ok-core.ensures
    c.in-Ok.gleaned.items final c.in-Ok-assemble.cover (tree_of c.in-Ok-assemble.proof)
    (subst (λ (n : ℕ). Gleans closed n c.in-Ok.gleaned.items (state_of final)) caller all.gleans) all.done
    c.in-Ok-assemble.ensures.done

pub returns-in-Ok-assemble-clause-proved : goal.returns-in-Ok-assemble-clause-proved
returns-in-Ok-assemble-clause-proved g c =
    let region = arc_value c.args.search.region.now in let first = c.args.first.places in
    let works = c.args.works.items in
    let closed = state_of c.in_ok-core.core in let final = c.glean_named-gleaned.new.core in
    let caller = c.in-Some.ensures.0 ∙ ap length c.deref.ensures.value in
    let all = subst (λ (r : Result (Vec Name Global) Halt). IfOk r (λ ns.
    GleansAll closed c.in-Some.caller ns.items (state_of final))) c.in-Ok.is c.glean_named-gleaned.ensures.gleans in
    gathered_to region first c.args.aim works c.in_ok-core.closed_by.items closed c.in_ok-core.ensures
    c.in-Ok.gleaned.items final c.in-Ok-assemble.cover (tree_of c.in-Ok-assemble.proof)
    (subst (λ (n : ℕ). Gleans closed n c.in-Ok.gleaned.items (state_of final)) caller all.gleans)
    c.in-Ok-assemble.ensures.done

pub stopped-requires-clause-of_it : goal.stopped-requires-clause-of_it
stopped-requires-clause-of_it g c =
    let desk = ap (λ (x : Covering). x.region) (ap (λ (a : Alone). a.cover) c.new-desk.ensures.desk
    ∙ c.new.ensures.cover ∙ c.in_ok-try_clone.ensures ∙ c.best.ensures) in
    c.glean_named-gleaned.ensures.same.0 ∙ desk ∙ played_region (arc_value c.args.search.region.now)
    c.args.first.places c.args.aim c.args.works.items c.in_ok-core.closed_by.items (state_of c.in_ok-core.core)
    c.in_ok-core.ensures
