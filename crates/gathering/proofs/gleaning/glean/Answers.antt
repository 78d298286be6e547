use Rattle.std.proofs.Common.{◌∙◌, ℕ, Bool, List, Option, length, ap, sym, subst, arith}
use Rattle.event_core.specs.State.{State}
use Rattle.event_core.specs.Kept.{state_of}
use Rattle.search_traits.specs.Turns.{TookOne}
use Rattle.search_traits.proofs.DeskLemmas.{continues_same, continues_then}
use Rattle.gathering.specs.Gathered.{EachTook}
use Rattle.gathering.specs.Gleaning.{GleansWhere}
use Rattle.gathering.proofs.GleanLemmas.{glean_start, glean_next, glean_past}
use Rattle.gathering.proofs.TookLemmas.{took_none, took_past, took_next}
use Rattle.gathering.proofs.LikeLemmas.{like_one}
use Rattle.gathering.proofs.gleaning.glean.Goals as goal

pub loop-name-init : goal.loop-name-init
loop-name-init g c = (
  glean_start (state_of c.args.core.now) c.args.caller c.new-gleaned.result.items
      c.into_iter-name-iterator.result.rest.items c.in_ok-name-items.name-items.items
      c.new-gleaned.ensures.items c.into_iter-name-iterator.ensures.into_iter_gives.0 c.requires.none_held
      c.in_ok-name-items.ensures,
  c.requires.of_it,
  continues_same c.args.desk.now,
  subst (λ (l : List (List ℕ)). EachTook c.args.desk.now.limit (length l) c.args.desk.now.granted
      c.args.desk.now.granted) (sym c.new-gleaned.ensures.items)
      (took_none c.args.desk.now.limit c.args.desk.now.granted),
)

pub glean_one-requires : goal.glean_one-requires
glean_one-requires g c = record {
  known = omega (arith, c.requires.known, c.loop-name.invariant.0.like.workers);
  aimed = c.requires.aimed ∙ sym c.loop-name.invariant.0.like.aimed;
  of_it = c.loop-name.invariant.1;
}

pub loop-name-preserved : goal.loop-name-preserved
loop-name-preserved g c =
    let now = state_of c.loop-name.core in let next = state_of c.glean_one.new.core in let name = c.in-Some.name in
    let w = c.args.caller in
    let inv = c.loop-name.invariant in let onward = c.in_ok-glean_one.ensures.onward in
    let gleans = c.in_ok-glean_one.ensures.gleans in
    let past = subst (λ (b : Bool). GleansWhere now w name next b) c.if-branch.false gleans in (
      glean_past (state_of c.args.core.now) w c.loop-name.gleaned.items now name c.loop-name.name-iterator.rest.items
          c.next.new.self.rest.items next
          inv.0 c.in-Some.ensures.steps.0 past.0 past.1,
      onward.region ∙ inv.1 ∙ sym (ap (λ (s : State). s.region) past.1),
      continues_then c.args.desk.now c.loop-name.desk c.glean_one.new.desk inv.2 onward,
      took_past c.args.desk.now.limit (length c.loop-name.gleaned.items) c.args.desk.now.granted
          c.loop-name.desk.granted c.glean_one.new.desk.granted inv.3 c.glean_one.ensures.onward.granted,
    )

pub loop-name-preserved-in-Continue-branch-3 : goal.loop-name-preserved-in-Continue-branch-3
loop-name-preserved-in-Continue-branch-3 g c =
    let now = state_of c.loop-name.core in let next = state_of c.glean_one.new.core in let name = c.in-Some.name in
    let w = c.args.caller in
    let inv = c.loop-name.invariant in let onward = c.in_ok-glean_one.ensures.onward in
    let one = subst (λ (b : Bool). GleansWhere now w name next b) c.if-branch.true c.in_ok-glean_one.ensures.gleans in (
      glean_next (state_of c.args.core.now) w c.loop-name.gleaned.items c.push.new.self.items now name
          c.loop-name.name-iterator.rest.items c.next.new.self.rest.items next
          inv.0 c.in-Some.ensures.steps.0 one c.in_ok-push.ensures.items,
      onward.region ∙ inv.1 ∙ sym (like_one now w name next one).of_it,
      continues_then c.args.desk.now c.loop-name.desk c.glean_one.new.desk inv.2 onward,
      subst (λ (l : List (List ℕ)). EachTook c.args.desk.now.limit (length l) c.args.desk.now.granted
          c.glean_one.new.desk.granted) (sym c.in_ok-push.ensures.items)
          (took_next c.args.desk.now.limit c.loop-name.gleaned.items name c.args.desk.now.granted
          c.loop-name.desk.granted c.glean_one.new.desk.granted inv.3
          (subst (λ (o : Option ℕ). TookOne o c.loop-name.desk.granted c.glean_one.new.desk.granted) inv.2.limit
          (c.in_ok-glean_one.ensures.worked c.if-branch.true))),
    )
