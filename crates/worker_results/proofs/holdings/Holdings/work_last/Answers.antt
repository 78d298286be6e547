use Rattle.std.proofs.Common.{◌≡◌, ◌≤◌, ap, sym, ◌∙◌, subst, arith}
use Rattle.proof_tree.specs.Opened.{IsSplit}
use Rattle.schedule_law.specs.Worked.{IsClosedFrom, IsOpenedIn}
use Rattle.search_traits.specs.Pieces.{IsClosing, IsWorked}
use Rattle.worker_results.specs.Holdings.{AreClosedFrom, HeldParts}
use Rattle.worker_results.proofs.HeapLemmas.{all_from_less, all_from_push, from_closing, from_less}
use Rattle.worker_results.proofs.HoldingLemmas.{closed_now, opened_now}
use Rattle.worker_results.proofs.holdings.Holdings.work_last.Goals as goal

pub invariant_of-self-in-Ok-Closed : goal.invariant_of-self-in-Ok-Closed
invariant_of-self-in-Ok-Closed g c =
    let i = c.self.inside in
    let e = c.in-Ok-Closed.closed in
    let p = c.in-Some.piece in
    let region = g.B.Naming.region in
    let shown = (g.D.Desk.state c.work_on.new.desk).shown in
    let same = c.is_same.ensures.0 c.if-not-is_same.false in
    let there = c.region.ensures in
    let read = c.deref.ensures in
    let of_it = c.requires.0 in
    let on : p.region ≡ region = cc in
    let closing : IsClosing p shown e = subst (IsWorked p shown) c.in-Ok-Closed.field-0-is
    c.in-Ok-Closed.ensures.worked in
    let fit : IsClosedFrom region shown e =
    from_closing region p shown e closing on c.floor_of.ensures.closed in
    let least : 0 ≤ shown = omega arith in (
      c.self.invariant.0,
      closed_now region (g.B.Naming.start i.own.worker) i.own i.passes.items i.closed.items c.reserve.new.self.items
          c.push_reserved-in-Ok-Closed.new.self.items i.opened.items c.reserve-else-is_err.new.self.items i.held.items
          c.pop.new.self.items i.kept.items p e c.reserve.ensures.items c.push_reserved-in-Ok-Closed.ensures.items
          c.in-Some.ensures.items c.reserve-else-is_err.ensures.items closing.of_it
          (from_less region 0 shown e least fit) c.self.invariant.1,
    )

pub invariant_of-self-in-Ok : goal.invariant_of-self-in-Ok
invariant_of-self-in-Ok g c =
    let i = c.self.inside in
    let o = c.in-Ok-Opened.opened in
    let p = c.in-Some.piece in
    let region = g.B.Naming.region in
    let same = c.is_same.ensures.0 c.if-not-is_same.false in
    let there = c.region.ensures in
    let read = c.deref.ensures in
    let of_it = c.requires.0 in
    let shown = (g.D.Desk.state c.work_on.new.desk).shown in
    let is : (o.piece ≡ p) × IsSplit o = subst (IsWorked p shown) c.in-Ok-Opened.field-0-is
    c.in-Ok-Opened.ensures.worked in
    let on : o.piece.region ≡ region = (let one = is.0 in cc) in
    let fit : IsOpenedIn region o = record { of_it = on; opens = is.1 } in (
      c.self.invariant.0,
      opened_now region (g.B.Naming.start i.own.worker) i.own i.passes.items i.closed.items c.reserve.new.self.items
          i.opened.items c.reserve-else-is_err.new.self.items c.push_reserved-in-Ok.new.self.items i.held.items
          c.pop.new.self.items i.kept.items c.kept_kids.new.kept.items p o c.reserve.ensures.items
          c.reserve-else-is_err.ensures.items c.push_reserved-in-Ok.ensures.items c.in-Some.ensures.items
          c.in-Ok.ensures.kids.1 is.0 fit c.self.invariant.1,
    )

pub returns-in-Ok-Closed-clause-floors : goal.returns-in-Ok-Closed-clause-floors
returns-in-Ok-Closed-clause-floors g c = λ all.
    let e = c.in-Ok-Closed.closed in
    let p = c.in-Some.piece in
    let region = g.B.Naming.region in
    let old = (g.D.Desk.state c.args.desk.now).shown in
    let new = (g.D.Desk.state c.work_on.new.desk).shown in
    let same = c.is_same.ensures.0 c.if-not-is_same.false in
    let there = c.region.ensures in
    let read = c.deref.ensures in
    let of_it = c.requires.0 in
    let on : p.region ≡ region = cc in
    let closing : IsClosing p new e = subst (IsWorked p new) c.in-Ok-Closed.field-0-is
    c.in-Ok-Closed.ensures.worked in
    let fit : IsClosedFrom region new e =
    from_closing region p new e closing on c.floor_of.ensures.closed in
    let was : AreClosedFrom region old c.reserve.new.self.items =
    subst (AreClosedFrom region old)
    (sym (ap (λ (s : HeldParts). s.closed) c.self.view_is) ∙ sym c.reserve.ensures.items) all in
    subst (AreClosedFrom region new) (sym c.push_reserved-in-Ok-Closed.ensures.items)
    (all_from_push region new old c.reserve.new.self.items e c.work_on.ensures.onward.shown fit was)

pub returns-in-Ok-clause-floors : goal.returns-in-Ok-clause-floors
returns-in-Ok-clause-floors g c = λ all.
    let region = g.B.Naming.region in
    let old = (g.D.Desk.state c.args.desk.now).shown in
    let new = (g.D.Desk.state c.work_on.new.desk).shown in
    all_from_less region new old c.reserve.new.self.items c.work_on.ensures.onward.shown
    (subst (AreClosedFrom region old)
    (sym (ap (λ (s : HeldParts). s.closed) c.self.view_is) ∙ sym c.reserve.ensures.items) all)

pub returns-in-Err-clause-floors : goal.returns-in-Err-clause-floors
returns-in-Err-clause-floors g c = λ all.
    let region = g.B.Naming.region in
    let old = (g.D.Desk.state c.args.desk.now).shown in
    let new = (g.D.Desk.state c.work_on.new.desk).shown in
    all_from_less region new old c.reserve.new.self.items c.work_on.ensures.onward.shown
    (subst (AreClosedFrom region old)
    (sym (ap (λ (s : HeldParts). s.closed) c.self.view_is) ∙ sym c.reserve.ensures.items) all)
