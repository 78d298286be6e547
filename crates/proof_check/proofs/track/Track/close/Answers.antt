use Rattle.std.proofs.Common.{◌≡◌, ◌<◌, ◌+◌, List, [], length, sym, ap, subst, ◌∙◌, arith, inl, inr}
use Rattle.std.proofs.lemmas.Bool.{true≢false, cases_lt}
use Rattle.std.proofs.lemmas.List.{append-nil, nil_from_length}
use Rattle.node_judges.specs.Tally.{Tally}
use Rattle.proof_check.specs.declared.track.Frame as held
use Rattle.proof_check.proofs.TrackLemmas.{Closing, closing_next, closing_end, closing_kid, closing_pick}
use Rattle.proof_check.proofs.track.Track.close.Goals as goal

pub returns-then-frame-saturating_sub-clause-closes : goal.returns-then-frame-saturating_sub-clause-closes
returns-then-frame-saturating_sub-clause-closes c =
    let k = c.in_ok-next_kid.ensures.kid in
    let more : c.in-Some.frame.index + 1 < length c.in-Some.frame.places.items =
    omega (
      arith,
      c.len.ensures,
      c.saturating_sub.ensures,
      c.if-frame-saturating_sub.true,
      c.in-Some.frame.places.ok.0,
    ) in
    closing_kid (length c.args.self.now.chosen.counts) c.args.self.now.chosen.items c.args.self.now.barred.items
    c.args.self.now.omitted.items c.args.self.now.frames.items c.loop-frame.self.chosen.items
    c.loop-frame.self.barred.items c.loop-frame.self.omitted.items c.loop-frame.self.frames.items
    c.pop.new.self.items c.in-Some.frame k.last c.pop-in-Some.new.self.items c.cut.new.self.items
    c.next_kid.new.self.chosen.items c.next_kid.new.self.barred.items c.next_kid.new.self.omitted.items
    c.next_kid.new.self.frames.items
    c.loop-frame.invariant.closing c.in-Some.ensures.items c.if-frame.false more c.pop-in-Some.ensures.items
    c.cut.ensures.items
    (ap (λ (t : Tally). t.items) k.still ∙ c.cut-in-Some.ensures.items)
    (λ lt. k.place (let a = c.cut.ensures.whole in let b = c.loop-frame.invariant.wide in let d = c.requires.same in
    omega arith))
    (λ lt. k.next (let a = c.pop-in-Some.ensures.whole in let b = c.loop-frame.invariant.whole in omega arith))
    k.frames k.same k.index k.branch k.bars (k.omits ∙ ap (λ (t : Tally). length t.items) (sym k.still))

pub returns-then-frame-clause-closes : goal.returns-then-frame-clause-closes
returns-then-frame-clause-closes c =
    let t = c.in_ok-second_tree.ensures.tree in
    closing_pick (length c.args.self.now.chosen.counts) c.args.self.now.chosen.items c.args.self.now.barred.items
    c.args.self.now.omitted.items c.args.self.now.frames.items c.loop-frame.self.chosen.items
    c.loop-frame.self.barred.items c.loop-frame.self.omitted.items c.loop-frame.self.frames.items
    c.pop.new.self.items c.in-Some.frame c.cut.new.self.items c.second_tree.new.self.chosen.items
    c.second_tree.new.self.barred.items c.second_tree.new.self.omitted.items c.second_tree.new.self.frames.items
    c.loop-frame.invariant.closing c.in-Some.ensures.items c.if-frame.true
    (ap (λ (t : Tally). t.items) t.chosen ∙ c.pop-in-Some.ensures.items) c.cut.ensures.items
    (ap (λ (t : Tally). t.items) t.omitted ∙ c.cut-in-Some.ensures.items)
    (λ within lt. t.place within (let a = c.cut.ensures.whole in let b = c.loop-frame.invariant.wide in
    let d = c.requires.same in omega arith))
    t.frames

pub loop-frame-preserved : goal.loop-frame-preserved
loop-frame-preserved c = record {
  whole = c.pop-in-Some.ensures.whole ∙ c.loop-frame.invariant.whole;
  wide = c.cut.ensures.whole ∙ c.loop-frame.invariant.wide;
  long = c.cut-in-Some.ensures.whole ∙ c.loop-frame.invariant.long;
  closing = closing_next (length c.args.self.now.chosen.counts)
      c.args.self.now.chosen.items c.args.self.now.barred.items c.args.self.now.omitted.items
      c.args.self.now.frames.items
      c.loop-frame.self.chosen.items c.loop-frame.self.barred.items c.loop-frame.self.omitted.items
      c.loop-frame.self.frames.items
      c.pop.new.self.items c.in-Some.frame c.pop-in-Some.new.self.items c.cut.new.self.items
      c.cut-in-Some.new.self.items
      c.loop-frame.invariant.closing c.in-Some.ensures.items c.if-frame.false (omega arith)
      c.pop-in-Some.ensures.items c.cut.ensures.items c.cut-in-Some.ensures.items;
}

pub returns-clause-closes : goal.returns-clause-closes
returns-clause-closes c =
    let same : c.loop-frame.self.frames.items ≡ c.pop.new.self.items = c.in_default.ensures.items
    ∙ append-nil c.pop.new.self.items in
    let none : c.loop-frame.self.frames.items ≡ [] =
    nil_from_length c.loop-frame.self.frames.items (elim (cases_lt 0 (length c.loop-frame.self.frames.items)) [
      | inl lt ↦ absurd (true≢false (sym
          (c.in_default.ensures.variant.1 (omega (arith, c.loop-frame.self.frames.ok.0)))))
      | inr le ↦ omega arith
    ]) in
    let here = subst (λ (l : List held.Frame). Closing (length c.args.self.now.chosen.counts)
    c.args.self.now.chosen.items c.args.self.now.barred.items c.args.self.now.omitted.items
    c.args.self.now.frames.items c.loop-frame.self.chosen.items c.loop-frame.self.barred.items
    c.loop-frame.self.omitted.items l) same c.loop-frame.invariant.closing in
    closing_end (length c.args.self.now.chosen.counts) c.args.self.now.chosen.items c.args.self.now.barred.items
    c.args.self.now.omitted.items c.args.self.now.frames.items c.loop-frame.self.chosen.items
    c.loop-frame.self.barred.items c.loop-frame.self.omitted.items c.pop.new.self.items
    c.cut-2.new.self.items c.cut-3.new.self.items here (sym same ∙ none) c.cut-2.ensures.items c.cut-3.ensures.items
