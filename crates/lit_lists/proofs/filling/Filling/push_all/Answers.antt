use Rattle.std.proofs.Common.{◌≡◌, ◌+◌, ℕ, List, [], ◌∷◌, ◌++◌, length, Contains, slice_index, take, refl, sym}
use Rattle.std.proofs.Common.{ap, subst, ◌∙◌, arith}
use Rattle.std.proofs.lemmas.List.{take_more}
use Rattle.lit_lists.specs.Filling.{lists_in, HasRoom}
use Rattle.lit_lists.proofs.PairLemmas.{fresh}
use Rattle.lit_lists.proofs.RowLemmas.{none_in, pushed_more, pushed_none, with_next}
use Rattle.lit_lists.proofs.FillLemmas.{further_all, further_more, further_none, room_next}
use Rattle.lit_lists.proofs.filling.Filling.push_all.Goals as goal

pub loop-part-init : goal.loop-part-init
loop-part-init c =
    let s = c.args.self.now in
    record {
      starts = refl;
      next = further_none s.next.items c.args.parts.now;
      pushed = pushed_none (Contains []) (lists_in s.starts.items s.next.items s.numbers.items) c.args.number
          (λ part h. none_in part h);
    }

pub push-requires : goal.push-requires
push-requires c =
    let old = c.args.self.now in
    let now = c.loop-part.self in
    record {
      room = subst (λ (l : List ℕ). HasRoom l now.next.items (slice_index c.args.parts.now c.loop-part.part-index))
          (sym c.loop-part.invariant.starts)
          (room_next old.starts.items old.next.items now.next.items c.args.parts.now c.loop-part.part-index
          c.loop-part-test.true old.filling.whole c.requires.room c.loop-part.invariant.next);
    }

pub loop-part-preserved : goal.loop-part-preserved
loop-part-preserved c =
    let old = c.args.self.now in
    let now = c.loop-part.self in
    let new = c.push.new.self in
    let part = slice_index c.args.parts.now c.loop-part.part-index in
    let done = take c.loop-part.part-index c.args.parts.now in
    let there = c.requires.room.there c.loop-part.part-index 0 c.loop-part-test.true in
    let long : length now.starts.items ≡ length old.starts.items = ap length c.loop-part.invariant.starts in
    let more : take (c.loop-part.part-index + 1) c.args.parts.now ≡ done ++ part ∷ [] =
    take_more c.args.parts.now c.loop-part.part-index 0 c.loop-part-test.true in
    record {
      starts = c.push.ensures.starts ∙ c.loop-part.invariant.starts;
      next = rw c.push.ensures.next (further_more old.next.items now.next.items c.args.parts.now
          c.loop-part.part-index c.loop-part-test.true (omega (arith, there, old.filling.whole))
          (omega (arith, long, old.filling.whole, now.filling.whole)) c.loop-part.invariant.next);
      pushed = rw more (pushed_more (Contains done) (Contains (done ++ part ∷ []))
          (lists_in old.starts.items old.next.items old.numbers.items)
          (lists_in now.starts.items now.next.items now.numbers.items)
          (lists_in new.starts.items new.next.items new.numbers.items)
          part c.args.number c.loop-part.invariant.pushed
          (fresh c.args.parts.now c.loop-part.part-index c.requires.once c.loop-part-test.true)
          (with_next done part) c.push.ensures.pushed);
    }

pub returns-clause-next : goal.returns-clause-next
returns-clause-next c = further_all c.args.self.now.next.items c.loop-part.self.next.items c.args.parts.now
    c.loop-part.part-index c.loop-part-test.false c.loop-part.invariant.next
