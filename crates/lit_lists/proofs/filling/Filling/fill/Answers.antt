use Rattle.std.proofs.Common.{◌≡◌, ◌+◌, ◌<◌, ℕ, List, length, Contains, refl, sym, ap, subst, ◌∙◌, arith}
use Rattle.cave_model.specs.Parts.{part, parts}
use Rattle.cave_model.proofs.PassageLemmas.{part_there}
use Rattle.lit_lists.specs.Filling.{lists_in, AreFull, HaveRoom}
use Rattle.lit_lists.proofs.TakeLemmas.{has_or_not}
use Rattle.lit_lists.proofs.RowLemmas.{HasIn, below_more, below_none, turned_all}
use Rattle.lit_lists.proofs.PartLemmas.{length-parts}
use Rattle.lit_lists.proofs.TurnLemmas.{room_row, row_once, size_first, size_last, size_row}
use Rattle.lit_lists.proofs.filling.Filling.fill.Goals as goal

pub loop-number-init : goal.loop-number-init
loop-number-init c =
    let s = c.args.self.now in
    record {
      starts = refl;
      size = size_first c.args.starts.now c.args.parts.now s.starts.items s.next.items c.requires.rows.whole
          c.requires.ready.room;
      below = below_none (HasIn (parts c.args.starts.now c.args.parts.now)) c.args.count
          (lists_in s.starts.items s.next.items s.numbers.items) c.requires.ready.empty;
    }

pub push_all-requires : goal.push_all-requires
push_all-requires c =
    let starts = c.args.starts.now in
    let now = c.loop-number.self in
    let there : c.loop-number.number + 1 < length starts =
    omega (arith, c.requires.rows.lists, c.loop-number-test.true) in
    record {
      room = subst (λ (l : List ℕ). HaveRoom l now.next.items (part starts c.args.parts.now c.loop-number.number))
          (sym c.loop-number.invariant.starts)
          (room_row starts c.args.parts.now c.requires.rows.whole c.loop-number.number there
          c.args.self.now.starts.items now.next.items c.requires.rows.boxed
          (omega (arith, c.requires.rows.lists, c.requires.ready.lists)) c.loop-number.invariant.size);
      once = row_once starts c.args.parts.now c.requires.rows.whole c.loop-number.number there c.requires.rows.boxed;
    }

pub loop-number-preserved : goal.loop-number-preserved
loop-number-preserved c =
    let starts = c.args.starts.now in
    let numbers = c.args.parts.now in
    let now = c.loop-number.self in
    let new = c.push_all.new.self in
    let row = part starts numbers c.loop-number.number in
    let there : c.loop-number.number + 1 < length starts =
    omega (arith, c.requires.rows.lists, c.loop-number-test.true) in
    let long : length now.starts.items ≡ length c.args.self.now.starts.items = ap length c.loop-number.invariant.starts
    in
    record {
      starts = c.push_all.ensures.starts ∙ c.loop-number.invariant.starts;
      size = size_row starts numbers c.requires.rows.whole c.loop-number.number there c.args.self.now.starts.items
          now.next.items new.next.items (now.filling.whole ∙ long) c.loop-number.invariant.size c.push_all.ensures.next;
      below = below_more (HasIn (parts starts numbers)) c.loop-number.number
          (lists_in now.starts.items now.next.items now.numbers.items) c.loop-number.invariant.below (Contains row)
          (lists_in new.starts.items new.next.items new.numbers.items) c.push_all.ensures.pushed
          (λ number. (
            λ h. subst (λ (l : List ℕ). Contains l number) (sym (part_there starts numbers c.loop-number.number there))
                h,
            λ h. subst (λ (l : List ℕ). Contains l number) (part_there starts numbers c.loop-number.number there) h,
          ))
          (has_or_not row);
    }

pub returns-clause-full : goal.returns-clause-full
returns-clause-full c = subst (λ (l : List ℕ). AreFull l c.loop-number.self.next.items)
    (sym c.loop-number.invariant.starts)
    (size_last c.args.starts.now c.args.parts.now c.args.self.now.starts.items c.loop-number.self.next.items
    c.loop-number.number (omega (arith, c.requires.rows.lists)) c.requires.rows.whole c.loop-number.invariant.size)

pub returns-clause-turned : goal.returns-clause-turned
returns-clause-turned c =
    let now = c.loop-number.self in
    turned_all (parts c.args.starts.now c.args.parts.now)
    (lists_in now.starts.items now.next.items now.numbers.items) c.loop-number.number
    (omega (arith, length-parts c.args.starts.now c.args.parts.now, c.requires.rows.lists))
    c.loop-number.invariant.below
