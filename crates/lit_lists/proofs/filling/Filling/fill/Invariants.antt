use Rattle.std.proofs.Common.{◌≡◌, drop, slice_index}
use Rattle.cave_model.specs.Parts.{parts}
use Rattle.lit_lists.specs.Filling.{lists_in, AreOfSize}
use Rattle.lit_lists.proofs.RowLemmas.{AreRowsBelow, HasIn}
use Rattle.lit_lists.proofs.filling.Filling.fill.Given as goal

abbrev pub invariant-loop-number : goal.invariant-loop-number
invariant-loop-number l = record {
  starts : l.self.starts.items ≡ l.fn.self.starts.items;
  size : AreOfSize l.fn.self.starts.items l.self.next.items (drop (slice_index l.starts l.number) l.parts);
  below : AreRowsBelow (HasIn (parts l.starts l.parts)) l.number
      (lists_in l.self.starts.items l.self.next.items l.self.numbers.items);
}
