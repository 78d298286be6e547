use Rattle.std.proofs.Common.{◌≡◌, take, Contains}
use Rattle.lit_lists.specs.Filling.{AreFurther, lists_in}
use Rattle.lit_lists.specs.Rows.{ArePushed}
use Rattle.lit_lists.proofs.filling.Filling.push_all.Given as goal

abbrev pub invariant-loop-part : goal.invariant-loop-part
invariant-loop-part l = record {
  starts : l.self.starts.items ≡ l.fn.self.starts.items;
  next : AreFurther l.fn.self.next.items (take l.part-index l.parts) l.self.next.items;
  pushed : ArePushed (Contains (take l.part-index l.parts))
      (lists_in l.fn.self.starts.items l.fn.self.next.items l.fn.self.numbers.items) l.number
      (lists_in l.self.starts.items l.self.next.items l.self.numbers.items);
}
