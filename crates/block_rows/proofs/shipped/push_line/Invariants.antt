use Rattle.std.proofs.Common.{◌≡◌, ◌++◌, map, take}
use Rattle.block_rows.specs.Lines.{rows_in}
use Rattle.block_rows.proofs.shipped.push_line.Given as goal

abbrev pub invariant-loop-name : goal.invariant-loop-name
invariant-loop-name l = l.rows.items ≡ l.initial.rows.items ++ rows_in (record {
  names = map (λ name. name.now) (take l.name-index l.line.names.now);
  when = map (λ asked. (asked.0.now, asked.1.now)) l.line.when.now;
  class = l.line.class;
})
