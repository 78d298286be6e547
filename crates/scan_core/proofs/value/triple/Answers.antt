use Rattle.std.proofs.Common.{rules, sym, ◌∙◌, arith}
use Rattle.std.specs.Int.{w32}
use Rattle.std.proofs.lemmas.Int.{to_z-of_z}
use Rattle.scan_core.proofs.ValueLemmas.{three_read}
use Rattle.scan_core.proofs.value.triple.Goals as goal

pub returns : goal.returns
returns c =
    rw (
      to_z-of_z w32 c.in_ok-x.x (search rules),
      to_z-of_z w32 c.in_ok-y.y (search rules),
      to_z-of_z w32 c.in_ok-z.z (search rules),
    ) (three_read c.args.value.now c.in_ok-items.items c.next_int.new.self c.next_int-2.new.self
    c.next_int-3.new.self c.in_ok-x.x c.in_ok-y.y c.in_ok-z.z c.in_ok-items.ensures
    (sym c.len.ensures ∙ omega arith) c.in_ok-x.ensures c.in_ok-y.ensures c.in_ok-z.ensures)
