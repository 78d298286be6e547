use Rattle.std.proofs.Common.{ℕ, ◌<◌}
use Rattle.search_cases.specs.Made.{IsLitIn}
use Rattle.search_cases.proofs.making.each_is_lit.Given as goal

abbrev pub invariant-loop-bit : goal.invariant-loop-bit
invariant-loop-bit l = (bit : ℕ) → bit < l.bit → IsLitIn l.rows bit
