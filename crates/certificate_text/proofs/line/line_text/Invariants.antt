use Rattle.std.proofs.Common.{◌≡◌, ◌++◌, string_bytes, drop, codes, decimal}
use Rattle.std.specs.List.{flat_map}
use Rattle.proof_rules.specs.Text.{line}
use Rattle.certificate_text.proofs.line.line_text.Given as goal

-- the text so far, and the numbers that are left
abbrev pub invariant-loop-number : goal.invariant-loop-number
invariant-loop-number l = string_bytes l.out ++ flat_map (λ n. codes " " ++ decimal n)
    (drop l.number-index l.numbers) ≡ line l.word l.numbers
