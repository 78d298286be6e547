use Rattle.std.proofs.Common.{◌%◌, arith}
use Rattle.std.proofs.lemmas.Nat.Bits.{shr_and_one}
use Rattle.std.proofs.lemmas.Bool.Decides.{nat_tests}
use Rattle.set_cover.proofs.BitLemmas.{one_if, has_if}
use Rattle.set_cover.proofs.bit_row.BitRow.has.Goals as goal

pub returns : goal.returns
returns c =
    let word = c.word.ensures in
    let at = shr_and_one c.word.result (c.args.bit % 64) in (
      λ t. has_if c.args.self.now c.args.bit (grind (arith, nat_tests)),
      λ h. (let one = one_if c.args.self.now c.args.bit h in grind (arith, nat_tests)),
    )
