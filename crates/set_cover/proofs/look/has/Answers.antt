use Rattle.std.proofs.Common.{◌/◌, ◌%◌, slice_index, arith}
use Rattle.std.proofs.lemmas.Nat.Bits.{shr_and_one}
use Rattle.std.proofs.lemmas.Bool.Decides.{nat_tests}
use Rattle.set_cover.proofs.BitLemmas.{one_if, has_if}
use Rattle.set_cover.proofs.look.has.Goals as goal

pub returns : goal.returns
returns c =
    let word = slice_index c.args.words.now (c.args.bit / 64) in
    let at = shr_and_one word (c.args.bit % 64) in (
      λ t. has_if c.args.words.now c.args.bit (grind (arith, nat_tests)),
      λ h. (let one = one_if c.args.words.now c.args.bit h in grind (arith, nat_tests)),
    )
