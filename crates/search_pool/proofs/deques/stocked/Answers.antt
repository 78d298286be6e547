use Rattle.std.proofs.Common.{[], ◌∷◌, ◌∙◌, ap, length, subst, sym, arith}
use Rattle.search_pool.specs.Deques.{AreStocked}
use Rattle.search_pool.proofs.SlotLemmas.{length-push, new_is_stocked, stocked_push}
use Rattle.search_pool.proofs.deques.stocked.Goals as goal

pub loop-number-preserved : goal.loop-number-preserved
loop-number-preserved c =
    let pieces = c.args.piece ∷ [] in
    let owners = c.loop-number.owners.items in
    let owner = c.in_ok-owner.owner in
    let pushed = c.in_ok-push-2.ensures.items in
    record {
      stocked = subst (AreStocked pieces) (sym pushed) (stocked_push pieces owners owner
          c.loop-number.invariant.stocked (new_is_stocked _ owner c.in_ok-owner.ensures));
      each = (let e = ap length pushed ∙ length-push owners owner in
          let i = c.loop-number.invariant.each in omega (arith, e, i));
    }
