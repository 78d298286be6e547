use Rattle.std.proofs.Common.{◌≡◌, ◌+◌, ◌∷◌, [], ◌++◌, take, slice_index, List, ℕ, sym, ap, ◌∙◌, append_assoc, arith}
use Rattle.std.proofs.lemmas.List.{take_more}
use Rattle.node_judges.proofs.TestLemmas.{element_of}
use Rattle.node_judges.proofs.testing.mark.Goals as goal

pub loop-place-preserved : goal.loop-place-preserved
loop-place-preserved c =
    let place = slice_index c.args.places.now c.loop-place.place-index in
    let more : take (c.loop-place.place-index + 1) c.args.places.now ≡ take c.loop-place.place-index c.args.places.now
    ++ place ∷ [] = take_more c.args.places.now c.loop-place.place-index 0 c.loop-place-test.true in
    record {
      whole = c.in_ok-push.ensures.whole ∙ c.loop-place.invariant.whole;
      marked = λ inside.
          (let here = inside place (element_of c.args.places.now c.loop-place.place-index c.loop-place-test.true) in
          let e = c.in_ok-push.ensures.items (omega (arith, here, c.loop-place.invariant.whole)) in
          e ∙ ap (λ (l : List ℕ). l ++ place ∷ []) (c.loop-place.invariant.marked inside)
          ∙ append_assoc c.args.tally.now.items (take c.loop-place.place-index c.args.places.now) (place ∷ [])
          ∙ ap (λ (l : List ℕ). c.args.tally.now.items ++ l) (sym more));
    }
