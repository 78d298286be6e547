use Rattle.std.proofs.Common.{◌≡◌, ◌+◌, [], ◌∷◌, ◌++◌, ℕ, slice_index, ap, ◌∙◌, refl, arith}
use Rattle.std.specs.Prelude.{false}
use Rattle.std.proofs.lemmas.Grind.{get_or_default_zero}
use Rattle.proof_check.proofs.track.Track.next_kid.Goals as goal

pub returns-clause-kid : goal.returns-clause-kid
returns-clause-kid c =
    let place : c.index-place.result.now ≡ slice_index c.args.frame.places.items c.args.frame.index =
    c.index-place.ensures
    ∙ get_or_default_zero c.args.frame.places.items c.args.frame.index c.index-place.result.now
    (omega (arith, c.requires.more)) in
    let next : c.index-next.result.now ≡ slice_index c.args.frame.places.items (c.args.frame.index + 1) =
    c.index-next.ensures ∙ get_or_default_zero c.args.frame.places.items (c.args.frame.index + 1)
    c.index-next.result.now c.requires.more in
    record {
      place = λ lt. c.in_ok-push.ensures.items (omega (arith, place))
          ∙ ap (λ (p : ℕ). c.args.self.now.barred.items ++ p ∷ []) place;
      next = λ lt. c.in_ok-push-2.ensures.items (omega (arith, next))
          ∙ ap (λ (p : ℕ). c.args.self.now.chosen.items ++ p ∷ []) next;
      last = record {
        places = c.args.frame.places;
        index = c.args.frame.index + 1;
        bars = c.len.result;
        omits = c.len-2.result;
        is_pick = false;
      };
      frames = c.in_ok-push-3.ensures.items;
      same = refl;
      index = refl;
      bars = c.len.ensures;
      omits = c.len-2.ensures;
      branch = refl;
      still = refl;
    }
