use Rattle.std.proofs.Common.{◌≡◌, ◌<◌, ◌++◌, [], ◌∷◌, ℕ, length, slice_index, ap, ◌∙◌, refl, arith, rules}
use Rattle.std.specs.Prelude.{false}
use Rattle.std.proofs.lemmas.Grind.{get_or_default_zero}
use Rattle.proof_check.proofs.TrackLemmas.{entered}
use Rattle.proof_check.proofs.track.Track.enter.Goals as goal

pub returns-clause-enters : goal.returns-clause-enters
returns-clause-enters c =
    let some : 0 < length c.args.places.items = search rules in
    let first : c.index.result.now ≡ slice_index c.args.places.items 0 = c.index.ensures
    ∙ get_or_default_zero c.args.places.items 0 c.index.result.now some in
    entered (length c.args.self.now.chosen.counts)
    c.args.places.items c.args.self.now.chosen.items c.args.self.now.barred.items c.args.self.now.omitted.items
    c.args.self.now.frames.items
    (record { places = c.args.places; index = 0; bars = c.len.result; omits = c.len-2.result; is_pick = false })
    c.push.new.self.items c.push-2.new.self.items some
    (λ lt. c.in_ok-push.ensures.items (omega (arith, first))
    ∙ ap (λ (p : ℕ). c.args.self.now.chosen.items ++ p ∷ []) first) c.in_ok-push-2.ensures.items refl refl
    c.len.ensures c.len-2.ensures refl
