use Rattle.lit_lists.proofs.LightsLemmas.{lights_boxed, pairs_turned, places_boxed, places_turned}
use Rattle.lit_lists.proofs.pairs.pairs_of.Goals as goal

pub turned-requires-clause-boxed : goal.turned-requires-clause-boxed
turned-requires-clause-boxed c = places_boxed c.args.world.now c.args.places.now c.in_ok-found.found
    c.requires.places c.in_ok-found.ensures

pub turned-requires-2-clause-boxed : goal.turned-requires-2-clause-boxed
turned-requires-2-clause-boxed c =
    let lights = places_turned c.args.world.now c.args.dark.now c.in_ok-found.found c.in_ok-lights.lights
    c.requires.dark c.in_ok-found.ensures c.in_ok-lights.ensures.whole c.in_ok-lights.ensures.turned in
    lights_boxed c.args.world.now c.args.dark.now c.in_ok-lights.lights c.requires.dark lights

pub returns : goal.returns
returns c =
    let lights = places_turned c.args.world.now c.args.dark.now c.in_ok-found.found c.in_ok-lights.lights
    c.requires.dark c.in_ok-found.ensures c.in_ok-lights.ensures.whole c.in_ok-lights.ensures.turned in
    pairs_turned c.args.world.now c.in_ok-lights.lights c.in_ok-lit_by.lit_by lights
    c.in_ok-lit_by.ensures.turned
