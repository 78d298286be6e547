use Rattle.std.proofs.Common.{Option, ℕ, refl, subst, sym}
use Rattle.std.specs.Prelude.{IsSome}
use Rattle.search_traits.proofs.TurnLemmas.{all_spent}
use Rattle.search_traits.proofs.two_searches.stopped.Goals as goal

pub returns : goal.returns
returns c = record {
  best = tt;
  within = tt;
  stopped = (
    record {
      limited = subst (λ (t : Option ℕ). IsSome t) (sym c.requires.spent) refl;
      of_it = c.requires.cover;
      some = c.requires.floor.positive;
      none_below = c.requires.floor.holds;
    },
    all_spent c.args._workers c.args._turns c.args.found.granted c.requires.some c.requires.spent,
  );
}
