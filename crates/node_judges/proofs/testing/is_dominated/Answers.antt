use Rattle.std.proofs.Common.{ℕ, List, sym, subst, ◌∙◌}
use Rattle.std.specs.Prelude.{IsTrue}
use Rattle.node_judges.specs.Settings.{left_in}
use Rattle.node_judges.specs.Tests.{AreServed}
use Rattle.node_judges.proofs.TestLemmas.{off_true}
use Rattle.node_judges.proofs.testing.is_dominated.Goals as goal

pub returns : goal.returns
returns c =
    let served = λ (t : IsTrue c.are_served.result). subst
    (λ (l : List ℕ). AreServed c.args.setting.now.lists.now (left_in c.args.setting.now)
    c.args.setting.now.chosen.now.items c.args.by l)
    c.lights.ensures (c.are_served.ensures.0 t) in (
      λ t. record {
        legal = sym c.is_place.ensures ∙ c.if-not-is_place.false;
        by_legal = sym c.is_place-else-not-is_place.ensures ∙ c.if-not-is_place-2.false;
        other = c.if-place-by.false;
        free = λ has. off_true c.has.result c.if-has.false (c.has.ensures.has.1 has);
        by_free = λ has. off_true c.has-else-has.result c.if-has-2.false (c.has-else-has.ensures.has.1 has);
        unchosen = λ has. off_true c.has-else-has-2.result c.if-has-3.false (c.has-else-has-2.ensures.has.1 has);
        served = served t;
      },
      λ d. c.are_served.ensures.1 (subst
          (λ (l : List ℕ). AreServed c.args.setting.now.lists.now (left_in c.args.setting.now)
          c.args.setting.now.chosen.now.items c.args.by l)
          (sym c.lights.ensures) d.served),
    )
