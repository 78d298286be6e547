use Rattle.std.proofs.Common.{refl, ap, ◌∙◌}
use Rattle.std.specs.Prelude.{string_bytes}
use Rattle.cave_plan.specs.Course.{known}
use Rattle.cave_plan.specs.PlanText.{plan_text}
use Rattle.cave_plan.proofs.OutlineLemmas.{inside, outlines}
use Rattle.cave_plan.proofs.outline.outline_from.Goals as goal

pub plan_text-requires-clause-in_box : goal.plan_text-requires-clause-in_box
plan_text-requires-clause-in_box c =
    let plans = c.args.plans in let given = c.requires.plans in
    rw c.deref.ensures.value (inside c.args.world.now c.args._allowance given.regions (known plans)
    c.rule_kept.ensures given.are given.is c.in_order-torches.result.items c.in_order-torches.ensures)

pub returns : goal.returns
returns c =
    let plans = c.args.plans in let given = c.requires.plans in
    let is = c.in_ok-text.ensures ∙ ap (λ l. plan_text c.args.world.now l c.args.dark c.least_if.result)
    c.deref.ensures.value
    ∙ ap (plan_text c.args.world.now c.in_order-torches.result.items c.args.dark) c.least_if.ensures in
    record {
      shows = outlines c.args.world.now c.args._allowance given.regions (known plans)
          c.rule_kept.ensures given.are given.is c.in_order-torches.result.items c.in_order-torches.ensures
          plans.stopped (string_bytes c.in_ok-text.text) refl
          (record {
            ascending = c.in_order-torches.ensures.ascending;
            dark = c.args.dark;
            counts = c.requires.dark;
            is = is;
          });
      turns = given.is.most;
    }
