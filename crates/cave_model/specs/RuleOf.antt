-- The rule as the code holds it.
use Rattle.cave_model.specs.Rule.{Rule}
use Rattle.cave_model.specs.declared.rule.Rule as held

-- the rule of spawning that the code's value stands for
abbrev pub rule_of : held.Rule → Rule
rule_of rule = record { headroom = rule.headroom; need = rule.need }
