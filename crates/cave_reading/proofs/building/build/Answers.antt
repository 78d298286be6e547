use Rattle.std.proofs.Common.{◌≡◌, map, ap, sym, subst, ◌∙◌}
use Rattle.std.proofs.lemmas.Result.{err_from_is_err_and}
use Rattle.cave_base.specs.Box.{point}
use Rattle.cave_reading.specs.Building.{class_by}
use Rattle.cave_model.specs.Cave.{Cave, IsWorld}
use Rattle.cave_model.specs.RuleOf.{rule_of}
use Rattle.cave_reading.specs.World.{IsCaveOf}
use Rattle.cave_reading.proofs.CaveLemmas.{IsTold, cave_by, built, cave_is, cave_sound, one_cave, no_unknown}
use Rattle.cave_reading.proofs.CaveLemmas.{only_memory}
use Rattle.cave_reading.proofs.building.build.Goals.{After-size}
use Rattle.cave_reading.proofs.building.build.Goals as goal

pub returns-in_err-states-clause-only : goal.returns-in_err-states-clause-only
returns-in_err-states-clause-only c = λ cave is.
    let p = err_from_is_err_and c.from_residual-in_err-states.result c.from_residual-in_err-states.ensures.1 in
    rw (p.1, p.2) (only_memory c.args.scan.now c.args.rows.now (rule_of c.args.rule) cave
    c.in_err-states.field-0.0 c.cells-cells.ensures.whole is c.in_err-states.ensures.fault)

told : (c : After-size) → IsTold c.args.scan.now
told c = record {
  small = c.size.ensures.small;
  whole = c.cells-cells.ensures.whole;
  known = c.cells-cells.ensures.known;
}

made : (c : After-size) → ◌≡◌ {A = Cave}
    (record { size = point c.size.result; classes = c.in_ok-classes.classes.items; rule = rule_of c.args.rule })
    (cave_by c.args.scan.now (rule_of c.args.rule) c.in_ok-states.states.items)
made c = built c.args.scan.now (rule_of c.args.rule) c.in_ok-states.states.items (point c.size.result)
    c.in_ok-classes.classes.items
    c.size.ensures.size
    (c.in_ok-classes.ensures ∙ ap (map (class_by c.deref-2.result.now)) c.cells-cells.ensures.cells
    ∙ ap (λ states. map (class_by states) c.args.scan.now.cells) c.deref-2.ensures.value)

pub new-requires : goal.new-requires
new-requires c = record {
  world = subst IsWorld (sym (made c))
      (cave_sound c.args.scan.now (rule_of c.args.rule) c.in_ok-states.states.items (told c)
      c.in_ok-states.ensures.found.sound
      (record { high = c.args.rule.one_or_two; needed = c.args.rule.one_or_eight }));
}

is_cave : (c : After-size) → IsCaveOf c.args.scan.now c.args.rows.now (rule_of c.args.rule)
    (record { size = point c.size.result; classes = c.in_ok-classes.classes.items; rule = rule_of c.args.rule })
is_cave c =
    subst (IsCaveOf c.args.scan.now c.args.rows.now (rule_of c.args.rule)) (sym (made c))
    (cave_is c.args.scan.now c.args.rows.now (rule_of c.args.rule) c.in_ok-states.states.items (told c)
    c.in_ok-states.ensures.found)

pub returns-clause-found : goal.returns-clause-found
returns-clause-found c =
    subst (IsCaveOf c.args.scan.now c.args.rows.now (rule_of c.args.rule)) (sym c.new.ensures)
    (is_cave (goal.at.returns-clause-found c).After-size)

pub returns-clause-only : goal.returns-clause-only
returns-clause-only c = λ cave is. c.new.ensures ∙ one_cave c.args.scan.now c.args.rows.now (rule_of c.args.rule) _
    cave (is_cave (goal.at.returns-clause-only c).After-size) is

pub returns-clause-refused : goal.returns-clause-refused
returns-clause-refused c = λ e unknown. no_unknown c.args.scan.now c.args.rows.now (rule_of c.args.rule) _ e
    c.cells-cells.ensures.whole (is_cave (goal.at.returns-clause-refused c).After-size) unknown
