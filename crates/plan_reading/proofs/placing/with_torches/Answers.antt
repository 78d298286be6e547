use Rattle.std.proofs.Common.{map, refl, subst, sym, ◌∙◌}
use Rattle.std.proofs.lemmas.Result.{err_from_is_err_and}
use Rattle.cave_model.specs.Cave.{IsWorld}
use Rattle.cave_model.specs.Rule.{IsRule}
use Rattle.plan_reading.specs.Placed.{cell_of}
use Rattle.plan_reading.proofs.PutLemmas.{all_clean, illegal_refused, put_cave, put_world, unread_refused}
use Rattle.plan_reading.proofs.placing.with_torches.Goals as goal

pub returns-in_err-torches-clause-refused : goal.returns-in_err-torches-clause-refused
returns-in_err-torches-clause-refused c =
    let p = err_from_is_err_and c.from_residual.result c.from_residual.ensures.1 in
    rw (p.1, p.2) (unread_refused c.args.world.now c.args.text.now c.in_err-torches.field-0.0
    c.in_err-torches.ensures.only c.in_err-torches.ensures.refused)

pub returns-in-Some-clause-refused : goal.returns-in-Some-clause-refused
returns-in-Some-clause-refused c = illegal_refused c.args.world.now c.args.text.now c.in_ok-torches.torches.items _
    c.in_ok-torches.ensures.found (rw c.deref.ensures.value at c.in-Some.ensures)

pub new-requires : goal.new-requires
new-requires c = record {
  world = subst IsWorld (sym (put_cave c.args.world.now c.in_ok-torches.torches.items _ _ _ c.size-size.ensures.size
      c.rule.ensures (rw c.deref.ensures.value at c.in_default.ensures)))
      (put_world c.args.world.now c.in_ok-torches.torches.items c.size-size.ensures.sound c.size-size.ensures.small
      (subst IsRule c.rule.ensures (record { high = c.rule.result.one_or_two; needed = c.rule.result.one_or_eight }))
      (rw c.deref.ensures.value at c.in_default.ensures).stand);
}

pub returns-clause-found : goal.returns-clause-found
returns-clause-found c = (
  map (cell_of c.args.world.now.size) c.in_ok-torches.torches.items,
  record {
    torches = c.in_ok-torches.torches.items;
    told = c.in_ok-torches.ensures.found;
    stand = (rw c.deref.ensures.value at c.in_default.ensures).stand;
    are = refl;
  },
  c.new.ensures ∙ put_cave c.args.world.now c.in_ok-torches.torches.items _ _ _ c.size-size.ensures.size
      c.rule.ensures (rw c.deref.ensures.value at c.in_default.ensures),
)

pub returns-clause-refused : goal.returns-clause-refused
returns-clause-refused c = all_clean c.args.world.now c.args.text.now c.in_ok-torches.torches.items
    c.in_ok-torches.ensures.found (rw c.deref.ensures.value at c.in_default.ensures).stand
