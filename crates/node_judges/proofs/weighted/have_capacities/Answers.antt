use Rattle.std.proofs.Common.{◌<◌, ◌++◌, ◌∷◌, [], take, refl, sym, ap, subst, ◌∙◌, arith}
use Rattle.std.proofs.lemmas.List.{take_more, take_all}
use Rattle.std.proofs.lemmas.List.Elements.{All-push}
use Rattle.proof_rules.specs.declared.groups.Group.{Group}
use Rattle.node_judges.specs.Weighed.{HaveCapacities}
use Rattle.node_judges.proofs.weighted.have_capacities.Goals as goal

pub loop-group-preserved : goal.loop-group-preserved
loop-group-preserved c = subst HaveCapacities
    (sym (take_more c.args.groups.now c.loop-group.group-index c.group-item.result c.loop-group-test.true
    ∙ ap (λ (g : Group). take c.loop-group.group-index c.args.groups.now ++ g ∷ []) (sym c.group-item.is)))
    (All-push (λ (g : Group). 0 < g.capacity) (take c.loop-group.group-index c.args.groups.now) c.group-item.result
    c.loop-group.invariant (omega arith))

pub returns : goal.returns
returns c = (
  λ t. subst HaveCapacities (take_all c.loop-group.group-index c.args.groups.now c.loop-group-test.false)
      c.loop-group.invariant,
  λ all. refl,
)
