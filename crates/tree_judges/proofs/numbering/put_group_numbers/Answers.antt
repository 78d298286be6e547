use Rattle.std.proofs.Common.{ap, set, sym, ◌∙◌}
use Rattle.std.proofs.lemmas.List.Edits.{map_over_more}
use Rattle.proof_rules.specs.declared.groups.Group.{Group}
use Rattle.pack_bound.specs.Naming.{numbered_group}
use Rattle.tree_judges.proofs.numbering.put_group_numbers.Goals as goal

pub loop-group-preserved : goal.loop-group-preserved
loop-group-preserved c =
    let f = numbered_group c.args.region.now in
    let groups = c.loop-group.groups in
    let i = c.loop-group.group-index in
    ap (λ (g : Group). set groups i g)
    (c.group_with_numbers.ensures ∙ ap f (c.replace-old.ensures.value ∙ sym c.group-item.is))
    ∙ map_over_more f c.args.groups.now groups i c.group-item.result c.loop-group-test.true c.loop-group.invariant
    c.group-item.is
