use Rattle.std.proofs.Common.{ap, ◌∙◌, ◌++◌, ◌∷◌, [], arith}
use Rattle.std.specs.Arc.{arc_value}
use Rattle.std.proofs.lemmas.List.{map-append}
use Rattle.certificate_text.specs.PlanOf.{plan_of, plans_of}
use Rattle.proof_tree.specs.Shape.{tree_of}
use Rattle.cave_plan.specs.Course.{known}
use Rattle.cave_plan.proofs.CourseLemmas.{best_added}
use Rattle.cave_plan.proofs.course.Course.add_best.Goals as goal

pub returns : goal.returns
returns c =
    let self = c.args.self.now in let plan = c.args.plan in let size = c.size.ensures.size in
    best_added c.args.allowance (arc_value c.args.region) plan.cover plan.turns (tree_of plan.proof) (known self)
    c.extend_from_slice.new.self.items c.sum_within-self.result c.max-self.result (plans_of c.push.new.self.items)
    c.requires.best c.places.ensures.kept c.requires.within
    (c.in_ok-extend_from_slice.ensures.items ∙ ap (λ l. self.torches.items ++ l) c.places.ensures.places)
    (λ le. (let sum = c.sum_within-self.ensures (omega (arith, le, size, c.len.ensures)) in omega (arith, sum, size)))
    c.max-self.ensures
    (ap plans_of c.in_ok-push.ensures.items ∙ map-append plan_of self.parts.items
    ((c.args.region, plan.cover, plan.proof) ∷ []))
