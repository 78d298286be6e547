use Rattle.std.proofs.Common.{◌∙◌, ◌++◌, List, [], ℕ, Contains, ap, sym, subst}
use Rattle.event_core.specs.NodeShape.{shape_of}
use Rattle.event_core.specs.WaitingNames.{waiting_in}
use Rattle.event_core.proofs.WaitingLemmas.{listed}
use Rattle.event_core.proofs.event_state.Core.waiting_names.Goals as goal

pub returns : goal.returns
returns c =
    let all = c.in_ok-names.ensures
    ∙ ap (λ (l : List (List ℕ)). l ++ waiting_in c.root-root.result
    (shape_of c.root.result.now)) c.new-names.ensures.items
    ∙ ap (λ (n : List ℕ). waiting_in n (shape_of c.root.result.now)) c.root-root.ensures
    ∙ ap (waiting_in []) c.root.ensures in
    λ name chosen barred h. subst (λ (l : List (List ℕ)). Contains l name) (sym all)
    (listed [] [] [] c.args.self.now.root name chosen barred h)
