use Rattle.std.proofs.Common.{subst, ◌∙◌, ℕ}
use Rattle.proof_check.specs.Kept.{IsNew}
use Rattle.proof_check.proofs.StartLemmas.{after_none}
use Rattle.proof_check.proofs.judge.Judge.new.Goals as goal

pub returns : goal.returns
returns c =
    let new = subst (λ (n : ℕ). IsNew n c.in_ok-nodes.nodes) c.cell_count-count.ensures.count c.in_ok-nodes.ensures in
    after_none c.args.world.now _ c.in_ok-lists.ensures new c.in_ok-torches.ensures.none
    (c.in_ok-torches.ensures.whole ∙ c.cell_count-count.ensures.count) c.in_ok-regions.ensures.none
    (c.in_ok-regions.ensures.whole ∙ c.cell_count-count.ensures.count)
