use Rattle.std.proofs.Common.{ℕ, Option, sym, ap, ◌∙◌}
use Rattle.std.specs.Prelude.{unwrap_or}
use Rattle.light_flood.specs.Reached.{reached}
use Rattle.light_flood.proofs.ReachLemmas.{reached-from_entries}
use Rattle.light_flood.proofs.reached.Reach.at.Goals as goal

pub returns : goal.returns
returns c =
    c.unwrap_or.ensures
    ∙ ap (λ (o : Option ℕ). unwrap_or o 0) (c.copied.ensures ∙ c.get.ensures.value)
    ∙ sym (reached-from_entries c.self.inside.levels.entries c.args.cell)
    ∙ ap (λ m. reached m c.args.cell) c.self.view_is
