use Rattle.std.proofs.Common.{ℕ, [], ap, ◌∙◌}
use Rattle.std.specs.Global.{Vec}
use Rattle.light_flood.proofs.WaitingLemmas.{replaced_as}
use Rattle.light_flood.proofs.waiting.Waiting.take.Goals as goal

pub returns-clause-rest : goal.returns-clause-rest
returns-clause-rest c =
    replaced_as (λ (v : Vec ℕ). v.items) c.self.inside.cells.items c.args.level c.replace.new.dest c.args.self.now []
    c.self.view_is c.self.invariant c.requires.level
    (ap (λ (v : Vec ℕ). v.items) c.replace.ensures.after ∙ c.new.ensures.items)
