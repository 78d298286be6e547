use Rattle.std.proofs.Common.{ℕ, List, Contains, slice_index, sym, subst, arith}
use Rattle.std.specs.Prelude.{◌↔◌, IfSome}
use Rattle.cave_model.specs.Passages.{ArePassages, LeadsTo}
use Rattle.lit_lists.proofs.RelaxLemmas.{passes_none}
use Rattle.lit_lists.proofs.relaxing.pass_on.Goals as goal

pub returns-then-levels-from-le1 : goal.returns-then-levels-from-le1
returns-then-levels-from-le1 c = passes_none c.args.world.now (slice_index c.args.levels.now) c.args.from
    c.args.queue.now.items (omega arith)

pub pass_to_these-requires-clause-these : goal.pass_to_these-requires-clause-these
pass_to_these-requires-clause-these c =
    let all : ArePassages c.args.world.now c.in-Some.passages.now =
    subst (λ o. IfSome o (λ p. ArePassages c.args.world.now p.now)) c.in-Some.is c.requires.passages in
    record {
      exact = λ to. subst (λ (l : List ℕ). Contains l to ↔ LeadsTo c.args.world.now c.args.from to)
          (sym c.from.ensures) (all.exact c.args.from to);
    }
