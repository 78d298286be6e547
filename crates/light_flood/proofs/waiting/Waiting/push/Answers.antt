use Rattle.std.proofs.Common.{◌≡◌, ℕ, List, [], ◌∷◌, ◌++◌, ap, ◌∙◌, arith}
use Rattle.std.specs.Global.{Vec}
use Rattle.light_flood.specs.Spreading.{waiting_at}
use Rattle.light_flood.proofs.WaitingLemmas.{replaced_as, list_at}
use Rattle.light_flood.proofs.waiting.Waiting.push.Goals as goal

pub returns : goal.returns
returns c =
    let was : c.index_mut-at_level.result.now.items ≡ waiting_at c.args.self.now c.args.level =
    ap (λ (v : Vec ℕ). v.items) c.index_mut-at_level.ensures.value
    ∙ list_at (λ (v : Vec ℕ). v.items) c.self.inside.cells.items c.args.level c.index_mut-at_level.result.now
    c.args.self.now c.self.view_is (omega (arith, c.self.invariant)) in
    replaced_as (λ (v : Vec ℕ). v.items) c.self.inside.cells.items c.args.level c.push.new.self c.args.self.now
    (waiting_at c.args.self.now c.args.level ++ c.args.cell ∷ [])
    c.self.view_is c.self.invariant c.requires.level
    (c.in_ok-push.ensures.items ∙ ap (λ (l : List ℕ). l ++ c.args.cell ∷ []) was)
