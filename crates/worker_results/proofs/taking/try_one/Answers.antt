use Rattle.std.proofs.Common.{ap, sym, ◌∙◌, ◌≡◌, ◌<◌, ◌+◌, length, get_or, subst, arith}
use Rattle.crossbeam_deque.specs.Handles.{stealer_deque, stealer_flavor}
use Rattle.piece_deque.specs.Rule.{Answers, WasEmpty}
use Rattle.worker_results.specs.Naming.{Thief}
use Rattle.worker_results.specs.Passes.{KnownPass}
use Rattle.worker_results.proofs.PassLemmas.{thief_at, deque_at, deques_set, tried}
use Rattle.worker_results.proofs.taking.try_one.Goals as goal

pub steal-requires : goal.steal-requires
steal-requires g c =
    let rs = c.args.passes.now.items in
    let k = c.args.deque in
    let r = c.index_mut.result.now in
    let near : k < length rs = omega (arith, c.args.passes.now.ok.0, c.len.ensures, c.if-deque-len.false) in
    let t = thief_at g.B.Naming.deque 0 c.args.thieves.now k c.index-thieves-deque.result c.requires.number
    c.requires.thieves in
    let there : r.deque ≡ 0 + k =
    ap (λ (r : KnownPass). r.deque) c.index_mut.ensures.value
    ∙ deque_at rs 0 g.B.Naming.workers k r near c.requires.row in
    let is = c.index-thieves-deque.is in (
      ap (λ (t : Thief). stealer_flavor t) is ∙ t.0,
      ap (λ (t : Thief). stealer_deque t) is ∙ t.1 ∙ ap g.B.Naming.deque (sym there),
    )

pub returns-clause-row : goal.returns-clause-row
returns-clause-row g c =
    let rs = c.args.passes.now.items in
    deques_set rs c.args.deque c.steal.new.self c.index_mut.result.now
    (c.steal.ensures.same ∙ ap (λ (r : KnownPass). r.deque) c.index_mut.ensures.value) ∙ c.requires.row

pub returns-clause-tried : goal.returns-clause-tried
returns-clause-tried g c =
    let rs = c.args.passes.now.items in
    let k = c.args.deque in
    let r = c.index_mut.result.now in
    let near : k < length rs = omega (arith, c.args.passes.now.ok.0, c.len.ensures, c.if-deque-len.false) in
    let was = c.index_mut.ensures.value in
    let now = c.steal.new.self in
    let there : (get_or rs k r).deque ≡ k = omega (arith, deque_at rs 0 g.B.Naming.workers k r near c.requires.row) in
    tried k rs k now r c.steal.result near there (c.steal.ensures.same ∙ ap (λ (r : KnownPass). r.deque) was)
    (subst (λ (y : KnownPass). Answers WasEmpty y.knows c.steal.result now.knows) was c.steal.ensures.done)
