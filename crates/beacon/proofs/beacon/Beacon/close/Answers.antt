use Rattle.std.proofs.Common.{◌≤◌, ◌∙◌, sym, ap, subst}
use Rattle.beacon.proofs.SplitLemmas.{ends}
use Rattle.beacon.proofs.beacon.Beacon.close.Goals as goal

pub returns-clause-told : goal.returns-clause-told
returns-clause-told c =
    let is = c.seat.view_is in
    let first = ap (λ p. p.knows.first) is ∙ c.requires.1 in
    let none = ap (λ p. p.knows.out) is ∙ c.requires.2 in
    let end = ends _ _ c.seat.inside.seat.id c.seat.inside.seat.me.0 c.word-word.result first
    c.seat.invariant.1 none c.close_with-closed.ensures.values.2 c.word-word.ensures in
    sym (ap (λ p. p.knows.told) is) ∙ end.0

pub returns-clause-seen : goal.returns-clause-seen
returns-clause-seen c =
    let is = c.seat.view_is in
    let first = ap (λ p. p.knows.first) is ∙ c.requires.1 in
    let none = ap (λ p. p.knows.out) is ∙ c.requires.2 in
    let end = ends _ _ c.seat.inside.seat.id c.seat.inside.seat.me.0 c.word-word.result first
    c.seat.invariant.1 none c.close_with-closed.ensures.values.2 c.word-word.ensures in
    subst (λ n. c.word-word.result ≤ n) (ap (λ p. p.knows.seen) is) end.1
