use Rattle.std.proofs.Common.{arith, ap, List, ℕ, refl, sym, subst, get_or}
use Rattle.std.specs.Prelude.{IsTrue, false}
use Rattle.certificate_lines.specs.Shares.{IsGroupFrom}
use Rattle.certificate_lines.proofs.ShareLemmas.{is_group, no_group}
use Rattle.certificate_lines.proofs.group.first_of_group.Goals as goal

pub returns-then-many-eq0 : goal.returns-then-many-eq0
returns-then-many-eq0 c = no_group c.args.count c.args.from c.in-Some.capacity c.in-Some.many c.args.numbers.now
    c.in-Some.shares.now c.in-Some.ensures (λ g. omega (arith, g.filled))

pub returns-then-shares-many : goal.returns-then-shares-many
returns-then-shares-many c = no_group c.args.count c.args.from c.in-Some.capacity c.in-Some.many c.args.numbers.now
    c.in-Some.shares.now c.in-Some.ensures (λ g. c.if-shares-many.true g.half)

pub returns-then-not-are_shares : goal.returns-then-not-are_shares
returns-then-not-are_shares c = no_group c.args.count c.args.from c.in-Some.capacity c.in-Some.many c.args.numbers.now
    c.in-Some.shares.now c.in-Some.ensures
    (λ g. (let no : IsTrue false = c.if-not-are_shares.ensures.1 g.shares in cc))

pub returns : goal.returns
returns c = subst (λ (ns : List ℕ). IsGroupFrom c.args.count c.args.from ns (get_or c.in-Some.shares.now 0 0))
    (sym c.in-Some.ensures)
    (is_group c.args.count c.args.from c.in-Some.capacity c.in-Some.many c.in-Some.shares.now
    (omega arith)
    (let h = c.type_inv.numbers 0 in
    let e = ap (λ (ns : List ℕ). get_or ns 0 0) c.in-Some.ensures in
    omega arith)
    (omega arith) c.if-shares-many.false (c.if-not-are_shares.ensures.0 refl))
