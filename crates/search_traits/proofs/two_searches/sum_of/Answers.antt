use Rattle.std.proofs.Common.{◌≤◌, ◌-◌, ℕ, Option, Some, arith, subst, sym}
use Rattle.search_traits.specs.Turns.{IsShareSpent, IsWithin, rest}
use Rattle.search_traits.proofs.TurnLemmas.{share_later}
use Rattle.search_traits.proofs.two_searches.sum_of.Goals as goal

pub returns-in-Some : goal.returns-in-Some
returns-in-Some c =
    let workers = c.args._workers in let limit = c.in-Some.limit in let granted = c.args.granted in
    let within : granted ≤ limit = subst (λ (t : Option ℕ). IsWithin t granted) c.in-Some.is c.requires.within in
    let spent : IsShareSpent workers (Some (limit - granted)) c.args.later =
    subst (λ (t : Option ℕ). IsShareSpent workers (rest t granted) c.args.later) c.in-Some.is c.requires.later in
    let sum = c.sum_within.ensures (omega (arith, spent.0, within)) in
    subst (λ (t : Option ℕ). IsShareSpent workers t c.sum_within.result) (sym c.in-Some.is)
    (subst (λ (n : ℕ). IsShareSpent workers (Some limit) n) (sym sum)
    (share_later workers limit granted c.args.later c.requires.some within spent))
