use Rattle.std.proofs.Common.{◌≡◌, ◌+◌, ◌++◌, ℕ, List, length, take, drop, refl, sym, subst, ap, ◌∙◌, arith}
use Rattle.proof_check.specs.Homes.{Homes, Joins, PutsAll}
use Rattle.proof_check.specs.declared.homes.Home.{Home}
use Rattle.proof_check.proofs.HomeLemmas.{homes_join, front_part}
use Rattle.proof_check.proofs.homes.Homes.join.Goals as goal

pub returns : goal.returns
returns c =
    let p = subst (λ (l : List Home). PutsAll c.self.inside.count c.args.cells.now l c.put_all.new.homes)
    c.as_mut_slice.ensures.value c.put_all.ensures in
    let more : List Home = drop (length c.put_all.new.homes) c.self.inside.homes.items in
    let long : c.self.inside.homes.len ≡ length c.put_all.new.homes =
    omega (arith, c.self.inside.homes.ok.0, p.whole) in
    let front : take c.self.inside.homes.len
    (c.put_all.new.homes ++ drop (length c.put_all.new.homes) c.self.inside.homes.items) ≡ c.put_all.new.homes
    = ap (λ (n : ℕ). take n (c.put_all.new.homes ++ drop (length c.put_all.new.homes) c.self.inside.homes.items)) long
    ∙ front_part c.put_all.new.homes (drop (length c.put_all.new.homes) c.self.inside.homes.items) in
    subst (λ (l : List Home). Joins c.args.cells.now c.args.self.now
    (record { homes = l; count = c.self.inside.count + 1 })) (sym front)
    (subst (λ (h : Homes). Joins c.args.cells.now h
    (record { homes = c.put_all.new.homes; count = c.self.inside.count + 1 })) c.self.view_is
    (homes_join c.args.cells.now c.self.inside.homes.items c.put_all.new.homes c.self.inside.count
    (c.self.inside.count + 1) p refl))
