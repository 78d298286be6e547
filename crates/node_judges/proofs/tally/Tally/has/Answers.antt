use Rattle.std.proofs.Common.{List, ◌≡◌, ◌<◌, length, slice_index, sym, ap, subst, ◌∙◌, ℕ}
use Rattle.std.specs.Prelude.{nat_lt, IsTrue, ◌↔◌, Contains}
use Rattle.node_judges.specs.Tally.{Tally}
use Rattle.node_judges.proofs.TallyLemmas.{tally_has}
use Rattle.node_judges.proofs.tally.Tally.has.Goals as goal

pub returns-in-Some : goal.returns-in-Some
returns-in-Some c =
    let l = c.in-Some.ensures.lookup in
    let inside : c.args.cell < length c.self.inside.counts.items = subst (λ (xs : List ℕ). c.args.cell < length xs)
    c.deref.ensures.value l.3.0 in
    let now : c.in-Some.count.now ≡ slice_index c.self.inside.counts.items c.args.cell = l.3.1 0
    ∙ ap (λ (xs : List ℕ). slice_index xs c.args.cell) c.deref.ensures.value in
    let items = ap (λ (t : Tally). t.items) c.self.view_is in
    let both = tally_has c.self.inside.items.items c.self.inside.counts.items c.args.cell c.self.invariant inside in
    let counts = ap (λ (t : Tally). t.counts) c.self.view_is in
    record {
      has = subst (λ (xs : List ℕ). IsTrue (nat_lt 0 c.in-Some.count.now) ↔ Contains xs c.args.cell) items
          (subst (λ (n : ℕ). IsTrue (nat_lt 0 n) ↔ Contains c.self.inside.items.items c.args.cell) (sym now) both);
      inside = λ t. subst (λ (xs : List ℕ). c.args.cell < length xs) counts inside;
    }
