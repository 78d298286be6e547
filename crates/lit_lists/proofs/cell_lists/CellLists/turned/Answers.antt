use Rattle.std.proofs.Common.{◌≡◌, ◌<◌, ◌+◌, ℕ, List, length, sym, ap, subst, ◌∙◌, arith}
use Rattle.std.specs.Prelude.{All}
use Rattle.cave_model.specs.Parts.{parts}
use Rattle.lit_lists.specs.Filling.{AreCounts, AreSumsOf, lists_in}
use Rattle.lit_lists.specs.Rows.{AreOfOneBox, AreTurned, AreWhole}
use Rattle.lit_lists.proofs.PartLemmas.{length-parts}
use Rattle.lit_lists.proofs.TurnLemmas.{lists_none, numbers_inside, sums_room, turned_parts}
use Rattle.lit_lists.proofs.cell_lists.CellLists.turned.Goals as goal

pub counts_of-requires : goal.counts_of-requires
counts_of-requires c =
    let starts = c.self.inside.starts.items in
    let numbers = c.self.inside.numbers.items in
    let boxed : AreOfOneBox (parts starts numbers) = subst AreOfOneBox (sym c.self.view_is) c.requires.boxed in
    let inside = numbers_inside starts numbers c.self.invariant boxed in
    let count : length (parts starts numbers) ≡ c.args.count = ap length c.self.view_is ∙ c.requires.count in
    record {
      inside = subst (λ (n : ℕ). All (λ number. number < n) c.deref.result.now) count
          (subst (λ (l : List ℕ). All (λ number. number < length (parts starts numbers)) l)
          (sym c.deref.ensures.value) inside);
    }

pub fill-requires-clause-rows : goal.fill-requires-clause-rows
fill-requires-clause-rows c =
    let starts = c.self.inside.starts.items in
    let count : length (parts starts c.self.inside.numbers.items) ≡ c.args.count =
    ap length c.self.view_is ∙ c.requires.count in
    let long = length-parts starts c.self.inside.numbers.items in
    let some = c.self.invariant.starting.some in
    let from : parts c.deref-3.result.now c.deref-4.result.now ≡ c.args.self.now =
    ap (λ (l : List ℕ). parts l c.deref-4.result.now) c.deref-3.ensures.value
    ∙ ap (parts starts) c.deref-4.ensures.value ∙ c.self.view_is in
    record {
      whole = subst (λ (l : List ℕ). AreWhole l c.deref-4.result.now) (sym c.deref-3.ensures.value)
          (subst (AreWhole starts) (sym c.deref-4.ensures.value) c.self.invariant);
      lists = ap length c.deref-3.ensures.value ∙ omega (arith, count, long, some);
      boxed = subst AreOfOneBox (sym from) c.requires.boxed;
    }

pub fill-requires-clause-ready : goal.fill-requires-clause-ready
fill-requires-clause-ready c =
    let counts = c.in_ok-counts.counts.items in
    let starts = c.in_ok-filling.filling.starts.items in
    let long : length starts ≡ c.args.count + 1 =
    omega (arith, c.in_ok-filling.ensures.sums.whole, c.in_ok-counts.ensures.whole, c.deref-2.ensures.len) in
    let counted : AreCounts c.args.count c.deref-4.result.now counts =
    subst (λ (l : List ℕ). AreCounts c.args.count l counts) (c.deref.ensures.value ∙ sym c.deref-4.ensures.value)
    c.in_ok-counts.ensures in
    let sums : AreSumsOf counts starts = subst (λ (l : List ℕ). AreSumsOf l starts) c.deref-2.ensures.value
    c.in_ok-filling.ensures.sums in
    record {
      lists = long;
      empty = lists_none starts c.in_ok-filling.filling.next.items c.in_ok-filling.filling.numbers.items c.args.count
          c.in_ok-filling.ensures.empty long;
      room = sums_room c.args.count c.deref-4.result.now counts starts c.in_ok-filling.filling.next.items counted sums
          c.in_ok-filling.ensures.empty;
    }

pub new-requires-2 : goal.new-requires-2
new-requires-2 c = record { whole = c.fill.new.self.filling.parts }

pub returns-clause-whole : goal.returns-clause-whole
returns-clause-whole c =
    let filled = c.fill.new.self in
    let long = length-parts filled.starts.items filled.numbers.items in
    let starts : length filled.starts.items ≡ length c.in_ok-filling.filling.starts.items =
    ap length c.fill.ensures.starts in
    ap length c.new-2.ensures
    ∙ omega (
      arith,
      long,
      starts,
      c.in_ok-filling.ensures.sums.whole,
      c.in_ok-counts.ensures.whole,
      c.deref-2.ensures.len,
      c.requires.count,
    )

pub returns-clause-turned : goal.returns-clause-turned
returns-clause-turned c =
    let filled = c.fill.new.self in
    let from : parts c.deref-3.result.now c.deref-4.result.now ≡ c.args.self.now =
    ap (λ (l : List ℕ). parts l c.deref-4.result.now) c.deref-3.ensures.value
    ∙ ap (parts c.self.inside.starts.items) c.deref-4.ensures.value ∙ c.self.view_is in
    rw c.new-2.ensures (turned_parts c.args.self.now filled.starts.items filled.next.items filled.numbers.items
    c.fill.ensures.full (subst (λ (rows : List (List ℕ)). AreTurned rows
    (lists_in filled.starts.items filled.next.items filled.numbers.items)) from c.fill.ensures.turned))
