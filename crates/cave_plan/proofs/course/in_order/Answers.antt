use Rattle.std.proofs.Common.{eqb, sym, subst, Contains}
use Rattle.std.proofs.lemmas.List.Filters.{dedup_is}
use Rattle.std.proofs.lemmas.List.Kept.{Contains-dedup_nat, Contains-from_dedup}
use Rattle.std.proofs.lemmas.List.Sorted.{Contains-permutation, IsPermutation-sym}
use Rattle.std.proofs.lemmas.Map.Keys.{IsStrictlyIncreasing-dedup}
use Rattle.cave_plan.proofs.course.in_order.Goals as goal

pub returns : goal.returns
returns c =
    let sorted = c.sort_unstable.new.self.items in
    let is = dedup_is eqb sorted c.dedup.new.self.items c.dedup.ensures.filtered in
    record {
      ascending = rw is (IsStrictlyIncreasing-dedup sorted c.sort_unstable.ensures.sorted);
      exact = λ x. (
        (λ h. Contains-permutation sorted c.args.cells.items x
            (IsPermutation-sym c.args.cells.items sorted c.sort_unstable.ensures.permutation)
            (Contains-from_dedup eqb sorted x (subst (λ l. Contains l x) is h))),
        (λ h. subst (λ l. Contains l x) (sym is) (Contains-dedup_nat sorted x
            (Contains-permutation c.args.cells.items sorted x c.sort_unstable.ensures.permutation h))),
      );
    }
