use Rattle.std.proofs.Common.{◌≡◌, ◌-◌, length, refl, subst, arith}
use Rattle.std.proofs.lemmas.Bool.{false≢true}
use Rattle.proof_rules.specs.declared.groups.Share.{Share}
use Rattle.tree_judges.proofs.WeightedLemmas.{AreSharesTo, shares_all, not_rising}
use Rattle.tree_judges.proofs.weighted_leaf.are_shares.Goals as goal

pub returns : goal.returns
returns c =
    let shares = c.args.shares.now in
    let e : c.loop-index.index ≡ length shares = omega arith in
    (λ t. shares_all shares (subst (AreSharesTo shares) e c.loop-index.invariant), λ s. refl)

pub returns-then-shares-index : goal.returns-then-shares-index
returns-then-shares-index c = (
  λ t. absurd (false≢true t),
  λ s. (let none : Share = record { cell = 0; weight = 0 } in
      absurd (not_rising c.args.shares.now (c.loop-index.index - 1) c.loop-index.index none (omega arith) (omega arith)
      c.if-shares-index.true s)),
)
