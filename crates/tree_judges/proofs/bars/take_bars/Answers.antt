use Rattle.std.proofs.Common.{◌∷◌, ◌++◌, [], List, subst, sym, ap, ◌∙◌, arith}
use Rattle.std.proofs.Common.{slice_index_or}
use Rattle.std.proofs.lemmas.Bool.{true≢false}
use Rattle.std.proofs.lemmas.List.{take_more}
use Rattle.tree_judges.specs.Bars.{TakesBars}
use Rattle.proof_tree.specs.declared.bars.Bar.{Bar}
use Rattle.tree_judges.proofs.BarLemmas.{takes_more, still_state, most_all, most_some}
use Rattle.tree_judges.proofs.bars.take_bars.Goals as goal

abbrev no_bar : Bar
no_bar = record { place = 0; by = 0 }

pub is_bar-requires : goal.is_bar-requires
is_bar-requires c = still_state c.args.region.now c.args.node.now c.loop-bar.node c.loop-bar.bars.items c.requires
    c.loop-bar.invariant.0

pub loop-bar-preserved : goal.loop-bar-preserved
loop-bar-preserved c =
    let region = c.args.region.now in let old = c.args.node.now in let taken = c.bar.ensures in
    let proposed = c.args.proposed.now in let i = c.loop-bar.bar-index in
    let next = slice_index_or proposed i no_bar in (
      subst (λ (l : List Bar). TakesBars region old l c.bar.new.self) (sym c.in_ok-push.ensures.items)
          (takes_more region old c.loop-bar.node c.bar.new.self c.loop-bar.bars.items next c.loop-bar.invariant.0
          (c.is_bar.ensures.0 c.if-not-is_bar.false) taken.chosen taken.unlit taken.barred),
      c.in_ok-push.ensures.items ∙ ap (λ (l : List Bar). l ++ next ∷ []) c.loop-bar.invariant.1
          ∙ sym (take_more proposed i no_bar c.loop-bar-test.true),
    )

pub returns-then-not-is_bar-clause-most : goal.returns-then-not-is_bar-clause-most
returns-then-not-is_bar-clause-most c = most_some c.args.region.now c.args.proposed.now c.loop-bar.bars.items
    c.loop-bar.node c.loop-bar.bar-index c.loop-bar.invariant.1 c.loop-bar-test.true
    (λ m. true≢false (sym (c.is_bar.ensures.1 m) ∙ c.if-not-is_bar.true))

pub returns-clause-most : goal.returns-clause-most
returns-clause-most c = most_all c.args.region.now c.args.proposed.now c.loop-bar.bars.items c.loop-bar.node
    c.loop-bar.bar-index c.loop-bar.invariant.1 (omega arith)
