use Rattle.std.proofs.Common.{refl, subst, List, ℕ, arith}
use Rattle.std.specs.Prelude.{◌↔◌, IsTrue}
use Rattle.proof_rules.specs.Omitted.{left_without}
use Rattle.node_judges.specs.Tests.{AreLeft, IsFree}
use Rattle.node_judges.proofs.TestLemmas.{off_true}
use Rattle.proof_check.proofs.NodeLemmas.{branch_bad, branch_other, branch_good}
use Rattle.proof_check.proofs.SettingLemmas.{of_setting}
use Rattle.proof_check.proofs.nodes.NodeJudge.branch.Goals as goal

pub returns-then-not-is_free-clause-branch : goal.returns-then-not-is_free-clause-branch
returns-then-not-is_free-clause-branch c =
    let free = of_setting (λ lists region omitted chosen barred. IsTrue c.is_free.result
    ↔ IsFree lists (left_without omitted.items region.items) chosen.items c.args.cell)
    c.args.lists.now c.args.self.now.region c.args.self.now.track c.setting-setting.result
    c.setting-setting.ensures c.is_free.ensures.free in
    branch_bad c.args.lists.now c.args.self.now _
    c.args.line c.args.cell c.args.count (λ f. off_true c.is_free.result c.if-not-is_free.true (free.1 f)) refl

pub returns-then-len-count-clause-branch : goal.returns-then-len-count-clause-branch
returns-then-len-count-clause-branch c =
    let free = of_setting (λ lists region omitted chosen barred. IsTrue c.is_free.result
    ↔ IsFree lists (left_without omitted.items region.items) chosen.items c.args.cell)
    c.args.lists.now c.args.self.now.region c.args.self.now.track c.setting-setting.result
    c.setting-setting.ensures c.is_free.ensures.free in
    branch_other c.args.lists.now c.args.self.now _
    c.args.line c.args.cell c.args.count c.in_ok-places.places.items (free.0 c.if-not-is_free.false)
    (subst (λ (l : List ℕ). AreLeft l c.args.self.now.track.barred.items c.in_ok-places.places.items)
    c.lit_by.ensures c.in_ok-places.ensures)
    (λ e. c.if-len-count.true (omega (arith, c.len.ensures, c.in_ok-places.places.ok.0))) refl

pub returns-clause-branch : goal.returns-clause-branch
returns-clause-branch c =
    let free = of_setting (λ lists region omitted chosen barred. IsTrue c.is_free.result
    ↔ IsFree lists (left_without omitted.items region.items) chosen.items c.args.cell)
    c.args.lists.now c.args.self.now.region c.args.self.now.track c.setting-setting.result
    c.setting-setting.ensures c.is_free.ensures.free in
    branch_good c.args.lists.now c.args.self.now _
    c.args.line c.args.cell c.args.count c.in_ok-places.places.items (free.0 c.if-not-is_free.false)
    (subst (λ (l : List ℕ). AreLeft l c.args.self.now.track.barred.items c.in_ok-places.places.items)
    c.lit_by.ensures c.in_ok-places.ensures)
    (omega (arith, c.if-len-count.false, c.len.ensures, c.in_ok-places.places.ok.0))
    refl refl refl refl refl _ c.requires.wide.chosen c.in_ok-enter.ensures.enters
