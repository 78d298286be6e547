use Rattle.std.proofs.Common.{refl}
use Rattle.std.specs.Prelude.{◌↔◌, IsTrue}
use Rattle.node_judges.specs.Tests.{MayBePickedIn}
use Rattle.node_judges.proofs.TestLemmas.{off_true}
use Rattle.proof_check.proofs.NodeLemmas.{pick_bad, pick_good}
use Rattle.proof_check.proofs.SettingLemmas.{of_setting}
use Rattle.proof_check.proofs.nodes.NodeJudge.pick.Goals as goal

pub returns-then-not-may_be_picked-clause-pick : goal.returns-then-not-may_be_picked-clause-pick
returns-then-not-may_be_picked-clause-pick c =
    let may = of_setting (λ lists region omitted chosen barred. IsTrue c.may_be_picked.result
    ↔ MayBePickedIn lists chosen.items barred.items c.args.place)
    c.args.lists.now c.args.self.now.region c.args.self.now.track c.setting-setting.result
    c.setting-setting.ensures c.may_be_picked.ensures in
    pick_bad c.args.lists.now c.args.self.now _ c.args.line c.args.place
    (λ m. off_true c.may_be_picked.result c.if-not-may_be_picked.true (may.1 m)) refl

pub returns-clause-pick : goal.returns-clause-pick
returns-clause-pick c =
    let may = of_setting (λ lists region omitted chosen barred. IsTrue c.may_be_picked.result
    ↔ MayBePickedIn lists chosen.items barred.items c.args.place)
    c.args.lists.now c.args.self.now.region c.args.self.now.track c.setting-setting.result
    c.setting-setting.ensures c.may_be_picked.ensures in
    pick_good c.args.lists.now c.args.self.now _ c.args.line c.args.place (may.0 c.if-not-may_be_picked.false)
    refl refl refl refl refl _ c.requires.wide.chosen c.in_ok-pick.ensures.picks
