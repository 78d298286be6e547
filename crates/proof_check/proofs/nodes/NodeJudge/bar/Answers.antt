use Rattle.std.proofs.Common.{refl, length, arith}
use Rattle.std.specs.Prelude.{◌↔◌, IsTrue}
use Rattle.proof_rules.specs.Omitted.{left_without}
use Rattle.node_judges.specs.Tests.{IsDominatedIn}
use Rattle.node_judges.proofs.TestLemmas.{off_true}
use Rattle.proof_check.proofs.NodeLemmas.{bar_bad, bar_good}
use Rattle.proof_check.proofs.SettingLemmas.{of_setting}
use Rattle.proof_check.proofs.TrackLemmas.{marked_below}
use Rattle.proof_check.proofs.nodes.NodeJudge.bar.Goals as goal

pub returns-then-not-is_dominated-clause-bar : goal.returns-then-not-is_dominated-clause-bar
returns-then-not-is_dominated-clause-bar c =
    let dominated = of_setting (λ lists region omitted chosen barred. IsTrue c.is_dominated.result
    ↔ IsDominatedIn lists (left_without omitted.items region.items) chosen.items barred.items c.args.place c.args.by)
    c.args.lists.now c.args.self.now.region c.args.self.now.track c.setting-setting.result
    c.setting-setting.ensures c.is_dominated.ensures in
    bar_bad c.args.lists.now c.args.self.now _ c.args.line c.args.place c.args.by
    (λ d. off_true c.is_dominated.result c.if-not-is_dominated.true (dominated.1 d)) refl

pub returns-clause-bar : goal.returns-clause-bar
returns-clause-bar c =
    let dominated = of_setting (λ lists region omitted chosen barred. IsTrue c.is_dominated.result
    ↔ IsDominatedIn lists (left_without omitted.items region.items) chosen.items barred.items c.args.place c.args.by)
    c.args.lists.now c.args.self.now.region c.args.self.now.track c.setting-setting.result
    c.setting-setting.ensures c.is_dominated.ensures in
    let d = dominated.0 c.if-not-is_dominated.false in
    let low = marked_below c.args.lists.now.places c.args.place (length c.args.lists.now.places) refl d.legal in
    bar_good c.args.lists.now c.args.self.now _ c.args.line c.args.place c.args.by d refl refl refl refl refl refl
    refl refl
    (c.in_ok-push.ensures.items (omega (arith, c.requires.wide.barred)))
