use Rattle.std.proofs.Common.{◌<◌, ℕ, length, refl, arith, All, Contains}
use Rattle.std.specs.Prelude.{◌↔◌, IsTrue}
use Rattle.proof_rules.specs.Omitted.{left_without}
use Rattle.proof_rules.proofs.ListLemmas.{at_member}
use Rattle.node_judges.proofs.TestLemmas.{off_true}
use Rattle.proof_check.proofs.NodeLemmas.{omit_bad, omit_good}
use Rattle.proof_check.proofs.SettingLemmas.{of_setting}
use Rattle.proof_check.proofs.nodes.NodeJudge.omit.Goals as goal

pub returns-then-not-are_left-clause-omission : goal.returns-then-not-are_left-clause-omission
returns-then-not-are_left-clause-omission c =
    let left = of_setting (λ lists region omitted chosen barred. IsTrue c.are_left.result
    ↔ All (Contains (left_without omitted.items region.items)) c.args.these.now)
    c.args.lists.now c.args.self.now.region c.args.self.now.track c.setting-setting.result
    c.setting-setting.ensures c.are_left.ensures.left in
    omit_bad c.args.lists.now c.args.self.now _ c.args.line c.args.these.now
    (λ all. off_true c.are_left.result c.if-not-are_left.true (left.1 all)) refl

pub returns-clause-omission : goal.returns-clause-omission
returns-clause-omission c =
    let left = of_setting (λ lists region omitted chosen barred. IsTrue c.are_left.result
    ↔ All (Contains (left_without omitted.items region.items)) c.args.these.now)
    c.args.lists.now c.args.self.now.region c.args.self.now.track c.setting-setting.result
    c.setting-setting.ensures c.are_left.ensures.left in
    let below = of_setting (λ lists region omitted chosen barred. IsTrue c.are_left.result
    → All (λ (cell : ℕ). cell < length region.counts) c.args.these.now)
    c.args.lists.now c.args.self.now.region c.args.self.now.track c.setting-setting.result
    c.setting-setting.ensures c.are_left.ensures.inside in
    let inside = below c.if-not-are_left.false in
    omit_good c.args.lists.now c.args.self.now _ c.args.line c.args.these.now
    (left.0 c.if-not-are_left.false) refl refl refl refl refl refl refl refl
    (c.in_ok-mark.ensures.marked (λ cell h.
    (let lt = at_member (λ (cell : ℕ). cell < length c.args.self.now.region.counts) c.args.these.now cell inside h in
    omega (arith, lt, c.requires.wide.region, c.requires.wide.omitted))))
