use Rattle.std.proofs.Common.{◌∙◌, refl}
use Rattle.certificate_lines.proofs.Lift.{on, off}
use Rattle.cave_model.specs.Plan.{AreDistinct}
use Rattle.proof_rules.specs.Omitted.{left_without}
use Rattle.node_judges.specs.Tests.{AreApartIn, DecidesApart}
use Rattle.proof_check.specs.Kept.{left_in}
use Rattle.proof_check.proofs.NodeLemmas.{leaf_bad, leaf_good}
use Rattle.proof_check.proofs.SettingLemmas.{of_setting}
use Rattle.proof_check.proofs.nodes.NodeJudge.leaf.Goals as goal

pub returns-then-not-fits-clause-leaf : goal.returns-then-not-fits-clause-leaf
returns-then-not-fits-clause-leaf c =
    let old = c.args.self.now in
    let decides = of_setting (λ lists region omitted chosen barred. DecidesApart lists
    (left_without omitted.items region.items) chosen.items barred.items c.args.these.now c.in_ok-fits.fits)
    c.args.lists.now c.args.self.now.region c.args.self.now.track c.setting-setting.result
    c.setting-setting.ensures c.in_ok-fits.ensures.apart in
    leaf_bad c.args.lists.now old _ c.args.line c.args.these.now
    (off c.in_ok-fits.fits (AreApartIn c.args.lists.now (left_in old) old.track.chosen.items old.track.barred.items
    c.args.these.now) (AreDistinct c.args.these.now → ¬ AreApartIn c.args.lists.now (left_in old)
    old.track.chosen.items old.track.barred.items c.args.these.now) c.if-not-fits.true decides) refl

pub returns-clause-leaf : goal.returns-clause-leaf
returns-clause-leaf c =
    let old = c.args.self.now in
    let decides = of_setting (λ lists region omitted chosen barred. DecidesApart lists
    (left_without omitted.items region.items) chosen.items barred.items c.args.these.now c.in_ok-fits.fits)
    c.args.lists.now c.args.self.now.region c.args.self.now.track c.setting-setting.result
    c.setting-setting.ensures c.in_ok-fits.ensures.apart in
    leaf_good c.args.lists.now old _ c.args.line c.args.these.now
    (on c.in_ok-fits.fits (AreApartIn c.args.lists.now (left_in old) old.track.chosen.items old.track.barred.items
    c.args.these.now) (AreDistinct c.args.these.now → ¬ AreApartIn c.args.lists.now (left_in old)
    old.track.chosen.items old.track.barred.items c.args.these.now) c.if-not-fits.false decides)
    refl refl refl refl (c.first_of-self.ensures ∙ rw c.is_weak-weak.ensures refl) _
    c.requires.wide.chosen c.in_ok-close.ensures.closes
