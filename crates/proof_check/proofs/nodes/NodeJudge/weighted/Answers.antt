use Rattle.std.proofs.Common.{◌∙◌, length, refl}
use Rattle.certificate_lines.proofs.Lift.{on, off}
use Rattle.proof_rules.specs.Omitted.{left_without}
use Rattle.proof_check.specs.Kept.{left_in}
use Rattle.node_judges.specs.Weighed.{DecidesWeighted, MayBeWeighted, MayNotBeWeighted}
use Rattle.proof_check.proofs.NodeLemmas.{weighted_bad, weighted_good}
use Rattle.proof_check.proofs.SettingLemmas.{of_setting}
use Rattle.proof_check.proofs.nodes.NodeJudge.weighted.Goals as goal

pub returns-then-not-fits-clause-weighted : goal.returns-then-not-fits-clause-weighted
returns-then-not-fits-clause-weighted c =
    let old = c.args.self.now in
    let decides = of_setting (λ lists region omitted chosen barred. DecidesWeighted lists
    (left_without omitted.items region.items) chosen.items barred.items (length old.seen.counts) c.args.groups.now
    c.in_ok-fits.fits) c.args.lists.now old.region old.track c.setting-setting.result c.setting-setting.ensures
    c.in_ok-fits.ensures.weighted in
    weighted_bad c.args.lists.now old _ c.args.line c.args.groups.now
    (off c.in_ok-fits.fits (MayBeWeighted c.args.lists.now (left_in old) old.track.chosen.items old.track.barred.items
    c.args.groups.now) (MayNotBeWeighted c.args.lists.now (left_in old) old.track.chosen.items old.track.barred.items
    c.args.groups.now) c.if-not-fits.true decides.decides) refl

pub returns-clause-weighted : goal.returns-clause-weighted
returns-clause-weighted c =
    let old = c.args.self.now in
    let decides = of_setting (λ lists region omitted chosen barred. DecidesWeighted lists
    (left_without omitted.items region.items) chosen.items barred.items (length old.seen.counts) c.args.groups.now
    c.in_ok-fits.fits) c.args.lists.now old.region old.track c.setting-setting.result c.setting-setting.ensures
    c.in_ok-fits.ensures.weighted in
    weighted_good c.args.lists.now old _ c.args.line c.args.groups.now
    (on c.in_ok-fits.fits (MayBeWeighted c.args.lists.now (left_in old) old.track.chosen.items old.track.barred.items
    c.args.groups.now) (MayNotBeWeighted c.args.lists.now (left_in old) old.track.chosen.items old.track.barred.items
    c.args.groups.now) c.if-not-fits.false decides.decides)
    refl refl refl refl (c.first_of-self.ensures ∙ rw (c.is_weak-weak.ensures, c.places_for_all.ensures) refl) _
    c.requires.wide.chosen c.in_ok-close.ensures.closes
