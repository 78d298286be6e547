-- What a judge of nodes says of a setting, said of what the setting was made of.
use Rattle.std.proofs.Common.{subst}
use Rattle.lit_lists.specs.Lists.{LitLists}
use Rattle.node_judges.specs.Tally.{Tally}
use Rattle.node_judges.specs.declared.setting.Setting.{Setting}
use Rattle.proof_check.specs.Track.{IsSettingOf}
use Rattle.proof_check.specs.declared.track.Track.{Track}

-- what holds of a setting's lists and tallies holds of those that it was made of
pub of_setting : (P : LitLists → Tally → Tally → Tally → Tally → Type 0) (lists : LitLists) (region : Tally)
    (track : Track) (s : Setting) → IsSettingOf lists region track s
    → P s.lists.now s.region.now s.omitted.now s.chosen.now s.barred.now
    → P lists region track.omitted track.chosen track.barred
of_setting P lists region track s e p =
    subst (λ (t : Tally). P lists region track.omitted track.chosen t) e.barred_are
    (subst (λ (t : Tally). P lists region track.omitted t s.barred.now) e.chosen_are
    (subst (λ (t : Tally). P lists region t s.chosen.now s.barred.now) e.omitted_are
    (subst (λ (t : Tally). P lists t s.omitted.now s.chosen.now s.barred.now) e.region_is
    (subst (λ (l : LitLists). P l s.region.now s.omitted.now s.chosen.now s.barred.now) e.lists_are p))))
