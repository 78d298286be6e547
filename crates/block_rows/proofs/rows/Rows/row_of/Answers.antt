use Rattle.std.proofs.Common.{option_copied, refl, sym, ap, ◌∙◌}
use Rattle.block_rows.specs.declared.row.Row.{Row}
use Rattle.cave_base.specs.Class.{IsSoundClass}
use Rattle.block_rows.specs.Rows.{Table, fits, fits_as_wildcard}
use Rattle.block_rows.proofs.LookUpLemmas.{row_for-user, row_for-shipped, row_for-wildcard, found_in, found_all}
use Rattle.block_rows.proofs.LookUpLemmas.{copied_none, copied_some}
use Rattle.block_rows.proofs.rows.Rows.row_of.Goals as goal

pub returns-in-Some-clause-row : goal.returns-in-Some-clause-row
returns-in-Some-clause-row c =
    let rows = c.deref.ensures.value ∙ ap (λ (table : Table). table.user) c.self.view_is in
    row_for-user c.args.self.now c.args.state.now c.in-Some.row.now
    (found_in (fits c.args.state.now) rows c.first_by_name.ensures (ap option_copied c.in-Some.is))

pub returns-in-Some-first_by_name-clause-row : goal.returns-in-Some-first_by_name-clause-row
returns-in-Some-first_by_name-clause-row c =
    let rows = c.deref.ensures.value ∙ ap (λ (table : Table). table.user) c.self.view_is in
    let later = c.deref-2.ensures.value ∙ ap (λ (table : Table). table.shipped) c.self.view_is in
    row_for-shipped c.args.self.now c.args.state.now c.in-Some-first_by_name.row.now
    (found_in (fits c.args.state.now) rows c.first_by_name.ensures
    (copied_none c.first_by_name.result c.in_default.not-Some))
    (found_in (fits c.args.state.now) later c.first_by_name-2.ensures (ap option_copied c.in-Some-first_by_name.is))

pub returns-clause-row : goal.returns-clause-row
returns-clause-row c =
    let rows = c.deref.ensures.value ∙ ap (λ (table : Table). table.user) c.self.view_is in
    let later = c.deref-2.ensures.value ∙ ap (λ (table : Table). table.shipped) c.self.view_is in
    let wildcards = c.deref-3.ensures.value ∙ ap (λ (table : Table). table.user) c.self.view_is in
    sym (found_in (fits_as_wildcard c.args.state.now) wildcards c.first_wildcard.ensures refl)
    ∙ row_for-wildcard c.args.self.now c.args.state.now
    (found_in (fits c.args.state.now) rows c.first_by_name.ensures
    (copied_none c.first_by_name.result c.in_default.not-Some))
    (found_in (fits c.args.state.now) later c.first_by_name-2.ensures
    (copied_none c.first_by_name-2.result c.in_default-first_by_name.not-Some))

pub returns-in-Some-clause-sound : goal.returns-in-Some-clause-sound
returns-in-Some-clause-sound c =
    found_all (λ (row : Row). IsSoundClass row.class)
    (fits c.args.state.now) c.self.inside.user.items c.in-Some.row.now c.self.invariant.user_sound
    (found_in (fits c.args.state.now) c.deref.ensures.value c.first_by_name.ensures (ap option_copied c.in-Some.is))

pub returns-in-Some-first_by_name-clause-sound : goal.returns-in-Some-first_by_name-clause-sound
returns-in-Some-first_by_name-clause-sound c =
    found_all (λ (row : Row). IsSoundClass row.class)
    (fits c.args.state.now) c.self.inside.shipped.items c.in-Some-first_by_name.row.now
    c.self.invariant.shipped_sound
    (found_in (fits c.args.state.now) c.deref-2.ensures.value c.first_by_name-2.ensures
    (ap option_copied c.in-Some-first_by_name.is))

pub returns-clause-sound : goal.returns-clause-sound
returns-clause-sound c =
    copied_some (λ (row : Row). IsSoundClass row.class) c.first_wildcard.result λ row e.
    found_all (λ (row : Row). IsSoundClass row.class) (fits_as_wildcard c.args.state.now) c.self.inside.user.items row
    c.self.invariant.user_sound
    (found_in (fits_as_wildcard c.args.state.now) c.deref-3.ensures.value c.first_wildcard.ensures e)
