use Rattle.std.proofs.Common.{ap, ◌∙◌, refl, ℕ, List}
use Rattle.std.proofs.lemmas.Result.{err_from_is_err_and}
use Rattle.nbt_core.specs.Reading.{mapped}
use Rattle.nbt_views.specs.Fields.{two_fields}
use Rattle.nbt_views.proofs.FieldViews.{no_passed_field, gives_as, fields_of_members, fields_too_deep}
use Rattle.nbt_views.proofs.fields.fields_of.Goals as goal

pub returns-then-not-is_same-clause-read : goal.returns-then-not-is_same-clause-read
returns-then-not-is_same-clause-read c =
    let s = c.in_ok-skip.ensures.read in
    let none = λ (name : List ℕ). no_passed_field name c.args.reader.now.end c.args.room c.args.kind
    c.args.reader.now.rest.now c.skip.new.self.rest.now c.is_same.result c.requires c.is_same.ensures
    c.if-not-is_same.true s in
    ap (mapped (two_fields c.args.a.now c.args.b.now)) s.is ∙ rw (none c.args.a.now, none c.args.b.now) refl

pub returns-in_err-room-clause-read : goal.returns-in_err-room-clause-read
returns-in_err-room-clause-read c =
    let p = err_from_is_err_and c.from_residual-in_err-room.result c.from_residual-in_err-room.ensures.1 in
    let deep = c.in_err-room.ensures.too_deep in
    rw (p.1, p.2, deep.1) (fields_too_deep (two_fields c.args.a.now c.args.b.now) c.args.reader.now.end c.args.room
    c.args.kind c.args.reader.now.rest.now (c.is_same.ensures.0 c.if-not-is_same.false) deep.0)

pub returns-clause-read : goal.returns-clause-read
returns-clause-read c =
    gives_as (λ found. found) c.two_fields.result c.two_fields.new.reader.rest.now _ _
    (fields_of_members (two_fields c.args.a.now c.args.b.now) c.args.reader.now.end c.args.room c.args.kind
    c.args.reader.now.rest.now (c.is_same.ensures.0 c.if-not-is_same.false) c.in_ok-room.room c.in_ok-room.ensures.ok)
    c.two_fields.ensures.read
