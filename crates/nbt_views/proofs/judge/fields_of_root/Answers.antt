use Rattle.std.proofs.Common.{refl}
use Rattle.nbt_core.specs.declared.kind.Kind.TheVariants.{Compound}
use Rattle.nbt_views.specs.Fields.{four_fields}
use Rattle.nbt_views.proofs.FieldViews.{gives_as, fields_of_members}
use Rattle.nbt_views.proofs.judge.fields_of_root.Goals as goal

pub returns-clause-read : goal.returns-clause-read
returns-clause-read c =
    gives_as (λ found. found) c.four_fields.result c.four_fields.new.reader.rest.now _ _
    (fields_of_members (four_fields c.args.a.now c.args.b.now c.args.c.now c.args.d.now) c.args.reader.now.end 512
    Compound c.args.reader.now.rest.now refl c.in_ok-room.room c.in_ok-room.ensures.ok)
    c.four_fields.ensures.read
