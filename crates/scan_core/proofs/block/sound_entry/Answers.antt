use Rattle.std.proofs.Common.{rules, ℤ, Some, codes, refl, sym, ap, ◌∙◌}
use Rattle.std.specs.Int.{w32}
use Rattle.std.proofs.lemmas.Int.{to_z-of_z}
use Rattle.nbt_core.specs.Value.{Nbt, leaf}
use Rattle.nbt_core.specs.Value as values
use Rattle.nbt_views.specs.Parts.{numbers}
use Rattle.cave_base.specs.Box as grid
use Rattle.scan_core.proofs.ValueLemmas.{point_triple}
use Rattle.scan_core.proofs.block.sound_entry.Goals as goal

pub returns : goal.returns
returns c =
    let found = c.in-Some.found in
    let at = grid.point c.in-Some-natural.at in (
      numbers (codes "pos") (codes "state") found.0 found.1,
      c.in-Some.ensures,
      record {
        entry = record { at = at; state = c.in-Some-known.state };
        told = record {
          placed = ap (λ (t : Nbt). Some t) (point_triple _ _ _ at c.in-Some-natural.ensures);
          indexed = ap (λ (n : ℤ). Some (leaf (values.int n)))
              (sym (to_z-of_z w32 found.1 (search rules)) ∙ c.in-Some-known.ensures.known.0);
        };
        inside = sym c.is_within.ensures ∙ c.if-not-is_within.false;
        known = c.in-Some-known.ensures.known.1;
        numbered = c.number.ensures.number;
        indexed = refl;
      },
    )
