use Rattle.std.proofs.Common.{◌≡◌, Option, codes, refl, sym, ap, ◌∙◌}
use Rattle.nbt_core.specs.Value.{Nbt, field}
use Rattle.cave_base.specs.Box as grid
use Rattle.scan_core.specs.Faults.{pos_fault, state_fault}
use Rattle.scan_core.proofs.ScanLemmas.{first_two}
use Rattle.scan_core.proofs.block.placement.Goals as goal

pub returns : goal.returns
returns c told e =
    let place = c.in_ok-at.ensures in
    let index = c.in_ok-state.ensures in
    let pos : field (codes "pos") told ≡ c.args.pos = sym (ap (λ (x : Option Nbt × Option Nbt). x.0) e) in
    let state : field (codes "state") told ≡ c.args.state = sym (ap (λ (x : Option Nbt × Option Nbt). x.1) e) in (
      record {
        entry = record { at = grid.point c.in_ok-at.at; state = c.in_ok-state.state };
        told = record { placed = pos ∙ place.0.placed; indexed = state ∙ index.0.indexed };
        inside = place.0.inside;
        known = index.0.known;
        numbered = c.number.ensures.number;
        indexed = refl;
      },
      first_two _ _ (ap (pos_fault (grid.point c.args.size) c.args.index) pos ∙ place.1)
          (ap (state_fault c.args.states c.args.index) state ∙ index.1),
    )
