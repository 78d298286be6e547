-- The judge before the first line.
use Rattle.std.proofs.Common.{◌≡◌, ℕ, [], length, refl, sym, subst, ◌∙◌, arith}
use Rattle.cave_base.specs.Box.{cell_count}
use Rattle.cave_model.specs.Cave.{Cave}
use Rattle.cave_model.specs.Spawn.{IsDark}
use Rattle.cave_model.specs.Torches.{IsPlace}
use Rattle.lit_lists.specs.Lists.{LitLists, AreListsOf}
use Rattle.lit_lists.proofs.PairLemmas.{marked_inside}
use Rattle.proof_rules.proofs.ListLemmas.{no_member}
use Rattle.weight_judge.specs.Rooms.{AreNoRooms}
use Rattle.proof_check.specs.Heard.{IsAfter}
use Rattle.proof_check.specs.Homes.{AreHomesOf}
use Rattle.proof_check.specs.Judged.{start}
use Rattle.proof_check.specs.Kept.{IsNew, IsWide}
use Rattle.proof_check.specs.declared.judge.Judge.{Judge}
use Rattle.proof_check.specs.declared.nodes.NodeJudge.{NodeJudge}

-- new nodes are as wide as the box
wide_start : (cave : Cave) (lists : LitLists) (nodes : NodeJudge) → AreListsOf cave lists
    → IsNew (cell_count cave.size) nodes
    → IsWide lists nodes
wide_start cave lists nodes known n = record {
  region = n.region ∙ sym known.places.whole;
  seen = n.seen ∙ sym known.places.whole;
  chosen = n.chosen ∙ sym known.places.whole;
  barred = n.barred ∙ sym known.places.whole;
  omitted = n.omitted ∙ sym known.places.whole;
  few = omega (arith, n.few, known.places.whole);
  none = n.no_seen;
  inside = record {
    each = λ place cell h. (let lt = marked_inside cave
        (IsPlace cave) lists.places place known.places ((known.lit_by place cell).0 h).legal in
        omega (arith, known.places.whole));
  };
  matched = record {
    same = λ place cell. (
      λ h. (known.lit_by place cell).1 ((known.lights place cell).0 h),
      λ h. (known.lights place cell).1 ((known.lit_by place cell).0 h),
    );
    below = λ place cell h. (let lt = marked_inside cave
        (IsDark cave) lists.dark cell known.dark ((known.lights place cell).0 h).dark in
        omega (arith, known.places.whole));
  };
  rooms = subst (λ (n : ℕ). AreNoRooms n nodes.rooms) (sym known.places.whole) n.rooms;
}

-- a new judge with empty homes has heard no line
pub after_none : (cave : Cave) (judge : Judge) → AreListsOf cave judge.lists → IsNew (cell_count cave.size) judge.nodes
    → AreHomesOf [] judge.torches → length judge.torches.homes ≡ cell_count cave.size → AreHomesOf [] judge.regions
    → length judge.regions.homes ≡ cell_count cave.size → IsAfter cave judge []
after_none cave judge known n torches torch_cells regions region_cells = record {
  known = known;
  wide = wide_start cave judge.lists judge.nodes known n;
  torches = torches;
  regions = regions;
  torch_cells = torch_cells;
  region_cells = region_cells;
  led = λ dark. record {
    j = start;
    runs = refl;
    keeps = record {
      good = n.bad;
      cells = n.no_region;
      floor = n.floor;
      weak = n.weak;
      spot = record {
        chosen_is = n.no_chosen;
        barred_is = n.no_barred;
        omitted_is = n.no_omitted;
        fits = (n.no_frames, n.no_chosen);
      };
      weighing = record { line = n.weighed_at; to_come = n.to_come; groups = n.no_groups };
      dark = λ cell h. no_member cell h;
    };
    before = refl;
  };
}
