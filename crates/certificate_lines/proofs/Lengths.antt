-- How long a line of a certificate may be.
use Rattle.std.proofs.Common.{ℕ, ◌*◌, ◌≤◌, inl, inr, List, [], ◌∷◌, length, All, ap, arith, length-append}
use Rattle.std.specs.Prelude.{codes, decimal}
use Rattle.std.proofs.lemmas.Fmt.{length-decimal-le}
use Rattle.std.proofs.lemmas.List.Elements.{All-head, All-tail}
use Rattle.certificate_lines.specs.Numbers.{IsSmall, numbers_text, longest_line}
use Rattle.certificate_lines.specs.Sound.{IsSoundStage}
use Rattle.certificate_lines.specs.Steps.{Takes, Says}
use Rattle.certificate_lines.proofs.Lift.{AreSmall, start_small, box_small, headroom_small, need_small, regions_small}
use Rattle.certificate_lines.proofs.Lift.{end_small, region_small, dark_small, torches_small, leaf_small}
use Rattle.certificate_lines.proofs.Lift.{branch_small, bar_small, weighted_small, omit_small, pick_small, group_small}
use Rattle.certificate_lines.specs.declared.stage.Stage.{Stage}
use Rattle.certificate_lines.specs.declared.stage.Stage.TheVariants as stage

short_number : (n : ℕ) → IsSmall n → length (decimal n) ≤ 10
short_number n h = length-decimal-le 10 n (omega arith) (omega arith) (omega arith)

pub short_numbers : (numbers : List ℕ) → All IsSmall numbers → length (numbers_text numbers) ≤ 11 * length numbers
short_numbers [] a = omega arith
short_numbers (n ∷ ns) a = omega (
  arith,
  short_number n (All-head IsSmall n ns a),
  short_numbers ns (All-tail IsSmall n ns a),
  length-append (decimal n) (numbers_text ns),
)

short_says : (word text : List ℕ) (Means : List ℕ → Stage → Type 0) (next : Stage) → AreSmall Means → length word ≤ 10
    → Says word Means text next → length text ≤ longest_line
short_says word text Means next small w s = omega (
  arith,
  ap length s.1,
  length-append word (numbers_text s.0),
  short_numbers s.0 (small.each s.0 next s.2),
  small.few s.0 next s.2,
)

pub short_line : (s next : Stage) (text : List ℕ) → IsSoundStage s → Takes s text next → length text ≤ longest_line
short_line stage.Start next text h t = short_says (codes "torchproof") text _ next start_small (omega arith) t
short_line (stage.Box version) next text h t = short_says (codes "box") text _ next (box_small version) (omega arith) t
short_line (stage.Headroom version count) next text h t = short_says (codes "headroom") text _ next
    (headroom_small version count) (omega arith) t
short_line (stage.Need version count) next text h t = short_says (codes "need") text _ next
    (need_small version count) (omega arith) t
short_line (stage.Regions version count) next text h t = short_says (codes "regions") text _ next
    (regions_small version count h) (omega arith) t
short_line (stage.Region version count to_come) next text h (inl t) = short_says (codes "end") text _ next
    (end_small to_come) (omega arith) t
short_line (stage.Region version count to_come) next text h (inr t) = short_says (codes "region") text _ next
    (region_small version count to_come h.0) (omega arith) t
short_line (stage.Dark version count to_come n m) next text h t = short_says (codes "D") text _ next
    (dark_small version count to_come n m h.0) (omega arith) t
short_line (stage.Torches version count to_come m) next text h t = short_says (codes "T") text _ next
    (torches_small version count to_come m h.0) (omega arith) t
short_line (stage.Node version count to_come pending) next text h (inl t) = short_says (codes "L") text _ next
    (leaf_small version count to_come pending h.0) (omega arith) t
short_line (stage.Node version count to_come pending) next text h (inr (inl t)) = short_says (codes "B") text _ next
    (branch_small version count to_come pending h.0) (omega arith) t
short_line (stage.Node version count to_come pending) next text h (inr (inr (inl t))) =
    short_says (codes "E") text _ next (bar_small version count to_come pending h.0) (omega arith) t
short_line (stage.Node version count to_come pending) next text h (inr (inr (inr (inl t)))) =
    short_says (codes "W") text _ next (weighted_small version count to_come pending h.0) (omega arith) t
short_line (stage.Node version count to_come pending) next text h (inr (inr (inr (inr (inl t))))) =
    short_says (codes "D") text _ next (omit_small version count to_come pending h.0) (omega arith) t
short_line (stage.Node version count to_come pending) next text h (inr (inr (inr (inr (inr t))))) =
    short_says (codes "P") text _ next (pick_small version count to_come pending h.0) (omega arith) t
short_line (stage.Group version count to_come pending left from) next text h t = short_says (codes "G") text _ next
    (group_small version count to_come pending left from h.0) (omega arith) t
short_line stage.Done next text h t = absurd t
