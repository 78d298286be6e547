-- A plan's text, as `plan` prints it, tells its torches.
use Rattle.std.proofs.Common.{◌≡◌, ℕ, ◌<◌, List, [], ◌∷◌, ◌++◌, length, map, All, refl, sym, ap, ap₂}
use Rattle.std.proofs.Common.{subst, arith, ◌∙◌, append_assoc, Option, Some, None, IsTrue}
use Rattle.std.specs.List.{flat_map}
use Rattle.std.specs.Prelude.{IfSome}
use Rattle.std.proofs.lemmas.List.{length-map}
use Rattle.std.proofs.lemmas.List.Elements.{All-cons, All-head, All-nil, All-tail}
use Rattle.proof_rules.specs.Text.{ended}
use Rattle.cave_base.specs.Box.{cell_count, is_small}
use Rattle.cave_base.proofs.CellLemmas.{coordinates_within}
use Rattle.cave_model.specs.Cave.{Cave}
use Rattle.cave_plan.specs.PlanText as plans
use Rattle.certificate_lines.specs.Numbers.{IsSmall}
use Rattle.certificate_lines.proofs.Lift.{sides}
use Rattle.plan_reading.specs.PlanLines.{IsNear, TellsTorches, Told, dark_line, head_line, told_at, torch_line}
use Rattle.plan_reading.proofs.LineLemmas.{ended_first}

-- the first two lines
head_printed : (torches dark : ℕ) (floor : Option ℕ) (rest : List ℕ) → plans.head_text torches dark floor ++ rest
    ≡ head_line torches floor ++ 10 ∷ (dark_line dark ++ 10 ∷ rest)
head_printed torches dark None rest = simp append_assoc
head_printed torches dark (Some floor) rest = simp append_assoc

-- the line of a torch
torch_printed : (cave : Cave) (cell : ℕ) → plans.torch_line cave cell ≡ torch_line (told_at cave cell) ++ 10 ∷ []
torch_printed cave cell = simp append_assoc

-- those of all
torches_printed : (cave : Cave) (cells : List ℕ)
    → flat_map (plans.torch_line cave) cells ≡ ended (map torch_line (map (told_at cave) cells))
torches_printed cave [] = refl
torches_printed cave (cell ∷ cells) =
    ap₂ (λ (a b : List ℕ). a ++ b) (torch_printed cave cell) (torches_printed cave cells)

-- the torches of a box are near
torches_near : (cave : Cave) (cells : List ℕ) → IsTrue (is_small cave.size)
    → All (λ cell. cell < cell_count cave.size) cells → All IsNear (map (told_at cave) cells)
torches_near cave [] small inside = All-nil IsNear
torches_near cave (cell ∷ cells) small inside =
    let short = sides cave.size small in
    let w = coordinates_within cave.size cell
    (All-head (λ (c : ℕ). c < cell_count cave.size) cell cells inside) in
    All-cons IsNear (told_at cave cell) (map (told_at cave) cells)
    (omega (arith, w.x_in, short.0), omega (arith, w.y_in, short.1), omega (arith, w.z_in, short.2))
    (torches_near cave cells small (All-tail (λ (c : ℕ). c < cell_count cave.size) cell cells inside))

-- a plan's text tells its torches
pub printed_told : (cave : Cave) (torches : List ℕ) (dark : ℕ) (floor : Option ℕ) → IsTrue (is_small cave.size)
    → All (λ cell. cell < cell_count cave.size) torches → IsSmall (length torches) → IsSmall dark
    → IfSome floor IsSmall → TellsTorches (plans.plan_text cave torches dark floor) (map (told_at cave) torches)
printed_told cave torches dark floor small inside counted numbered floored =
    let told : Told = record { torches = map (told_at cave) torches; floor = floor; dark = dark; corner = None } in
    let same : length torches ≡ length (map (told_at cave) torches) = sym (length-map torches (told_at cave)) in
    let layers = plans.up_to (plans.layer_if cave torches) cave.size.y in
    record {
      told = told;
      in_range = record {
        counted = subst IsSmall same counted;
        floored = floored;
        numbered = numbered;
        clean = tt;
        near = torches_near cave torches small inside;
      };
      rest = layers;
      parts = ap (λ (n : ℕ). plans.head_text n dark floor ++ (flat_map (plans.torch_line cave) torches ++ layers)) same
          ∙ head_printed (length (map (told_at cave) torches)) dark floor
          (flat_map (plans.torch_line cave) torches ++ layers)
          ∙ ap (λ (b : List ℕ). head_line (length (map (told_at cave) torches)) floor ++ 10 ∷ (dark_line dark ++ 10
          ∷ (b ++ layers))) (torches_printed cave torches)
          ∙ sym (ended_first (head_line (length told.torches) floor)
          (dark_line dark ∷ map torch_line told.torches) layers
          ∙ ap (λ (b : List ℕ). head_line (length told.torches) floor ++ 10 ∷ b)
          (ended_first (dark_line dark) (map torch_line told.torches) layers));
      are = refl;
    }
