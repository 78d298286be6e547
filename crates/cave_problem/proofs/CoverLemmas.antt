-- Places that light every dark cell, with their hangs, are safe torches.
use Rattle.std.proofs.Common.{◌≡◌, ◌≢◌, ℕ, List, [], ◌∷◌, get_or, All, Contains, refl, sym, ap, subst, IsTrue}
use Rattle.std.specs.Prelude.{AllPairs, unwrap_or}
use Rattle.std.proofs.lemmas.List.Elements.{All-map}
use Rattle.cave_model.specs.Cave.{Cave, IsSound}
use Rattle.cave_model.specs.Plan.{Torch, cells_of, hung, IsSafe, LightsDarkness}
use Rattle.cave_model.specs.Torches.{hang_of, is_legal}
use Rattle.cave_model.specs.declared.hang.Hang.TheVariants.{Floor}
use Rattle.cave_model.proofs.TorchLemmas as torches
use Rattle.cave_problem.specs.Coverage.{IsProblemOf}
use Rattle.set_cover.specs.Sparse.{Sparse, ListsIn}
use Rattle.cave_model.proofs.PlaceLemmas.{legal_hang}

-- hung torches are at their places
pub cells_hung : (cave : Cave) (places : List ℕ) → cells_of (hung cave places) ≡ places
cells_hung cave [] = refl
cells_hung cave (place ∷ places) = ap (λ (l : List ℕ). place ∷ l) (cells_hung cave places)

-- hung at a cover, torches light all darkness
lights_darkness : (cave : Cave) (problem : Sparse) (chosen : List ℕ) → IsProblemOf cave problem
    → AllPairs (λ a b. a ≢ b) chosen → All (Contains problem.places) chosen
    → ((cell : ℕ) → Contains problem.cells cell → (place : ℕ) × Contains chosen place × ListsIn problem place cell)
    → LightsDarkness cave (hung cave chosen)
lights_darkness cave problem chosen is once legal covered = record {
  legal = All-map (λ (torch : Torch). IsTrue (is_legal cave torch.cell torch.hang))
      (λ place. record { cell = place; hang = unwrap_or (hang_of cave place) Floor }) chosen
      (λ k d h. legal_hang cave (get_or chosen k d) ((is.legal.exact (get_or chosen k d)).0 (legal k d h)));
  distinct = subst (λ (cells : List ℕ). AllPairs (λ a b. a ≢ b) cells) (sym (cells_hung cave chosen)) once;
  covered = λ cell dark.
      (let by = covered cell ((is.dark.exact cell).1 dark) in (
        by.0,
        subst (λ (cells : List ℕ). Contains cells by.0) (sym (cells_hung cave chosen)) by.1,
        ((is.lit by.0 cell).0 by.2).2,
      ));
}

-- torches hung at a cover of a sound cave are safe
pub cover_is_safe : (cave : Cave) (problem : Sparse) (chosen : List ℕ) → IsSound cave → IsProblemOf cave problem
    → AllPairs (λ a b. a ≢ b) chosen → All (Contains problem.places) chosen
    → ((cell : ℕ) → Contains problem.cells cell → (place : ℕ) × Contains chosen place × ListsIn problem place cell)
    → IsSafe cave (hung cave chosen)
cover_is_safe cave problem chosen sound is once legal covered = torches.cover_is_safe cave
    (hung cave chosen) sound (lights_darkness cave problem chosen is once legal covered)
