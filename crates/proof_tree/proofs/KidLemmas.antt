-- The kids of a piece that is opened are pieces.
use Rattle.std.proofs.Common.{◌≡◌, ℕ, zero, suc, ◌+◌, ◌<◌, List, [], ◌∷◌, ◌++◌, length, Contains, All, take, drop}
use Rattle.std.proofs.Common.{refl, sym, ap, ◌∙◌, subst, arith, inl, inr, length-take}
use Rattle.std.specs.Prelude.{slice_index}
use Rattle.std.proofs.lemmas.List.{take-append-drop, append-nil, append_assoc, take_more}
use Rattle.std.proofs.lemmas.List.Elements.{All-push, All-append, All-nil, Contains-append_left}
use Rattle.cave_model.specs.Plan.{AreDistinct}
use Rattle.cave_model.specs.Coverage.{Coverage}
use Rattle.set_cover.specs.Instance.{LightsIn, of_instance}
use Rattle.proof_rules.proofs.ListLemmas.{all_members, at_member, cons_cases, no_member, distinct_nil, distinct_cons}
use Rattle.proof_rules.proofs.ListLemmas.{distinct_append}
use Rattle.proof_tree.specs.Bars.{places_of, AreDominated}
use Rattle.proof_tree.specs.Kids.{AreNewPlaces}
use Rattle.proof_tree.specs.Piece.{Subproblem, IsPiece}
use Rattle.proof_tree.specs.Opened.{Split, IsSplit, MayBranch, ArePlacesOn, Step, below_bars, kid_of, kids_from}
use Rattle.proof_tree.specs.Opened.{step_at, steps_from}
use Rattle.proof_tree.specs.declared.bars.Bar.{Bar}
use Rattle.proof_tree.specs.declared.branching.Branching.{Branching}
use Rattle.proof_tree.specs.declared.branching.Branching.TheVariants.{Cell}

-- what the first items have, all have
pub in_all : (n : ℕ) (xs : List ℕ) (y : ℕ) → Contains (take n xs) y → Contains xs y
in_all n xs y c = subst (λ (l : List ℕ). Contains l y) (take-append-drop n xs)
    (Contains-append_left (take n xs) (drop n xs) y c)

-- ---- places

-- one place is distinct
pub one_distinct : (place : ℕ) → AreDistinct (place ∷ [])
one_distinct place = distinct_cons place [] (λ c. no_member place c) distinct_nil

-- distinct places, none of which is chosen, leave the chosen places distinct
pub distinct_with : (chosen more : List ℕ) → AreDistinct chosen → AreDistinct more
    → All (λ place. ¬ Contains chosen place) more → AreDistinct (chosen ++ more)
distinct_with chosen more distinct once new = distinct_append chosen more distinct once
    (λ y is one. at_member (λ place. ¬ Contains chosen place) more y new one is)

-- what holds of a place holds of all of these
pub all_of_one : (P : ℕ → Type 0) (place : ℕ) → P place → All P (place ∷ [])
all_of_one P place is = All-push P [] place (All-nil P) is

-- the places that bars leave out are of the region
pub bars_of_it : (region : List ℕ) (coverage : Coverage) (cells chosen barred : List ℕ) (bars : List Bar)
    → ((place : ℕ) → coverage.Place place → Contains region place)
    → AreDominated coverage cells chosen barred bars → All (Contains region) (places_of bars)
bars_of_it region coverage cells chosen barred [] are d = All-nil (Contains region)
bars_of_it region coverage cells chosen barred (b ∷ bs) are d = all_members (Contains region) (places_of (b ∷ bs))
    (λ y c. elim (cons_cases b.place (places_of bs) y c) [
      | inl e ↦ subst (Contains region) e (are b.place d.0.legal)
      | inr later ↦ at_member (Contains region) (places_of bs) y
          (bars_of_it region coverage cells chosen (barred ++ b.place ∷ []) bs are d.1) later
    ])

-- ---- pieces

-- a piece with places left out is a piece
pub below_is_piece : (piece : Subproblem) (bars : List Bar) → IsPiece piece
    → AreDominated (of_instance piece.region) piece.region.cells piece.chosen piece.barred bars
    → IsPiece (below_bars piece bars)
below_is_piece piece bars kept d = record {
  distinct = kept.distinct;
  chosen_of_it = kept.chosen_of_it;
  barred_of_it = All-append (Contains piece.region.places) piece.barred (places_of bars) kept.barred_of_it
      (bars_of_it piece.region.places (of_instance piece.region) piece.region.cells piece.chosen piece.barred bars
      (λ place is. is) d);
}

-- a kid whose chosen places are distinct is a piece
pub kid_is_piece : (piece : Subproblem) (number : ℕ) (step : Step) → IsPiece piece
    → AreDistinct (piece.chosen ++ step.chosen) → All (Contains piece.region.places) step.chosen
    → All (Contains piece.region.places) step.barred → IsPiece (kid_of piece number step)
kid_is_piece piece number step kept distinct chosen barred = record {
  distinct = distinct;
  chosen_of_it = All-append (Contains piece.region.places) piece.chosen step.chosen kept.chosen_of_it chosen;
  barred_of_it = All-append (Contains piece.region.places) piece.barred step.barred kept.barred_of_it barred;
}

-- ---- steps and kids, in turn

-- one kid more, at the end
pub kids_push : (piece : Subproblem) (number : ℕ) (steps : List Step) (step : Step)
    → kids_from piece number (steps ++ step ∷ [])
    ≡ kids_from piece number steps ++ kid_of piece (number + length steps) step ∷ []
kids_push piece number [] step = ap (λ (n : ℕ). kid_of piece n step ∷ []) (omega arith)
kids_push piece number (first ∷ steps) step =
    ap (kid_of piece number first ∷◌) (kids_push piece (number + 1) steps step
    ∙ ap (λ (n : ℕ). kids_from piece (number + 1) steps ++ kid_of piece n step ∷ []) (omega arith))

-- one step more, at the end
pub steps_push : (before places : List ℕ) (place : ℕ)
    → steps_from before (places ++ place ∷ [])
    ≡ steps_from before places ++ record { chosen = place ∷ []; barred = before ++ places } ∷ []
steps_push before [] place =
    ap (λ (b : List ℕ). record { chosen = place ∷ []; barred = b } ∷ []) (sym (append-nil before))
steps_push before (first ∷ places) place =
    ap (record { chosen = first ∷ []; barred = before } ∷◌) (steps_push (before ++ first ∷ []) places place
    ∙ ap (λ (b : List ℕ). steps_from (before ++ first ∷ []) places ++ record { chosen = place ∷ []; barred = b } ∷ [])
    (append_assoc before (first ∷ []) places))

-- there is a step for each place
pub length-steps_from : (before places : List ℕ) → length (steps_from before places) ≡ length places
length-steps_from before [] = refl
length-steps_from before (place ∷ places) = omega (arith, length-steps_from (before ++ place ∷ []) places)

-- the step with a number chooses the place with this number, and bars those before it
pub step_from : (before places : List ℕ) (number : ℕ) → number < length places
    → step_at (steps_from before places) number
    ≡ record { chosen = slice_index places number ∷ []; barred = before ++ take number places }
step_from before [] number lt = absurd (omega arith)
step_from before (place ∷ places) zero lt =
    ap (λ (b : List ℕ). record { chosen = place ∷ []; barred = b }) (sym (append-nil before))
step_from before (place ∷ places) (suc number) lt =
    step_from (before ++ place ∷ []) places number (omega arith)
    ∙ ap (λ (b : List ℕ). record { chosen = slice_index places number ∷ []; barred = b })
    (append_assoc before (place ∷ []) (take number places))

-- the kids of the first places, and one more
pub kids_more : (piece : Subproblem) (places : List ℕ) (n : ℕ) → n < length places
    → kids_from piece 0 (steps_from [] (take (n + 1) places))
    ≡ kids_from piece 0 (steps_from [] (take n places))
    ++ kid_of piece n (record { chosen = slice_index places n ∷ []; barred = take n places }) ∷ []
kids_more piece places n lt =
    ap (λ (l : List ℕ). kids_from piece 0 (steps_from [] l)) (take_more places n 0 lt)
    ∙ ap (kids_from piece 0) (steps_push [] (take n places) (slice_index places n))
    ∙ kids_push piece 0 (steps_from [] (take n places))
    (record { chosen = slice_index places n ∷ []; barred = take n places })
    ∙ ap (λ (k : ℕ). kids_from piece 0 (steps_from [] (take n places))
    ++ kid_of piece k (record { chosen = slice_index places n ∷ []; barred = take n places }) ∷ []) long
  where
    long : 0 + length (steps_from [] (take n places)) ≡ n
    long = omega (arith, length-steps_from [] (take n places), length-take n places)

-- ---- the kids of an opened piece

-- the places of kids on a cell are new
pub split_places : (split : Split) (cell : ℕ) → IsSplit split → split.on ≡ Cell cell
    → AreNewPlaces (below_bars split.piece split.bars) split.places
split_places split cell is e =
    let piece = below_bars split.piece split.bars in
    let may : MayBranch piece (Cell cell) = subst (MayBranch piece) e is.opens.may in
    let all : ArePlacesOn piece (Cell cell) split.places =
    subst (λ (on : Branching). ArePlacesOn piece on split.places) e is.all in record {
      ascending = all.ascending;
      of_it = λ place c. ((all.exact place).0 c).legal;
      new = λ place c chosen. at_member (λ p. ¬ LightsIn piece.region p cell) piece.chosen place may.unlit chosen
          ((all.exact place).0 c).lights;
    }
