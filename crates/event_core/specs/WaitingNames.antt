-- The names of the pieces that wait, as the code lists them.
use Rattle.std.specs.Prelude.{ℕ, ◌+◌, List, [], ◌∷◌, ◌++◌}
use Rattle.event_core.specs.Shape.{Shape, Shapes, at_rest, in_hand, settled, parted, no_shape, one_shape}

abbrev mutual
  -- of those from this piece on, which has this name
  pub waiting_in : List ℕ → Shape → List (List ℕ)
  waiting_in name at_rest = name ∷ []
  waiting_in name (in_hand worker) = []
  waiting_in name (settled floor tree) = []
  waiting_in name (parted way places trees boxes kids) = waiting_below name 0 kids

  -- the same among kids from this number on
  pub waiting_below : List ℕ → ℕ → Shapes → List (List ℕ)
  waiting_below name number no_shape = []
  waiting_below name number (one_shape kid kids) =
      waiting_in (name ++ number ∷ []) kid ++ waiting_below name (number + 1) kids
