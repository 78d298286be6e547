-- The tree of what is opened and closed. This is this project's own.
use Rattle.std.specs.Prelude.{◌≡◌, ◌⊎◌, ℕ, ◌+◌, List, [], ◌∷◌, ◌++◌, None}
use Rattle.proof_rules.specs.Tree.{Tree, Forest, leaf, weighted, branch, bar, omit, pick, none, more}
use Rattle.proof_tree.specs.declared.bars.Bar.{Bar}
use Rattle.proof_tree.specs.declared.branching.Branching.{Branching}
use Rattle.proof_tree.specs.declared.branching.Branching.TheVariants.{Cell, Place}
use Rattle.event_core.specs.State.{State, HasPart, opened, closed}

-- the piece is closed by this tree
abbrev pub IsClosedBy : State → List ℕ → Tree → Type 0
IsClosedBy state name tree =
    (chosen : List ℕ) × (barred : List ℕ) × (floor : ℕ) × HasPart state name chosen barred (closed floor tree)

-- the piece is opened below these bars, and on this
abbrev pub IsOpenedOn : State → List ℕ → List Bar → Branching → Type 0
IsOpenedOn state name bars on = (chosen : List ℕ) × (barred : List ℕ)
    × HasPart state name chosen barred (opened (record { bars = bars; on = on }))

abbrev mutual
  -- the tree of a piece: that which closes it, or bars above a branch or a pick of its kids' trees
  pub IsAssembled : State → List ℕ → Tree → Type 0
  IsAssembled state name (leaf cells) = IsClosedBy state name (leaf cells)
  IsAssembled state name (weighted groups) = IsClosedBy state name (weighted groups)
  IsAssembled state name (branch cell kids) = IsClosedBy state name (branch cell kids)
      ⊎ (IsOpenedOn state name [] (Cell cell) × AreAssembled state name 0 kids)
  IsAssembled state name (bar place by kid) = IsClosedBy state name (bar place by kid)
      ⊎ ((bars : List Bar) × (on : Branching)
      × IsOpenedOn state name (record { place = place; by = by } ∷ bars) on × IsBelow state name bars on kid)
  IsAssembled state name (omit cells kid) = IsClosedBy state name (omit cells kid)
  IsAssembled state name (pick place with without) = IsClosedBy state name (pick place with without)
      ⊎ (IsOpenedOn state name [] (Place place) × IsAssembled state (name ++ 0 ∷ []) with
      × IsAssembled state (name ++ 1 ∷ []) without)

  -- what stands below some of the bars: the others, and then the branch or the pick
  pub IsBelow : State → List ℕ → List Bar → Branching → Tree → Type 0
  IsBelow state name bars on (leaf cells) = ⊥
  IsBelow state name bars on (weighted groups) = ⊥
  IsBelow state name bars on (branch cell kids) = (bars ≡ []) × (on ≡ Cell cell) × AreAssembled state name 0 kids
  IsBelow state name bars on (bar place by kid) = (others : List Bar)
      × (bars ≡ record { place = place; by = by } ∷ others) × IsBelow state name others on kid
  IsBelow state name bars on (omit cells kid) = ⊥
  IsBelow state name bars on (pick place with without) = (bars ≡ []) × (on ≡ Place place)
      × IsAssembled state (name ++ 0 ∷ []) with × IsAssembled state (name ++ 1 ∷ []) without

  -- the trees of the kids from this number on, as many as there are
  pub AreAssembled : State → List ℕ → ℕ → Forest → Type 0
  AreAssembled state name number none = state.part_at (name ++ number ∷ []) ≡ None
  AreAssembled state name number (more tree trees) =
      IsAssembled state (name ++ number ∷ []) tree × AreAssembled state name (number + 1) trees
