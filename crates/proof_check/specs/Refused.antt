-- Why a certificate is refused: the first reason in this order. The order is this project's own.
use Rattle.std.specs.Prelude.{◌≡◌, ℕ, ◌+◌, ◌<◌, ◌⊎◌, nat_lt, if◌then◌else◌, List, [], ◌∷◌, ◌++◌, length}
use Rattle.std.specs.Prelude.{Contains, Option, Some, None, slice_index_or}
use Rattle.std.specs.Option.{option_or}
use Rattle.cave_model.specs.Cave.{Cave}
use Rattle.cave_model.specs.Least.{IsLeast}
use Rattle.cave_model.specs.Spawn.{IsDark}
use Rattle.cave_model.specs.Torches.{IsPlace, Lights}
use Rattle.cave_model.specs.Regions.{AreRegions}
use Rattle.proof_rules.specs.Tree.{Tree, Forest, leaf, weighted, branch, bar, omit, pick, none, more, tree_count}
use Rattle.proof_rules.specs.Tree.{node_count}
use Rattle.proof_rules.specs.Groups.{places_for_all}
use Rattle.proof_rules.specs.Omitted.{left_without, MayBeOmitted}
use Rattle.cave_model.specs.Coverage.{of_cave}
use Rattle.cave_model.specs.Coverage.{IsLitBy}
use Rattle.proof_rules.specs.Good.{Good, IsUnlit, AreScattered, AreWeighted, AreOpen, IsDominated, MayBePicked}
use Rattle.proof_rules.specs.Certificate.{Section, Version, first, second, third, fourth, Certificate, regions_of}
use Rattle.proof_rules.specs.Certificate.{torch_lists, torches_of}
use Rattle.proof_rules.specs.Text.{IsTextOf, IsFirstMisfit}
use Rattle.proof_check.specs.Accepted.{IsOfCave, AreDistinctPlaces, LeaveNoneDark, AreProved}
use Rattle.proof_check.specs.declared.reason.Reason.{Reason}
use Rattle.proof_check.specs.declared.reason.Reason.TheVariants.{Syntax, WrongBox, IllegalPlace, LeftDark, BadRegions}
use Rattle.proof_check.specs.declared.reason.Reason.TheVariants.{BadNode, TooWeak}

-- ---- cells

-- two of the lists hold the cell
abbrev pub IsInTwo : List (List ℕ) → ℕ → Type 0
IsInTwo lists cell = (i j : ℕ) × (i < j) × Contains (slice_index_or lists i []) cell
    × Contains (slice_index_or lists j []) cell

-- some list has the cell
abbrev pub IsListed : List (List ℕ) → ℕ → Type 0
IsListed lists cell = (i : ℕ) × Contains (slice_index_or lists i []) cell

-- a torch that is at no legal place, or is listed twice
abbrev pub IsBadTorch : Cave → Certificate → ℕ → Type 0
IsBadTorch cave certificate cell = IsListed (torch_lists certificate.sections) cell × ((¬ IsPlace cave cell)
    ⊎ IsInTwo (torch_lists certificate.sections) cell)

-- a dark cell that none of the certificate's torches lights
abbrev pub IsLeftDark : Cave → Certificate → ℕ → Type 0
IsLeftDark cave certificate cell = IsDark cave cell
    × (¬ IsLitBy (of_cave cave) (torches_of certificate.sections) cell)

-- a place that lights cells of two regions
abbrev pub LightsTwo : Cave → List (List ℕ) → ℕ → Type 0
LightsTwo cave regions place = IsPlace cave place × (i j a b : ℕ) × (i < j)
    × Contains (slice_index_or regions i []) a × Contains (slice_index_or regions j []) b × Lights cave place a
    × Lights cave place b

-- a cell that keeps the lists from being regions
abbrev pub IsBadCell : Cave → List (List ℕ) → ℕ → Type 0
IsBadCell cave regions cell = (IsDark cave cell × ((¬ IsListed regions cell) ⊎ IsInTwo regions cell))
    ⊎ (IsListed regions cell × (¬ IsDark cave cell))
    ⊎ LightsTwo cave regions cell

-- ---- nodes

-- the cell is unlit, and `count` places may light it
abbrev pub IsBranching : Cave → List ℕ → List ℕ → List ℕ → ℕ → List ℕ → ℕ → Type 0
IsBranching cave cells chosen barred cell places count = IsUnlit (of_cave cave) cells chosen cell
    × AreOpen (of_cave cave) barred cell places × (length places ≡ count)

abbrev mutual
  -- of a tree whose first line is this one, the first line against the rules is that one
  pub IsBadAt : Cave → List ℕ → List ℕ → List ℕ → Tree → ℕ → ℕ → Type 0
  IsBadAt cave cells chosen barred (leaf these) line bad = (¬ AreScattered
      (of_cave cave) cells chosen barred these) × (bad ≡ line)
  IsBadAt cave cells chosen barred (weighted groups) line bad = (¬ AreWeighted
      (of_cave cave) cells chosen barred groups) × (bad ≡ line)
  IsBadAt cave cells chosen barred (branch cell kids) line bad =
      (((places : List ℕ) → ¬ IsBranching cave cells chosen barred cell places (tree_count kids)) × (bad ≡ line))
      ⊎ ((places : List ℕ) × IsBranching cave cells chosen barred cell places (tree_count kids)
      × AreBadAt cave cells chosen barred places kids (line + 1) bad)
  IsBadAt cave cells chosen barred (bar place by kid) line bad =
      ((¬ IsDominated (of_cave cave) cells chosen barred place by) × (bad ≡ line))
      ⊎ (IsDominated (of_cave cave) cells chosen barred place by
      × IsBadAt cave cells chosen (barred ++ place ∷ []) kid (line + 1) bad)
  IsBadAt cave cells chosen barred (omit these kid) line bad =
      ((¬ MayBeOmitted cells these) × (bad ≡ line))
      ⊎ (MayBeOmitted cells these × IsBadAt cave (left_without these cells) chosen barred kid (line + 1) bad)
  IsBadAt cave cells chosen barred (pick place with without) line bad =
      ((¬ MayBePicked (of_cave cave) chosen barred place) × (bad ≡ line))
      ⊎ (MayBePicked (of_cave cave) chosen barred place
      × (IsBadAt cave cells (chosen ++ place ∷ []) barred with (line + 1) bad
      ⊎ (Good (of_cave cave) cells (chosen ++ place ∷ []) barred 0 with
      × IsBadAt cave cells chosen (barred ++ place ∷ []) without (line + 1 + node_count with) bad)))

  -- the same for trees of these places in turn, each chosen in its own tree and barred in those after it; the trees
  -- before that with the bad line are good
  pub AreBadAt : Cave → List ℕ → List ℕ → List ℕ → List ℕ → Forest → ℕ → ℕ → Type 0
  AreBadAt cave cells chosen barred [] trees line bad = ⊥
  AreBadAt cave cells chosen barred (place ∷ places) none line bad = ⊥
  AreBadAt cave cells chosen barred (place ∷ places) (more tree trees) line bad =
      IsBadAt cave cells (chosen ++ place ∷ []) barred tree line bad
      ⊎ (Good (of_cave cave) cells (chosen ++ place ∷ []) barred 0 tree
      × AreBadAt cave cells chosen (barred ++ place ∷ []) places trees (line + node_count tree) bad)

-- of regions of which the first has its first line here, the first line of a tree that is against the rules is that one
abbrev pub IsFirstBad : Cave → List Section → ℕ → ℕ → Type 0
IsFirstBad cave [] line bad = ⊥
IsFirstBad cave (section ∷ sections) line bad =
    IsBadAt cave section.cells [] [] section.tree (line + 3) bad
    ⊎ (Good (of_cave cave) section.cells [] [] 0 section.tree
    × IsFirstBad cave sections (line + 3 + node_count section.tree) bad)

abbrev mutual
  -- the line of the first leaf whose cells, or the places that its groups need, are together with the `chosen` places
  -- fewer than the floor; of a weighted leaf the line before those of its groups
  pub weak_leaf : ℕ → ℕ → Tree → ℕ → Option ℕ
  weak_leaf floor chosen (leaf cells) line = if nat_lt (chosen + length cells) floor then Some line else None
  weak_leaf floor chosen (weighted groups) line =
      if nat_lt (chosen + places_for_all groups) floor then Some line else None
  weak_leaf floor chosen (branch cell kids) line = weak_leaf_of floor (chosen + 1) kids (line + 1)
  weak_leaf floor chosen (bar place by kid) line = weak_leaf floor chosen kid (line + 1)
  weak_leaf floor chosen (omit these kid) line = weak_leaf floor chosen kid (line + 1)
  weak_leaf floor chosen (pick place with without) line = option_or (weak_leaf floor (chosen + 1) with (line + 1))
      (weak_leaf floor chosen without (line + 1 + node_count with))

  -- the same of trees, one after another
  pub weak_leaf_of : ℕ → ℕ → Forest → ℕ → Option ℕ
  weak_leaf_of floor chosen none line = None
  weak_leaf_of floor chosen (more tree trees) line = option_or (weak_leaf floor chosen tree line)
      (weak_leaf_of floor chosen trees (line + node_count tree))

-- of regions of which the first has its first line here, the line of the first leaf that proves less than its region
-- has torches
abbrev pub first_weak : List Section → ℕ → Option ℕ
first_weak [] line = None
first_weak (section ∷ sections) line = option_or (weak_leaf (length section.torches) 0 section.tree (line + 3))
    (first_weak sections (line + 3 + node_count section.tree))

-- the line of the first region
abbrev pub start_line : Version → ℕ
start_line first = 5
start_line (second need) = 6
start_line (third need) = 6
start_line (fourth need) = 6

-- ---- the order

-- the certificate gives no reason up to its places: it speaks of this cave, and its torches are at distinct places
pub record PassesPlaces (cave : Cave) (certificate : Certificate) : Type 0 where
  pub of_cave : IsOfCave cave certificate
  pub places : AreDistinctPlaces cave (torches_of certificate.sections)

-- it gives no reason up to its light either: its torches leave no cell dark
pub record PassesLight (cave : Cave) (certificate : Certificate) : Type 0 where
  pub before : PassesPlaces cave certificate
  pub lit : LeaveNoneDark cave (torches_of certificate.sections)

-- it gives no reason up to its regions either: they are those of the cave
pub record PassesRegions (cave : Cave) (certificate : Certificate) : Type 0 where
  pub before : PassesLight cave certificate
  pub regions : AreRegions cave (regions_of certificate)

-- it gives no reason up to its nodes either: each is within the rules, whatever its tree proves
pub record PassesNodes (cave : Cave) (certificate : Certificate) : Type 0 where
  pub before : PassesRegions cave certificate
  pub nodes : AreProved cave (λ section. 0) certificate.sections

-- the first reason in this order against a certificate, with the cell or line that it names; Syntax is none of them
abbrev pub IsReasonOf : Cave → Certificate → Reason → Type 0
IsReasonOf cave certificate (Syntax line) = ⊥
IsReasonOf cave certificate WrongBox = ¬ IsOfCave cave certificate
IsReasonOf cave certificate (IllegalPlace cell) = IsOfCave cave certificate
    × IsLeast (IsBadTorch cave certificate) cell
IsReasonOf cave certificate (LeftDark cell) = PassesPlaces cave certificate
    × IsLeast (IsLeftDark cave certificate) cell
IsReasonOf cave certificate (BadRegions cell) = PassesLight cave certificate
    × IsLeast (IsBadCell cave (regions_of certificate)) cell
IsReasonOf cave certificate (BadNode line) = PassesRegions cave certificate
    × IsFirstBad cave certificate.sections (start_line certificate.version) line
IsReasonOf cave certificate (TooWeak line) = PassesNodes cave certificate
    × (first_weak certificate.sections (start_line certificate.version) ≡ Some line)

-- the bytes are refused of this cave, for this reason
abbrev pub IsRefused : Cave → List ℕ → Reason → Type 0
IsRefused cave bytes (Syntax line) = IsFirstMisfit bytes line
IsRefused cave bytes reason = (certificate : Certificate) × IsTextOf bytes certificate
    × IsReasonOf cave certificate reason
