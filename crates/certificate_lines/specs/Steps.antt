-- What a line may be at each stage, and what comes after it. This is this project's own.
use Rattle.std.specs.Prelude.{◌≡◌, ℕ, ◌+◌, ◌<◌, ◌≤◌, ◌⊎◌, IsTrue, List, [], ◌∷◌, length, codes, nat_eq, if◌then◌else◌}
use Rattle.cave_base.specs.Box.{Point, cell_count, is_small}
use Rattle.proof_rules.specs.Certificate.{AreListed}
use Rattle.proof_rules.specs.Text.{line}
use Rattle.certificate_lines.specs.declared.stage.Stage.{Stage}
use Rattle.certificate_lines.specs.declared.stage.Stage.TheVariants as stage
use Rattle.certificate_lines.specs.Nodes.{LeafMeans, BranchMeans, BarMeans, OmitMeans, PickMeans, WeightedMeans}
use Rattle.certificate_lines.specs.Nodes.{GroupMeans}

-- a line that begins with this word, whose numbers mean that
abbrev pub Says : List ℕ → (List ℕ → Stage → Type 0) → List ℕ → Stage → Type 0
Says word Means text next = (numbers : List ℕ) × (text ≡ line word numbers) × Means numbers next

-- what comes after the headroom: how many regions there are in the first version, what is needed in the later ones
abbrev pub after_headroom : ℕ → ℕ → Stage
after_headroom version count = if nat_eq version 1 then stage.Regions version count else stage.Need version count

-- ---- what the numbers of a line mean

-- the version, from 1 to 4; the box comes next
abbrev pub StartMeans : List ℕ → Stage → Type 0
StartMeans numbers next = (version : ℕ) × (numbers ≡ version ∷ []) × (0 < version) × (version ≤ 4)
    × (next ≡ stage.Box version)

-- the sides of a small box; the headroom comes next
abbrev pub BoxMeans : ℕ → List ℕ → Stage → Type 0
BoxMeans version numbers next = (size : Point) × (numbers ≡ size.x ∷ size.y ∷ size.z ∷ [])
    × IsTrue (is_small size) × (next ≡ stage.Headroom version (cell_count size))

-- a headroom of 1 or 2; what is needed comes next, or how many regions there are
abbrev pub HeadroomMeans : ℕ → ℕ → List ℕ → Stage → Type 0
HeadroomMeans version count numbers next = ((numbers ≡ 1 ∷ []) ⊎ (numbers ≡ 2 ∷ []))
    × (next ≡ after_headroom version count)

-- a need of 1 or 8; how many regions there are comes next
abbrev pub NeedMeans : ℕ → ℕ → List ℕ → Stage → Type 0
NeedMeans version count numbers next = ((numbers ≡ 1 ∷ []) ⊎ (numbers ≡ 8 ∷ [])) × (next ≡ stage.Regions version count)

-- how many regions there are, no more than the box has cells; all of them are to come
abbrev pub RegionsMeans : ℕ → ℕ → List ℕ → Stage → Type 0
RegionsMeans version count numbers next = (k : ℕ) × (numbers ≡ k ∷ []) × (k ≤ count)
    × (next ≡ stage.Region version count k)

-- no number, and no region is to come; nothing comes next
abbrev pub EndMeans : ℕ → List ℕ → Stage → Type 0
EndMeans to_come numbers next = (to_come ≡ 0) × (numbers ≡ []) × (next ≡ stage.Done)

-- how many cells and torches a region has, some of each, no more than the box has cells; its cells come next
abbrev pub RegionMeans : ℕ → ℕ → ℕ → List ℕ → Stage → Type 0
RegionMeans version count to_come numbers next = (k n t : ℕ) × (to_come ≡ k + 1) × (numbers ≡ n ∷ t ∷ [])
    × (0 < n) × (n ≤ count) × (0 < t) × (t ≤ count) × (next ≡ stage.Dark version count k n t)

-- `many` cells of the box, ascending; the stage `after` comes next
abbrev pub CellsMean : ℕ → ℕ → Stage → List ℕ → Stage → Type 0
CellsMean count many after numbers next = AreListed count numbers × (length numbers ≡ many) × (next ≡ after)

-- the cells of the region, ascending, of the box, as many as were told; its torches come next
abbrev pub DarkMeans : ℕ → ℕ → ℕ → ℕ → ℕ → List ℕ → Stage → Type 0
DarkMeans version count to_come n t numbers next =
    CellsMean count n (stage.Torches version count to_come t) numbers next

-- the torches of the region, ascending, in the box, as many as were told; its tree comes next
abbrev pub TorchesMeans : ℕ → ℕ → ℕ → ℕ → List ℕ → Stage → Type 0
TorchesMeans version count to_come t numbers next = CellsMean count t (stage.Node version count to_come 1) numbers next

-- ---- a step

-- the line may come at this stage, and leads to that one
abbrev pub Takes : Stage → List ℕ → Stage → Type 0
Takes stage.Start text next = Says (codes "torchproof") StartMeans text next
Takes (stage.Box version) text next = Says (codes "box") (BoxMeans version) text next
Takes (stage.Headroom version count) text next = Says (codes "headroom") (HeadroomMeans version count) text next
Takes (stage.Need version count) text next = Says (codes "need") (NeedMeans version count) text next
Takes (stage.Regions version count) text next = Says (codes "regions") (RegionsMeans version count) text next
Takes (stage.Region version count to_come) text next =
    Says (codes "end") (EndMeans to_come) text next
    ⊎ Says (codes "region") (RegionMeans version count to_come) text next
Takes (stage.Dark version count to_come n t) text next = Says (codes "D")
    (DarkMeans version count to_come n t) text next
Takes (stage.Torches version count to_come t) text next = Says (codes "T")
    (TorchesMeans version count to_come t) text next
Takes (stage.Node version count to_come pending) text next =
    Says (codes "L") (LeafMeans version count to_come pending) text next
    ⊎ Says (codes "B") (BranchMeans version count to_come pending) text next
    ⊎ Says (codes "E") (BarMeans version count to_come pending) text next
    ⊎ Says (codes "W") (WeightedMeans version count to_come pending) text next
    ⊎ Says (codes "D") (OmitMeans version count to_come pending) text next
    ⊎ Says (codes "P") (PickMeans version count to_come pending) text next
Takes (stage.Group version count to_come pending left from) text next =
    Says (codes "G") (GroupMeans version count to_come pending left from) text next
Takes stage.Done text next = ⊥

-- these lines lead from one stage to the other
abbrev pub Leads : List (List ℕ) → Stage → Stage → Type 0
Leads [] from to = from ≡ to
Leads (text ∷ more) from to = (next : Stage) × Takes from text next × Leads more next to
