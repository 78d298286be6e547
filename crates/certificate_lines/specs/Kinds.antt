-- The kinds of lines, by their words, and what the numbers of each mean. This is this project's own.
use Rattle.std.specs.Prelude.{ℕ, List, codes, nat_eq, slice_index_or, if◌then◌else◌}
use Rattle.certificate_lines.specs.Nodes as nodes
use Rattle.certificate_lines.specs.Steps as steps
use Rattle.certificate_lines.specs.declared.kind.LineKind.{LineKind}
use Rattle.certificate_lines.specs.declared.kind.LineKind.TheVariants as kind
use Rattle.certificate_lines.specs.declared.stage.Stage.{Stage}
use Rattle.certificate_lines.specs.declared.stage.Stage.TheVariants as stage

-- the word with which such a line begins
abbrev pub word_of : LineKind → List ℕ
word_of kind.Version = codes "torchproof"
word_of kind.Size = codes "box"
word_of kind.Headroom = codes "headroom"
word_of kind.Need = codes "need"
word_of kind.Regions = codes "regions"
word_of kind.Region = codes "region"
word_of kind.Dark = codes "D"
word_of kind.Torches = codes "T"
word_of kind.Leaf = codes "L"
word_of kind.Branch = codes "B"
word_of kind.Bar = codes "E"
word_of kind.Weighted = codes "W"
word_of kind.Group = codes "G"
word_of kind.Omit = codes "D"
word_of kind.Pick = codes "P"
word_of kind.End = codes "end"

-- a region's first line, or the end where none is to come
abbrev pub region_kind : ℕ → LineKind
region_kind to_come = if nat_eq to_come 0 then kind.End else kind.Region

-- a node's line, by its first byte
abbrev pub node_kind : ℕ → LineKind
node_kind head =
    if nat_eq head 66 then kind.Branch else
    if nat_eq head 69 then kind.Bar else
    if nat_eq head 87 then kind.Weighted else
    if nat_eq head 68 then kind.Omit else
    if nat_eq head 80 then kind.Pick else
    kind.Leaf

-- the one kind of line that may come at the stage and begin as the text does
abbrev pub kind_at : Stage → List ℕ → LineKind
kind_at stage.Start text = kind.Version
kind_at (stage.Box version) text = kind.Size
kind_at (stage.Headroom version count) text = kind.Headroom
kind_at (stage.Need version count) text = kind.Need
kind_at (stage.Regions version count) text = kind.Regions
kind_at (stage.Region version count to_come) text = region_kind to_come
kind_at (stage.Dark version count to_come n t) text = kind.Dark
kind_at (stage.Torches version count to_come t) text = kind.Torches
kind_at (stage.Node version count to_come pending) text = node_kind (slice_index_or text 0 0)
kind_at (stage.Group version count to_come pending left from) text = kind.Group
kind_at stage.Done text = kind.End

-- what the numbers of such a line mean at the stage
abbrev pub MeansAt : Stage → LineKind → List ℕ → Stage → Type 0
MeansAt stage.Start k numbers next = steps.StartMeans numbers next
MeansAt (stage.Box version) k numbers next = steps.BoxMeans version numbers next
MeansAt (stage.Headroom version count) k numbers next = steps.HeadroomMeans version count numbers next
MeansAt (stage.Need version count) k numbers next = steps.NeedMeans version count numbers next
MeansAt (stage.Regions version count) k numbers next = steps.RegionsMeans version count numbers next
MeansAt (stage.Region version count to_come) kind.End numbers next = steps.EndMeans to_come numbers next
MeansAt (stage.Region version count to_come) k numbers next = steps.RegionMeans version count to_come numbers next
MeansAt (stage.Dark version count to_come n t) k numbers next = steps.DarkMeans version count to_come n t numbers next
MeansAt (stage.Torches version count to_come t) k numbers next = steps.TorchesMeans version count to_come t numbers next
MeansAt (stage.Node version count to_come pending) kind.Branch numbers next =
    nodes.BranchMeans version count to_come pending numbers next
MeansAt (stage.Node version count to_come pending) kind.Bar numbers next =
    nodes.BarMeans version count to_come pending numbers next
MeansAt (stage.Node version count to_come pending) kind.Weighted numbers next =
    nodes.WeightedMeans version count to_come pending numbers next
MeansAt (stage.Node version count to_come pending) kind.Omit numbers next =
    nodes.OmitMeans version count to_come pending numbers next
MeansAt (stage.Node version count to_come pending) kind.Pick numbers next =
    nodes.PickMeans version count to_come pending numbers next
MeansAt (stage.Node version count to_come pending) k numbers next =
    nodes.LeafMeans version count to_come pending numbers next
MeansAt (stage.Group version count to_come pending left from) k numbers next =
    nodes.GroupMeans version count to_come pending left from numbers next
MeansAt stage.Done k numbers next = ⊥

-- where a tree is to come
abbrev pub node_stage : ℕ → ℕ → ℕ → ℕ → Stage
node_stage version count to_come pending = stage.Node version count to_come pending
