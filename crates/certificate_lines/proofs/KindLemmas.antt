-- The kind of a line says which of the lines of a stage it may be.
use Rattle.std.proofs.Common.{◌≡◌, ◌≢◌, ℕ, ◌≤◌, List, get_or, refl, sym, subst, ◌∙◌}
use Rattle.std.specs.Prelude.{Bool, true, false, Option, Some, None, nat_eq, if◌then◌else◌}
use Rattle.std.proofs.lemmas.Bool.{eqb-true, eq-eqb, true≢false}
use Rattle.cave_base.specs.Box.{most_cells}
use Rattle.certificate_lines.specs.Nodes.{LeafMeans}
use Rattle.certificate_lines.specs.Decides.{IsLineOf, IsNoLineOf, IsNone, Decides}
use Rattle.certificate_lines.specs.Steps.{Takes, Says, RegionMeans}
use Rattle.certificate_lines.specs.Sound.{IsSoundStage}
use Rattle.certificate_lines.specs.Kinds.{word_of, kind_at, node_kind, region_kind, MeansAt}
use Rattle.certificate_lines.proofs.Lift.{AreSmall, lift, lift_none, at_end, at_region, at_leaf, at_branch, at_bar}
use Rattle.certificate_lines.proofs.Lift.{at_weighted, at_omit, at_pick, weighted_small, omit_small, pick_small}
use Rattle.certificate_lines.proofs.Lift.{start_small, box_small, headroom_small, need_small, regions_small}
use Rattle.certificate_lines.proofs.Lift.{end_small, region_small, dark_small, torches_small, leaf_small}
use Rattle.certificate_lines.proofs.Lift.{branch_small, bar_small, group_small}
use Rattle.certificate_lines.specs.declared.kind.LineKind.{LineKind}
use Rattle.certificate_lines.specs.declared.kind.LineKind.TheVariants as kind
use Rattle.certificate_lines.specs.declared.stage.Stage.{Stage}
use Rattle.certificate_lines.specs.declared.stage.Stage.TheVariants as stage

-- numbers that a test tells apart differ
not_equal : (a b : ℕ) → nat_eq a b ≡ false → a ≢ b
not_equal a b off e = true≢false (sym (eq-eqb a b e) ∙ off)

-- the kind of a node's line, by the tests of its first byte
abbrev pub one_of : Bool → Bool → Bool → Bool → Bool → LineKind
one_of b d w o c =
    if b then kind.Branch else
    if d then kind.Bar else
    if w then kind.Weighted else
    if o then kind.Omit else
    if c then kind.Pick else
    kind.Leaf

-- whatever kind of line it is, it may be one where a tree is to come
node_decides : (version count to_come pending : ℕ) (text : List ℕ) (r : Option Stage) (b d w o c : Bool)
    → nat_eq (get_or text 0 0) 66 ≡ b → nat_eq (get_or text 0 0) 69 ≡ d
    → nat_eq (get_or text 0 0) 87 ≡ w → nat_eq (get_or text 0 0) 68 ≡ o
    → nat_eq (get_or text 0 0) 80 ≡ c
    → Decides r (Says (word_of (one_of b d w o c))
    (MeansAt (stage.Node version count to_come pending) (one_of b d w o c)) text)
    → Decides r (Takes (stage.Node version count to_come pending) text)
node_decides version count to_come pending text r true d w o c p q s t u h =
    at_branch version count to_come pending text r (eqb-true (get_or text 0 0) 66 p) h
node_decides version count to_come pending text r false true w o c p q s t u h =
    at_bar version count to_come pending text r (eqb-true (get_or text 0 0) 69 q) h
node_decides version count to_come pending text r false false true o c p q s t u h =
    at_weighted version count to_come pending text r (eqb-true (get_or text 0 0) 87 s) h
node_decides version count to_come pending text r false false false true c p q s t u h =
    at_omit version count to_come pending text r (eqb-true (get_or text 0 0) 68 t) h
node_decides version count to_come pending text r false false false false true p q s t u h =
    at_pick version count to_come pending text r (eqb-true (get_or text 0 0) 80 u) h
node_decides version count to_come pending text r false false false false false p q s t u h =
    at_leaf version count to_come pending text r (not_equal (get_or text 0 0) 66 p) (not_equal (get_or text 0 0) 69 q)
    (not_equal (get_or text 0 0) 87 s) (not_equal (get_or text 0 0) 68 t) (not_equal (get_or text 0 0) 80 u) h

-- where a region or the end is to come, the line of that kind decides
region_decides : (version : ℕ) (count to_come : ℕ) (text : List ℕ) (r : Option Stage) (b : Bool)
    → nat_eq to_come 0 ≡ b
    → Decides r (Says (word_of (if b then kind.End else kind.Region))
    (MeansAt (stage.Region version count to_come) (if b then kind.End else kind.Region)) text)
    → Decides r (Takes (stage.Region version count to_come) text)
region_decides version count to_come text r true p h = at_end version count to_come text r (eqb-true to_come 0 p) h
region_decides version count to_come text r false p h = at_region version count to_come text r (not_equal to_come 0 p) h

-- what is decided of a line of the kind is decided of the line
kind_decides : (s : Stage) (text : List ℕ) (r : Option Stage)
    → Decides r (Says (word_of (kind_at s text)) (MeansAt s (kind_at s text)) text) → Decides r (Takes s text)
kind_decides stage.Start text r h = h
kind_decides (stage.Box version) text r h = h
kind_decides (stage.Headroom version count) text r h = h
kind_decides (stage.Need version count) text r h = h
kind_decides (stage.Regions version count) text r h = h
kind_decides (stage.Region version count to_come) text r h = region_decides version count to_come text r
    (nat_eq to_come 0) refl h
kind_decides (stage.Dark version count to_come n t) text r h = h
kind_decides (stage.Torches version count to_come t) text r h = h
kind_decides (stage.Node version count to_come pending) text r h = node_decides version count to_come pending text r
    (nat_eq (get_or text 0 0) 66) (nat_eq (get_or text 0 0) 69) (nat_eq (get_or text 0 0) 87)
    (nat_eq (get_or text 0 0) 68) (nat_eq (get_or text 0 0) 80) refl refl refl refl refl h
kind_decides (stage.Group version count to_come pending left from) text r h = h
kind_decides stage.Done text None h = record { none = λ other t. t }
kind_decides stage.Done text (Some next) h = absurd h.is.2

-- the numbers of a node that fits are small
node_small : (version : ℕ) (count to_come pending : ℕ) (k : LineKind) → count ≤ most_cells
    → AreSmall (MeansAt (stage.Node version count to_come pending) k)
node_small version count to_come pending kind.Branch few = branch_small version count to_come pending few
node_small version count to_come pending kind.Bar few = bar_small version count to_come pending few
node_small version count to_come pending kind.Version few = leaf_small version count to_come pending few
node_small version count to_come pending kind.Size few = leaf_small version count to_come pending few
node_small version count to_come pending kind.Headroom few = leaf_small version count to_come pending few
node_small version count to_come pending kind.Need few = leaf_small version count to_come pending few
node_small version count to_come pending kind.Regions few = leaf_small version count to_come pending few
node_small version count to_come pending kind.Region few = leaf_small version count to_come pending few
node_small version count to_come pending kind.Dark few = leaf_small version count to_come pending few
node_small version count to_come pending kind.Torches few = leaf_small version count to_come pending few
node_small version count to_come pending kind.Leaf few = leaf_small version count to_come pending few
node_small version count to_come pending kind.Weighted few = weighted_small version count to_come pending few
node_small version count to_come pending kind.Group few = leaf_small version count to_come pending few
node_small version count to_come pending kind.Omit few = omit_small version count to_come pending few
node_small version count to_come pending kind.Pick few = pick_small version count to_come pending few
node_small version count to_come pending kind.End few = leaf_small version count to_come pending few

-- the number of regions, of a line that fits, is small
a_region_small : (version : ℕ) (count to_come : ℕ) (k : LineKind) → count ≤ most_cells
    → AreSmall (MeansAt (stage.Region version count to_come) k)
a_region_small version count to_come kind.Version few = region_small version count to_come few
a_region_small version count to_come kind.Size few = region_small version count to_come few
a_region_small version count to_come kind.Headroom few = region_small version count to_come few
a_region_small version count to_come kind.Need few = region_small version count to_come few
a_region_small version count to_come kind.Regions few = region_small version count to_come few
a_region_small version count to_come kind.Region few = region_small version count to_come few
a_region_small version count to_come kind.Dark few = region_small version count to_come few
a_region_small version count to_come kind.Torches few = region_small version count to_come few
a_region_small version count to_come kind.Leaf few = region_small version count to_come few
a_region_small version count to_come kind.Branch few = region_small version count to_come few
a_region_small version count to_come kind.Bar few = region_small version count to_come few
a_region_small version count to_come kind.Weighted few = region_small version count to_come few
a_region_small version count to_come kind.Group few = region_small version count to_come few
a_region_small version count to_come kind.Omit few = region_small version count to_come few
a_region_small version count to_come kind.Pick few = region_small version count to_come few
a_region_small version count to_come kind.End few = end_small to_come

-- what the numbers of a region's line mean, and of a leaf's
pub region_means : (version count to_come : ℕ) (numbers : List ℕ) (r : Option Stage) (k : LineKind) → (k ≢ kind.End)
    → Decides r (RegionMeans version count to_come numbers)
    → Decides r (MeansAt (stage.Region version count to_come) k numbers)
region_means version count to_come numbers r kind.Version other h = h
region_means version count to_come numbers r kind.Size other h = h
region_means version count to_come numbers r kind.Headroom other h = h
region_means version count to_come numbers r kind.Need other h = h
region_means version count to_come numbers r kind.Regions other h = h
region_means version count to_come numbers r kind.Region other h = h
region_means version count to_come numbers r kind.Dark other h = h
region_means version count to_come numbers r kind.Torches other h = h
region_means version count to_come numbers r kind.Leaf other h = h
region_means version count to_come numbers r kind.Branch other h = h
region_means version count to_come numbers r kind.Bar other h = h
region_means version count to_come numbers r kind.Weighted other h = h
region_means version count to_come numbers r kind.Group other h = h
region_means version count to_come numbers r kind.Omit other h = h
region_means version count to_come numbers r kind.Pick other h = h
region_means version count to_come numbers r kind.End other h = absurd (other refl)

-- among nodes, what is no branch, no bar, no weighted leaf, no omission and no pick means a leaf
pub leaf_means : (version count to_come pending : ℕ) (numbers : List ℕ) (r : Option Stage) (k : LineKind)
    → (k ≢ kind.Branch) → (k ≢ kind.Bar) → (k ≢ kind.Weighted) → (k ≢ kind.Omit) → (k ≢ kind.Pick)
    → Decides r (LeafMeans version count to_come pending numbers)
    → Decides r (MeansAt (stage.Node version count to_come pending) k numbers)
leaf_means version count to_come pending numbers r kind.Version b e w o p h = h
leaf_means version count to_come pending numbers r kind.Size b e w o p h = h
leaf_means version count to_come pending numbers r kind.Headroom b e w o p h = h
leaf_means version count to_come pending numbers r kind.Need b e w o p h = h
leaf_means version count to_come pending numbers r kind.Regions b e w o p h = h
leaf_means version count to_come pending numbers r kind.Region b e w o p h = h
leaf_means version count to_come pending numbers r kind.Dark b e w o p h = h
leaf_means version count to_come pending numbers r kind.Torches b e w o p h = h
leaf_means version count to_come pending numbers r kind.Leaf b e w o p h = h
leaf_means version count to_come pending numbers r kind.Branch b e w o p h = absurd (b refl)
leaf_means version count to_come pending numbers r kind.Bar b e w o p h = absurd (e refl)
leaf_means version count to_come pending numbers r kind.Weighted b e w o p h = absurd (w refl)
leaf_means version count to_come pending numbers r kind.Group b e w o p h = h
leaf_means version count to_come pending numbers r kind.Omit b e w o p h = absurd (o refl)
leaf_means version count to_come pending numbers r kind.Pick b e w o p h = absurd (p refl)
leaf_means version count to_come pending numbers r kind.End b e w o p h = h

-- the numbers of any line that fits are small
kind_small : (s : Stage) (text : List ℕ) → IsSoundStage s → AreSmall (MeansAt s (kind_at s text))
kind_small stage.Start text i = start_small
kind_small (stage.Box version) text i = box_small version
kind_small (stage.Headroom version count) text i = headroom_small version count
kind_small (stage.Need version count) text i = need_small version count
kind_small (stage.Regions version count) text i = regions_small version count i
kind_small (stage.Region version count to_come) text i = a_region_small version count to_come (region_kind to_come) i.0
kind_small (stage.Dark version count to_come n t) text i = dark_small version count to_come n t i.0
kind_small (stage.Torches version count to_come t) text i = torches_small version count to_come t i.0
kind_small (stage.Node version count to_come pending) text i = node_small version count to_come pending
    (node_kind (get_or text 0 0)) i.0
kind_small (stage.Group version count to_come pending left from) text i =
    group_small version count to_come pending left from i.0
kind_small stage.Done text i = record { each = λ ns next m. absurd m; few = λ ns next m. absurd m }

-- a line of the kind that may come fits where its numbers mean something
pub line_fits : (s : Stage) (k : LineKind) (text numbers : List ℕ) (r : Option Stage) → IsSoundStage s
    → k ≡ kind_at s text
    → IsLineOf text (word_of k) numbers → Decides r (MeansAt s k numbers) → Decides r (Takes s text)
line_fits s k text numbers r sound is l h =
    let small = kind_small s text sound in
    kind_decides s text r (subst (λ (j : LineKind). Decides r (Says (word_of j) (MeansAt s j) text)) is
    (lift (word_of k) text numbers (MeansAt s k) r
    (subst (λ (j : LineKind). AreSmall (MeansAt s j)) (sym is) small) l h))

-- a line that isn't of that kind doesn't fit
pub line_fits_not : (s : Stage) (k : LineKind) (text : List ℕ) → IsSoundStage s → k ≡ kind_at s text
    → IsNoLineOf text (word_of k) → IsNone (Takes s text)
line_fits_not s k text sound is l =
    let small = kind_small s text sound in
    kind_decides s text None (lift_none (word_of (kind_at s text)) text (MeansAt s (kind_at s text)) small
    (subst (λ (j : LineKind). IsNoLineOf text (word_of j)) is l))
