-- Lines that lead from the start to a stage.
use Rattle.std.proofs.Common.{◌≡◌, ℕ, zero, suc, ◌+◌, ◌*◌, ◌<◌, ◌≤◌, inl, inr, List, [], ◌∷◌, ◌++◌, length, All, refl}
use Rattle.std.proofs.Common.{sym, subst, ap, arith}
use Rattle.std.specs.Prelude.{Bool, true, false, codes, flat_map, slice_index_or, nat_eq}
use Rattle.std.specs.Prelude.{if◌then◌else◌}
use Rattle.std.proofs.lemmas.List.Elements.{All-nil, All-cons}
use Rattle.cave_base.specs.Box.{Point, cell_count, most_cells}
use Rattle.proof_rules.specs.declared.groups.Share.{Share}
use Rattle.proof_rules.specs.declared.groups.Group.{Group}
use Rattle.proof_rules.specs.Groups.{IsGroup}
use Rattle.proof_rules.specs.Tree.{Forest, leaf, none, more, tree_count}
use Rattle.proof_rules.specs.Text.{line, forest_lines, section_lines}
use Rattle.proof_rules.specs.Certificate.{Section, AreListed, AreTreesIn, IsKnownTo, AreKnownTo, IsSectionIn}
use Rattle.certificate_lines.specs.Nodes.{after_node, after_group, group_numbers, first_cell}
use Rattle.certificate_lines.proofs.Complete.{leads_trees, leads_sections}
use Rattle.certificate_lines.specs.Steps.{Takes, Leads, after_headroom}
use Rattle.certificate_lines.specs.Sound.{IsSoundStage, pending_of}
use Rattle.certificate_lines.proofs.Lift.{count_small}
use Rattle.certificate_lines.specs.declared.stage.Stage.{Stage}
use Rattle.certificate_lines.specs.declared.stage.Stage.TheVariants as stage

pub leads_append : (a b : List (List ℕ)) (s t u : Stage) → Leads a s t → Leads b t u → Leads (a ++ b) s u
leads_append [] b s t u h g = subst (λ (x : Stage). Leads b x u) (sym h) g
leads_append (l ∷ ls) b s t u (next, step, rest) g = (next, step, leads_append ls b next t u rest g)

pub leads_split : (a b : List (List ℕ)) (s u : Stage) → Leads (a ++ b) s u → (t : Stage) × Leads a s t × Leads b t u
leads_split [] b s u h = (s, refl, h)
leads_split (l ∷ ls) b s u (next, step, rest) = let r = leads_split ls b next u rest in (r.0, (next, step, r.1), r.2)

-- ---- numbers of a stage

sound_headroom : (version count : ℕ) → count ≤ most_cells → IsSoundStage (after_headroom version count)
sound_headroom version count h = go (nat_eq version 1) where
  go : (b : Bool) → IsSoundStage (if b then stage.Regions version count else stage.Need version count)
  go true = h
  go false = h

sound_node : (version count to_come pending : ℕ) → count ≤ most_cells → to_come < count
    → IsSoundStage (after_node version count to_come pending)
sound_node version count to_come zero h i = (h, omega arith)
sound_node version count to_come (suc p) h i = (h, i, omega arith)

sound_group : (version count to_come pending left from : ℕ) → count ≤ most_cells → to_come < count
    → (0 < left → from + left ≤ count) → IsSoundStage (after_group version count to_come pending left from)
sound_group version count to_come pending zero from h i room = sound_node version count to_come pending h i
sound_group version count to_come pending (suc left) from h i room =
    (h, i, omega arith, omega arith, room (omega arith))

pub sound_after : (s next : Stage) (text : List ℕ) → IsSoundStage s → Takes s text next → IsSoundStage next
sound_after stage.Start next text h (ns, e, m) = subst IsSoundStage (sym m.4) tt
sound_after (stage.Box version) next text h (ns, e, m) = subst IsSoundStage (sym m.3)
    (count_small m.0 m.2)
sound_after (stage.Headroom version count) next text h (ns, e, m) = subst IsSoundStage (sym m.1)
    (sound_headroom version count h)
sound_after (stage.Need version count) next text h (ns, e, m) = subst IsSoundStage (sym m.1) h
sound_after (stage.Regions version count) next text h (ns, e, m) = subst IsSoundStage (sym m.3) (h, m.2)
sound_after (stage.Region version count to_come) next text h (inl (ns, e, m)) = subst IsSoundStage (sym m.2) tt
sound_after (stage.Region version count to_come) next text h (inr (ns, e, m)) = subst IsSoundStage (sym m.9)
    (h.0, omega (arith, h.1, m.3), m.5, m.6, m.7, m.8)
sound_after (stage.Dark version count to_come n t) next text h (ns, e, m) = subst IsSoundStage (sym m.2)
    (h.0, h.1, h.4, h.5)
sound_after (stage.Torches version count to_come t) next text h (ns, e, m) = subst IsSoundStage (sym m.2)
    (h.0, h.1, omega arith)
sound_after (stage.Node version count to_come pending) next text h (inl (ns, e, m)) = subst IsSoundStage (sym m.5)
    (sound_node version count to_come m.0 h.0 h.1)
sound_after (stage.Node version count to_come pending) next text h (inr (inl (ns, e, m))) = subst IsSoundStage (sym m.7)
    (sound_node version count to_come (m.2 + m.0) h.0 h.1)
sound_after (stage.Node version count to_come pending) next text h (inr (inr (inl (ns, e, m)))) = subst IsSoundStage
    (sym m.8) h
sound_after (stage.Node version count to_come pending) next text h (inr (inr (inr (inl (ns, e, m))))) =
    subst IsSoundStage (sym m.5) (h.0, h.1, h.2, m.3, omega (arith, m.4))
sound_after (stage.Node version count to_come pending) next text h (inr (inr (inr (inr (inl (ns, e, m)))))) =
    subst IsSoundStage (sym m.7) h
sound_after (stage.Node version count to_come pending) next text h (inr (inr (inr (inr (inr (ns, e, m)))))) =
    subst IsSoundStage (sym m.6) (h.0, h.1, omega arith)
sound_after (stage.Group version count to_come pending left from) next text h (ns, e, m) = subst IsSoundStage (sym m.10)
    (sound_group version count to_come m.0 m.1 (first_cell m.2 + 1) h.0 h.1 (λ s. omega (arith, m.4, m.9)))
sound_after stage.Done next text h m = absurd m

-- ---- some lines lead on from each sound stage to the end

-- n numbers, from `a` on
abbrev run : ℕ → ℕ → List ℕ
run a zero = []
run a (suc n) = a ∷ run (a + 1) n

length-run : (a n : ℕ) → length (run a n) ≡ n
length-run a zero = refl
length-run a (suc n) = ap suc (length-run (a + 1) n)

run_at : (a n k d : ℕ) → k < n → slice_index_or (run a n) k d ≡ a + k
run_at a zero k d h = absurd (omega arith)
run_at a (suc n) zero d h = omega arith
run_at a (suc n) (suc k) d h = let e : slice_index_or (run (a + 1) n) k d ≡ a + 1 + k = run_at (a + 1) n k d
    (omega arith) in omega arith

run_listed : (count n : ℕ) → n ≤ count → AreListed count (run 0 n)
run_listed count n h = record {
  ascending = λ k i.
      let j : k + 1 < n = omega (arith, length-run 0 n) in
      let e = run_at 0 n k 0 (omega arith) in
      let f = run_at 0 n (k + 1) 0 j in
      omega arith;
  below = λ k d i.
      let j : k < n = omega (arith, length-run 0 n) in
      let e = run_at 0 n k d j in
      omega arith;
}

abbrev some_section : Section
some_section = record { cells = run 0 1; torches = run 0 1; tree = leaf (run 0 0) }

some_section_in : (count : ℕ) → 0 < count → IsSectionIn count some_section
some_section_in count h = record {
  dark = run_listed count 1 h;
  filled = omega (arith, length-run 0 1);
  lit_by = run_listed count 1 h;
  some = omega (arith, length-run 0 1);
  proof = run_listed count 0 (omega arith);
}

abbrev copies : ℕ → List Section
copies zero = []
copies (suc k) = some_section ∷ copies k

length-copies : (k : ℕ) → length (copies k) ≡ k
length-copies zero = refl
length-copies (suc k) = ap suc (length-copies k)

copies_in : (count k : ℕ) → k ≤ count → All (IsSectionIn count) (copies k)
copies_in count zero h = All-nil (IsSectionIn count)
copies_in count (suc k) h = All-cons (IsSectionIn count) some_section (copies k) (some_section_in count (omega arith))
    (copies_in count k (omega arith))

copies_known : (version k : ℕ) → All (λ section. IsKnownTo version section.tree) (copies k)
copies_known version zero = All-nil (λ section. IsKnownTo version section.tree)
copies_known version (suc k) = All-cons (λ section. IsKnownTo version section.tree) some_section (copies k) tt
    (copies_known version k)

abbrev leaves : ℕ → Forest
leaves zero = none
leaves (suc p) = more (leaf (run 0 0)) (leaves p)

tree_count-leaves : (p : ℕ) → tree_count (leaves p) ≡ p
tree_count-leaves zero = refl
tree_count-leaves (suc p) = omega (arith, tree_count-leaves p)

leaves_in : (count p : ℕ) → AreTreesIn count (leaves p)
leaves_in count zero = tt
leaves_in count (suc p) = (run_listed count 0 (omega arith), leaves_in count p)

leaves_known : (version p : ℕ) → AreKnownTo version (leaves p)
leaves_known version zero = tt
leaves_known version (suc p) = (tt, leaves_known version p)

abbrev Leadable : Stage → Type 0
Leadable s = (lines : List (List ℕ)) × Leads lines s stage.Done

from_region : (version : ℕ) (count k : ℕ) → k ≤ count → Leadable (stage.Region version count k)
from_region version count k h = (
  flat_map section_lines (copies k) ++ codes "end" ∷ [],
  subst (λ (n : ℕ). Leads (flat_map section_lines (copies k) ++ codes "end" ∷ [])
      (stage.Region version count n) stage.Done) (length-copies k)
      (leads_sections version count (copies k) (copies_in count k h) (copies_known version k)),
)

from_node : (version : ℕ) (count k p : ℕ) → k ≤ count → Leadable (stage.Node version count k (suc p))
from_node version count k p h =
    let r = from_region version count k h in
    let e : tree_count (leaves (suc p)) + 0 ≡ suc p = omega (arith, tree_count-leaves (suc p)) in (
      forest_lines (leaves (suc p)) ++ r.0,
      subst (λ (n : ℕ). Leads (forest_lines (leaves (suc p)) ++ r.0) (after_node version count k n) stage.Done) e
          (leads_trees version count k (leaves (suc p)) (leaves_in count (suc p)) (leaves_known version (suc p)) 0 r.0
          r.1),
    )

-- a group of one cell
abbrev group_at : ℕ → Group
group_at cell = record { capacity = 1; shares = record { cell = cell; weight = 1 } ∷ [] }

group_at_is : (cell : ℕ) → IsGroup (group_at cell)
group_at_is cell = record {
  some = omega arith;
  small = omega arith;
  filled = omega arith;
  ascending = λ k i. absurd (omega arith);
  weights = All-cons (λ (share : Share). 0 < share.weight) (record { cell = cell; weight = 1 }) [] (omega arith)
      (All-nil (λ (share : Share). 0 < share.weight));
  few = All-cons (λ (share : Share). share.weight ≤ 4294967295) (record { cell = cell; weight = 1 }) [] (omega arith)
      (All-nil (λ (share : Share). share.weight ≤ 4294967295));
}

from_groups : (version count k p left from : ℕ) → k ≤ count → from + left ≤ count
    → Leadable (after_group version count k p left from)
from_groups version count k zero zero from h room = from_region version count k h
from_groups version count k (suc p) zero from h room = from_node version count k p h
from_groups version count k p (suc left) from h room =
    let r = from_groups version count k p left (from + 1) h (omega arith) in (
      line (codes "G") (group_numbers (group_at from)) ∷ r.0,
      (
        after_group version count k p left (from + 1),
        (
          group_numbers (group_at from),
          refl,
          (
            p,
            left,
            group_at from,
            omega arith,
            omega arith,
            refl,
            group_at_is from,
            All-cons (λ (cell : ℕ). cell < count) from [] (omega arith) (All-nil (λ (cell : ℕ). cell < count)),
            omega arith,
            omega arith,
            refl,
          ),
        ),
        r.1,
      ),
    )

from_torches : (version : ℕ) (count k t : ℕ) → k ≤ count → t ≤ count → Leadable (stage.Torches version count k t)
from_torches version count k t h i =
    let r = from_node version count k 0 h in (
      line (codes "T") (run 0 t) ∷ r.0,
      (stage.Node version count k 1, (run 0 t, refl, (run_listed count t i, length-run 0 t, refl)), r.1),
    )

from_dark : (version : ℕ) (count k n t : ℕ) → k ≤ count → n ≤ count → t ≤ count
    → Leadable (stage.Dark version count k n t)
from_dark version count k n t h i j =
    let r = from_torches version count k t h j in (
      line (codes "D") (run 0 n) ∷ r.0,
      (stage.Torches version count k t, (run 0 n, refl, (run_listed count n i, length-run 0 n, refl)), r.1),
    )

from_regions : (version : ℕ) (count : ℕ) → Leadable (stage.Regions version count)
from_regions version count =
    let r = from_region version count 0 (omega arith) in (
      line (codes "regions") (0 ∷ []) ∷ r.0,
      (stage.Region version count 0, (0 ∷ [], refl, (0, refl, omega arith, refl)), r.1),
    )

from_need : (version count : ℕ) → Leadable (stage.Need version count)
from_need version count =
    let r = from_regions version count in
    (line (codes "need") (1 ∷ []) ∷ r.0, (stage.Regions version count, (1 ∷ [], refl, (inl refl, refl)), r.1))

from_headroom : (version count : ℕ) → Leadable (stage.Headroom version count)
from_headroom version count =
    let r = go (nat_eq version 1) in
    (line (codes "headroom") (1 ∷ []) ∷ r.0, (after_headroom version count, (1 ∷ [], refl, (inl refl, refl)), r.1))
  where
    go : (b : Bool) → Leadable (if b then stage.Regions version count else stage.Need version count)
    go true = from_regions version count
    go false = from_need version count

from_box : (version : ℕ) → Leadable (stage.Box version)
from_box version =
    let size : Point = record { x = 0; y = 0; z = 0 } in
    let r = from_headroom version (cell_count size) in (
      line (codes "box") (0 ∷ 0 ∷ 0 ∷ []) ∷ r.0,
      (stage.Headroom version (cell_count size), (0 ∷ 0 ∷ 0 ∷ [], refl, (size, refl, refl, refl)), r.1),
    )

pub leads_on : (s : Stage) → IsSoundStage s → (lines : List (List ℕ)) × Leads lines s stage.Done
leads_on stage.Start h =
    let r = from_box 1 in (
      line (codes "torchproof") (1 ∷ []) ∷ r.0,
      (stage.Box 1, (1 ∷ [], refl, (1, refl, omega arith, omega arith, refl)), r.1),
    )
leads_on (stage.Box version) h = from_box version
leads_on (stage.Headroom version count) h = from_headroom version count
leads_on (stage.Need version count) h = from_need version count
leads_on (stage.Regions version count) h = from_regions version count
leads_on (stage.Region version count to_come) h = from_region version count to_come h.1
leads_on (stage.Dark version count to_come n t) h = from_dark version count to_come n t (omega (arith, h.1)) h.3 h.5
leads_on (stage.Torches version count to_come t) h = from_torches version count to_come t (omega (arith, h.1)) h.3
leads_on (stage.Node version count to_come zero) h = absurd (omega (arith, h.2))
leads_on (stage.Node version count to_come (suc p)) h = from_node version count to_come p (omega (arith, h.1))
leads_on (stage.Group version count to_come zero left from) h = absurd (omega (arith, h.2))
leads_on (stage.Group version count to_come (suc p) zero from) h = absurd (omega (arith, h.3))
leads_on (stage.Group version count to_come (suc p) (suc left) from) h =
    from_groups version count to_come p (suc left) from (omega (arith, h.1)) h.4
leads_on stage.Done h = ([], refl)

-- ---- how many trees are still to come

pending_node : (version : ℕ) (count to_come p : ℕ) → pending_of (after_node version count to_come p) ≤ p
pending_node version count to_come zero = omega arith
pending_node version count to_come (suc p) = omega arith

pending_group : (version count to_come p left from : ℕ)
    → pending_of (after_group version count to_come p left from) ≤ p + 1
pending_group version count to_come p zero from = omega (arith, pending_node version count to_come p)
pending_group version count to_come p (suc left) from = omega arith

pending_headroom : (version count : ℕ) → pending_of (after_headroom version count) ≡ 0
pending_headroom version count = go (nat_eq version 1) where
  go : (b : Bool) → pending_of (if b then stage.Regions version count else stage.Need version count) ≡ 0
  go true = refl
  go false = refl

pub pending_after : (s next : Stage) (text : List ℕ) → IsSoundStage s → Takes s text next
    → pending_of next ≤ pending_of s + most_cells
pending_after stage.Start next text h (ns, e, m) = omega (arith, ap pending_of m.4)
pending_after (stage.Box version) next text h (ns, e, m) = omega (arith, ap pending_of m.3)
pending_after (stage.Headroom version count) next text h (ns, e, m) =
    omega (arith, ap pending_of m.1, pending_headroom version count)
pending_after (stage.Need version count) next text h (ns, e, m) = omega (arith, ap pending_of m.1)
pending_after (stage.Regions version count) next text h (ns, e, m) = omega (arith, ap pending_of m.3)
pending_after (stage.Region version count to_come) next text h (inl (ns, e, m)) = omega (arith, ap pending_of m.2)
pending_after (stage.Region version count to_come) next text h (inr (ns, e, m)) = omega (arith, ap pending_of m.9)
pending_after (stage.Dark version count to_come n t) next text h (ns, e, m) = omega (arith, ap pending_of m.2)
pending_after (stage.Torches version count to_come t) next text h (ns, e, m) = omega (arith, ap pending_of m.2)
pending_after (stage.Node version count to_come pending) next text h (inl (ns, e, m)) =
    omega (arith, ap pending_of m.5, pending_node version count to_come m.0, m.2)
pending_after (stage.Node version count to_come pending) next text h (inr (inl (ns, e, m))) =
    omega (arith, ap pending_of m.7, pending_node version count to_come (m.2 + m.0), m.3, m.6, h.0)
pending_after (stage.Node version count to_come pending) next text h (inr (inr (inl (ns, e, m)))) =
    omega (arith, ap pending_of m.8)
pending_after (stage.Node version count to_come pending) next text h (inr (inr (inr (inl (ns, e, m))))) =
    omega (arith, ap pending_of m.5)
pending_after (stage.Node version count to_come pending) next text h (inr (inr (inr (inr (inl (ns, e, m)))))) =
    omega (arith, ap pending_of m.7)
pending_after (stage.Node version count to_come pending) next text h (inr (inr (inr (inr (inr (ns, e, m)))))) =
    omega (arith, ap pending_of m.6)
pending_after (stage.Group version count to_come pending left from) next text h (ns, e, m) =
    omega (arith, ap pending_of m.10, pending_group version count to_come m.0 m.1 (first_cell m.2 + 1), m.3)
pending_after stage.Done next text h m = absurd m
