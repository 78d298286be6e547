-- The lines of a certificate lead to the end.
use Rattle.std.proofs.Common.{◌≡◌, ℕ, zero, suc, ◌+◌, ◌<◌, ◌≤◌, inl, inr, List, [], ◌∷◌, ◌++◌, length, map, All, refl}
use Rattle.std.proofs.Common.{sym, subst, arith, append_assoc, get_or}
use Rattle.std.specs.Prelude.{codes, flat_map}
use Rattle.std.proofs.lemmas.List.{length-map}
use Rattle.std.proofs.lemmas.List.Elements.{All-head, All-tail, All-nil, All-cons}
use Rattle.std.proofs.lemmas.Map.Views.{length-le_from_below}
use Rattle.std.proofs.lemmas.Map.Keys.{sorted_from_strictly_increasing}
use Rattle.proof_rules.specs.declared.groups.Share.{Share}
use Rattle.proof_rules.specs.declared.groups.Group.{Group}
use Rattle.proof_rules.specs.Groups.{cells_of, all_cells_of, first_cells, IsGroup}
use Rattle.proof_rules.specs.Tree.{Tree, Forest, leaf, weighted, branch, bar, omit, pick, none, more, tree_count}
use Rattle.proof_rules.specs.Certificate.{Section, AreListed, AreGroupsIn, IsTreeIn, AreTreesIn, IsKnownTo, AreKnownTo}
use Rattle.proof_rules.specs.Certificate.{IsSectionIn}
use Rattle.proof_rules.specs.Text.{group_line, forest_lines, tree_lines, section_lines}
use Rattle.certificate_lines.specs.Nodes.{after_node, after_group, first_cell, group_numbers}
use Rattle.certificate_lines.specs.Steps.{Leads}
use Rattle.certificate_lines.proofs.ShareLemmas.{AscendFrom, ascend_from, ascend_few}
use Rattle.certificate_lines.specs.declared.stage.Stage.{Stage}
use Rattle.certificate_lines.specs.declared.stage.Stage.TheVariants as stage

-- ascending cells below a count are no more than that
pub listed_few : (count : ℕ) (cells : List ℕ) → AreListed count cells → length cells ≤ count
listed_few count cells a = length-le_from_below count cells (sorted_from_strictly_increasing cells a.ascending) a.below

-- ---- what holds of the cells of all groups

-- holds of the cells of the first group
pub all_cells_head : (P : ℕ → Type 0) (g : Group) (gs : List Group) → All P (all_cells_of (g ∷ gs))
    → All P (cells_of g.shares)
all_cells_head P g gs a = go (cells_of g.shares) a where
  go : (xs : List ℕ) → All P (xs ++ all_cells_of gs) → All P xs
  go [] a = All-nil P
  go (x ∷ xs) a = All-cons P x xs (All-head P x (xs ++ all_cells_of gs) a)
      (go xs (All-tail P x (xs ++ all_cells_of gs) a))

-- and of those of the others
pub all_cells_tail : (P : ℕ → Type 0) (g : Group) (gs : List Group) → All P (all_cells_of (g ∷ gs))
    → All P (all_cells_of gs)
all_cells_tail P g gs a = go (cells_of g.shares) a where
  go : (xs : List ℕ) → All P (xs ++ all_cells_of gs) → All P (all_cells_of gs)
  go [] a = a
  go (x ∷ xs) a = go xs (All-tail P x (xs ++ all_cells_of gs) a)

-- what holds of all cells holds of the first
pub first_holds : (P : ℕ → Type 0) (shares : List Share) → 0 < length shares → All P (cells_of shares)
    → P (get_or (cells_of shares) 0 0)
first_holds P [] some a = absurd (omega arith)
first_holds P (s ∷ ss) some a = All-head P s.cell (cells_of ss) a

-- and of the first of each group
pub firsts_hold : (P : ℕ → Type 0) (gs : List Group) → All IsGroup gs → All P (all_cells_of gs) → All P (first_cells gs)
firsts_hold P [] f a = All-nil P
firsts_hold P (g ∷ gs) f a = All-cons P (first_cell g) (first_cells gs)
    (first_holds P g.shares (All-head IsGroup g gs f).filled (all_cells_head P g gs a))
    (firsts_hold P gs (All-tail IsGroup g gs f) (all_cells_tail P g gs a))

-- there are no more groups than cells of the box
pub groups_few : (count : ℕ) (gs : List Group) → AreGroupsIn count gs → length gs ≤ count
groups_few count gs i =
    let f = i.groups_are in
    let firsts = firsts_hold (λ (cell : ℕ). cell < count) gs f.each i.below in
    let a : AscendFrom 0 (first_cells gs) = ascend_from (first_cells gs) 0 f.ordered (λ s. omega arith) in
    let m : length (first_cells gs) ≡ length gs = length-map gs (λ (o : Group). first_cell o) in
    omega (arith, ascend_few count (first_cells gs) 0 a firsts (omega (arith, f.filled)))

-- with some trees still to come, the first line of one is
pub node_next : (version count to_come pending : ℕ) → 0 < pending
    → after_node version count to_come pending ≡ stage.Node version count to_come pending
node_next version count to_come zero some = absurd (omega arith)
node_next version count to_come (suc p) some = refl

module _ (version count to_come : ℕ) where
  -- the lines of groups
  pub leads_groups : (gs : List Group) → All IsGroup gs → All (λ cell. cell < count) (all_cells_of gs)
      → (p from : ℕ) → AscendFrom from (first_cells gs)
      → (after : List (List ℕ)) → Leads after (after_node version count to_come p) stage.Done
      → Leads (map group_line gs ++ after) (after_group version count to_come p (length gs) from) stage.Done
  leads_groups [] f b p from a after h = h
  leads_groups (g ∷ gs) f b p from a after h = (
    after_group version count to_come p (length gs) (first_cell g + 1),
    (
      group_numbers g,
      refl,
      (
        p,
        length gs,
        g,
        omega arith,
        omega arith,
        refl,
        All-head IsGroup g gs f,
        all_cells_head (λ (cell : ℕ). cell < count) g gs b,
        a.0,
        room (first_cells gs) (length-map gs (λ (o : Group). first_cell o)) a.1
            (firsts_hold (λ (cell : ℕ). cell < count) (g ∷ gs) f b),
        refl,
      ),
    ),
    leads_groups gs (All-tail IsGroup g gs f) (all_cells_tail (λ (cell : ℕ). cell < count) g gs b) p (first_cell g + 1)
        a.1 after h,
  ) where
    room : (firsts : List ℕ) → length firsts ≡ length gs → AscendFrom (first_cell g + 1) firsts
        → All (λ cell. cell < count) (first_cell g ∷ firsts) → first_cell g + suc (length gs) ≤ count
    room firsts e a c = omega (
      arith,
      ascend_few count (first_cell g ∷ firsts) (first_cell g) (omega arith, a) c (omega arith),
    )

  -- the lines of a weighted leaf
  leads_weighted : (gs : List Group) → AreGroupsIn count gs → 3 ≤ version → (p q : ℕ) → q ≡ p + 1
      → (after : List (List ℕ)) → Leads after (after_node version count to_come p) stage.Done
      → Leads (tree_lines (weighted gs) ++ after) (stage.Node version count to_come q) stage.Done
  leads_weighted [] i k p q e after h = (let f = i.groups_are in absurd (omega (arith, f.filled)))
  leads_weighted (g ∷ gs) i k p q e after h =
      let f = i.groups_are in
      let a : AscendFrom 0 (first_cells (g ∷ gs)) = ascend_from (first_cells (g ∷ gs)) 0 f.ordered (λ s. omega arith) in
      let few : length (g ∷ gs) ≤ count = groups_few count (g ∷ gs) i in (
        stage.Group version count to_come q (length (g ∷ gs)) 0,
        inr (inr (inr (inl (length (g ∷ gs) ∷ [], refl, (length (g ∷ gs), k, refl, omega arith, few, refl))))),
        subst (λ (m : ℕ). Leads (map group_line (g ∷ gs) ++ after)
            (stage.Group version count to_come m (length (g ∷ gs)) 0) stage.Done) (omega (arith, e))
            (leads_groups (g ∷ gs) f.each i.below p 0 a after h),
      )

  mutual
    pub leads_tree : (t : Tree) → IsTreeIn count t → IsKnownTo version t → (p q : ℕ) → q ≡ p + 1
        → (after : List (List ℕ)) → Leads after (after_node version count to_come p) stage.Done
        → Leads (tree_lines t ++ after) (stage.Node version count to_come q) stage.Done
    leads_tree (leaf cells) i b p q e after h =
        (after_node version count to_come p, inl (length cells ∷ cells, refl, (p, cells, e, refl, i, refl)), h)
    leads_tree (weighted groups) i b p q e after h = leads_weighted groups i b p q e after h
    leads_tree (branch cell kids) i b p q e after h = (
      after_node version count to_come (tree_count kids + p),
      inr (inl (cell ∷ tree_count kids ∷ [], refl, (p, cell, tree_count kids, e, refl, i.0, i.1, refl))),
      leads_trees kids i.2 b p after h,
    )
    leads_tree (bar place by kid) i b p q e after h = (
      stage.Node version count to_come q,
      inr (inr (inl (place ∷ by ∷ [], refl, (p, place, by, b.0, e, refl, i.0, i.1, refl)))),
      leads_tree kid i.2 b.1 p q e after h,
    )
    leads_tree (omit cells kid) i b p q e after h = (
      stage.Node version count to_come q,
      inr (inr (inr (inr (inl (length cells ∷ cells, refl, (p, cells, b.0, e, refl, i.1, i.0, refl)))))),
      leads_tree kid i.2 b.1 p q e after h,
    )
    leads_tree (pick place with without) i b p q e after h =
        let last : Leads (tree_lines without ++ after) (after_node version count to_come q) stage.Done =
        subst (λ (s : Stage). Leads (tree_lines without ++ after) s stage.Done)
        (sym (node_next version count to_come q (omega (arith, e)))) (leads_tree without i.2 b.2 p q e after h) in
        let both : Leads (tree_lines with ++ (tree_lines without ++ after))
        (stage.Node version count to_come (q + 1)) stage.Done =
        leads_tree with i.1 b.1 q (q + 1) refl (tree_lines without ++ after) last in (
          stage.Node version count to_come (q + 1),
          inr (inr (inr (inr (inr (place ∷ [], refl, (p, place, b.0, e, refl, i.0, refl)))))),
          subst (λ (ls : List (List ℕ)). Leads ls (stage.Node version count to_come (q + 1)) stage.Done)
              (sym (append_assoc (tree_lines with) (tree_lines without) after)) both,
        )

    pub leads_trees : (ts : Forest) → AreTreesIn count ts → AreKnownTo version ts
        → (p : ℕ) (after : List (List ℕ)) → Leads after (after_node version count to_come p) stage.Done
        → Leads (forest_lines ts ++ after) (after_node version count to_come (tree_count ts + p)) stage.Done
    leads_trees none i b p after h = let z : 0 + p ≡ p = omega arith in rw z h
    leads_trees (more t ts) i b p after h =
        let q : 1 + tree_count ts + p ≡ suc (tree_count ts + p) = omega arith in
        let first : Leads (tree_lines t ++ (forest_lines ts ++ after))
        (stage.Node version count to_come (suc (tree_count ts + p))) stage.Done =
        leads_tree t i.0 b.0 (tree_count ts + p) (suc (tree_count ts + p)) (omega arith)
        (forest_lines ts ++ after) (leads_trees ts i.1 b.1 p after h) in
        rw (append_assoc, q) first

module _ (version count : ℕ) where
  pub leads_sections : (sections : List Section) → All (IsSectionIn count) sections
      → All (λ section. IsKnownTo version section.tree) sections
      → Leads (flat_map section_lines sections ++ codes "end" ∷ [])
      (stage.Region version count (length sections)) stage.Done
  leads_sections [] a b = (stage.Done, inl ([], refl, (refl, refl, refl)), refl)
  leads_sections (s ∷ ss) a b =
      let i : IsSectionIn count s = All-head (IsSectionIn count) s ss a in
      let last : List (List ℕ) = flat_map section_lines ss ++ codes "end" ∷ [] in
      let rest : Leads last (stage.Region version count (length ss)) stage.Done = leads_sections ss
      (All-tail (IsSectionIn count) s ss a) (All-tail (λ section. IsKnownTo version section.tree) s ss b) in
      let nodes : Leads (tree_lines s.tree ++ last) (stage.Node version count (length ss) 1) stage.Done =
      leads_tree version count (length ss) s.tree i.proof
      (All-head (λ section. IsKnownTo version section.tree) s ss b) 0 1 refl last rest in
      let all : Leads (section_lines s ++ last) (stage.Region version count (suc (length ss))) stage.Done = (
        stage.Dark version count (length ss) (length s.cells) (length s.torches),
        inr (
          length s.cells ∷ length s.torches ∷ [],
          refl,
          (
            length ss,
            length s.cells,
            length s.torches,
            omega arith,
            refl,
            i.filled,
            listed_few count s.cells i.dark,
            i.some,
            listed_few count s.torches i.lit_by,
            refl,
          ),
        ),
        (
          stage.Torches version count (length ss) (length s.torches),
          (s.cells, refl, (i.dark, refl, refl)),
          (stage.Node version count (length ss) 1, (s.torches, refl, (i.lit_by, refl, refl)), nodes),
        ),
      ) in
      subst (λ (ls : List (List ℕ)). Leads ls (stage.Region version count (suc (length ss))) stage.Done)
      (sym (append_assoc (section_lines s) (flat_map section_lines ss) (codes "end" ∷ []))) all
