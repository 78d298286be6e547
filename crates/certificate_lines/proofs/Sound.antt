-- Lines that lead to the end are what is left of a certificate.
use Rattle.std.proofs.Common.{◌≡◌, ℕ, suc, zero, ◌+◌, ◌<◌, ◌≤◌, inl, inr, List, [], ◌∷◌, ◌++◌, length, map, All, refl}
use Rattle.std.proofs.Common.{sym, subst, ap, arith, append_assoc, append-nil, ◌∙◌}
use Rattle.std.specs.Prelude.{codes, flat_map}
use Rattle.std.proofs.lemmas.List.Elements.{All-nil, All-cons, All-append}
use Rattle.proof_rules.specs.declared.groups.Group.{Group}
use Rattle.proof_rules.specs.Groups.{cells_of, all_cells_of, first_cells, IsGroup}
use Rattle.proof_rules.specs.Tree.{Forest, leaf, weighted, branch, bar, omit, pick, none, more, tree_count}
use Rattle.proof_rules.specs.Certificate.{Section, AreListed, AreTreesIn, IsKnownTo, AreKnownTo, IsSectionIn}
use Rattle.proof_rules.specs.Text.{line, group_line, forest_lines, tree_lines, section_lines}
use Rattle.certificate_lines.specs.Nodes.{after_node, after_group, first_cell}
use Rattle.certificate_lines.specs.Steps.{Leads}
use Rattle.certificate_lines.proofs.ShareLemmas.{ascend_to}
use Rattle.certificate_lines.proofs.Rest.{SectionsRest, NodesRest, GroupsRest, DarkRest, Rest}
use Rattle.certificate_lines.specs.declared.stage.Stage.{Stage}
use Rattle.certificate_lines.specs.declared.stage.Stage.TheVariants as stage

-- ---- forests

abbrev pub forest_append : Forest → Forest → Forest
forest_append none others = others
forest_append (more tree trees) others = more tree (forest_append trees others)

-- a front of k trees, and the p others
pub record Cut (version count k p : ℕ) (trees : Forest) : Type 0 where
  pub front : Forest
  pub others : Forest
  pub front_many : tree_count front ≡ k
  pub others_many : tree_count others ≡ p
  pub is : forest_lines trees ≡ forest_lines front ++ forest_lines others
  pub front_in : AreTreesIn count front
  pub others_in : AreTreesIn count others
  pub front_known : AreKnownTo version trees → AreKnownTo version front
  pub others_known : AreKnownTo version trees → AreKnownTo version others

pub cut : (version count k p : ℕ) (trees : Forest) → tree_count trees ≡ k + p → AreTreesIn count trees
    → Cut version count k p trees
cut version count zero p trees e i = record {
  front = none;
  others = trees;
  front_many = refl;
  others_many = omega arith;
  is = refl;
  front_in = tt;
  others_in = i;
  front_known = λ b. tt;
  others_known = λ b. b;
}
cut version count (suc k) p none e i = absurd (omega arith)
cut version count (suc k) p (more t trees) e i =
    let many : tree_count trees ≡ k + p = omega arith in
    let r = cut version count k p trees many i.1 in
    record {
      front = more t r.front;
      others = r.others;
      front_many = omega (arith, r.front_many);
      others_many = r.others_many;
      is = rw (r.is) (sym (append_assoc (tree_lines t) (forest_lines r.front) (forest_lines r.others)));
      front_in = (i.0, r.front_in);
      others_in = r.others_in;
      front_known = λ b. (b.0, r.front_known b.1);
      others_known = λ b. r.others_known b.1;
    }

-- ---- no tree is left: the sections follow
nothing_left : (version count to_come : ℕ) (lines : List (List ℕ)) → SectionsRest version count to_come lines
    → NodesRest version count to_come 0 lines
nothing_left version count to_come lines r =
    record { trees = none; many = refl; each = tt; known = tt; after = lines; rest = r; is = refl }

-- what is left after a tree, whichever stage that is
pub nodes_left : (version count to_come pending : ℕ) (lines : List (List ℕ))
    → Rest (after_node version count to_come pending) lines → NodesRest version count to_come pending lines
nodes_left version count to_come zero lines r = nothing_left version count to_come lines r
nodes_left version count to_come (suc p) lines r = r

-- what is left after a group, whichever stage that is
groups_left : (version count to_come p left from : ℕ) (lines : List (List ℕ))
    → Rest (after_group version count to_come p left from) lines
    → GroupsRest version count to_come (p + 1) left from lines
groups_left version count to_come p zero from lines r = record {
  groups = [];
  many = refl;
  form = All-nil IsGroup;
  below = All-nil (λ (cell : ℕ). cell < count);
  ordered = tt;
  after = lines;
  fewer = p;
  one_less = refl;
  rest = nodes_left version count to_come p lines r;
  is = refl;
}
groups_left version count to_come p (suc left) from lines r =
    let e : suc p ≡ p + 1 = omega arith in
    subst (λ (q : ℕ). GroupsRest version count to_come q (suc left) from lines) e r

joined : (text : List ℕ) (lines : List (List ℕ)) (region dark torches : List ℕ)
    (after later last tree sections : List (List ℕ)) (end : List ℕ)
    → text ≡ region → lines ≡ dark ∷ after → after ≡ torches ∷ later → later ≡ (tree ++ []) ++ last
    → last ≡ sections ++ end ∷ []
    → text ∷ lines ≡ ((region ∷ dark ∷ torches ∷ tree) ++ sections) ++ end ∷ []
joined text lines region dark torches after later last tree sections end a b c d e =
    let f = append_assoc tree sections (end ∷ []) in
    let g = append-nil tree in
    cc

module _ (version count to_come : ℕ) (text : List ℕ) (lines : List (List ℕ)) where
  leaf_first : (p : ℕ) (cells : List ℕ) → text ≡ line (codes "L") (length cells ∷ cells) → AreListed count cells
      → NodesRest version count to_come p lines → NodesRest version count to_come (p + 1) (text ∷ lines)
  leaf_first p cells e listed r = record {
    trees = more (leaf cells) r.trees;
    many = omega (arith, r.many);
    each = (listed, r.each);
    known = (tt, r.known);
    after = r.after;
    rest = r.rest;
    is = (ap (λ (t : List ℕ). t ∷ lines) e)
        ∙ ap (λ (ls : List (List ℕ)). line (codes "L") (length cells ∷ cells) ∷ ls) r.is;
  }

  branch_first : (p cell kids : ℕ) → text ≡ line (codes "B") (cell ∷ kids ∷ []) → cell < count → kids ≤ count
      → NodesRest version count to_come (kids + p) lines → NodesRest version count to_come (p + 1) (text ∷ lines)
  branch_first p cell kids e below few r =
      let c = cut version count kids p r.trees r.many r.each in
      let first : text ≡ line (codes "B") (cell ∷ tree_count c.front ∷ []) = e
      ∙ ap (λ (k : ℕ). line (codes "B") (cell ∷ k ∷ [])) (sym c.front_many) in
      record {
        trees = more (branch cell c.front) c.others;
        many = omega (arith, c.others_many);
        each = ((below, omega (arith, c.front_many), c.front_in), c.others_in);
        known = (c.front_known r.known, c.others_known r.known);
        after = r.after;
        rest = r.rest;
        is = ap (λ (t : List ℕ). t ∷ lines) first
            ∙ ap (λ (ls : List (List ℕ)). line (codes "B") (cell ∷ tree_count c.front ∷ []) ∷ ls)
            (r.is ∙ ap (λ (ls : List (List ℕ)). ls ++ r.after) c.is);
      }

  bar_first : (p place by : ℕ) → 2 ≤ version → text ≡ line (codes "E") (place ∷ by ∷ []) → place < count → by < count
      → NodesRest version count to_come (p + 1) lines → NodesRest version count to_come (p + 1) (text ∷ lines)
  bar_first p place by allowed e below by_below r = onto r.trees r.many r.each r.known r.is where
    onto : (trees : Forest) → tree_count trees ≡ p + 1 → AreTreesIn count trees → AreKnownTo version trees
        → lines ≡ forest_lines trees ++ r.after → NodesRest version count to_come (p + 1) (text ∷ lines)
    onto none many i b is = absurd (omega arith)
    onto (more t ts) many i b is = record {
      trees = more (bar place by t) ts;
      many = many;
      each = ((below, by_below, i.0), i.1);
      known = ((allowed, b.0), b.1);
      after = r.after;
      rest = r.rest;
      is = ap (λ (t : List ℕ). t ∷ lines) e ∙ ap (λ (ls : List (List ℕ)). line (codes "E") (place ∷ by ∷ []) ∷ ls) is;
    }

  omit_first : (p : ℕ) (cells : List ℕ) → 3 ≤ version → text ≡ line (codes "D") (length cells ∷ cells)
      → 0 < length cells → AreListed count cells
      → NodesRest version count to_come (p + 1) lines → NodesRest version count to_come (p + 1) (text ∷ lines)
  omit_first p cells allowed e filled listed r = onto r.trees r.many r.each r.known r.is where
    onto : (trees : Forest) → tree_count trees ≡ p + 1 → AreTreesIn count trees → AreKnownTo version trees
        → lines ≡ forest_lines trees ++ r.after → NodesRest version count to_come (p + 1) (text ∷ lines)
    onto none many i b is = absurd (omega arith)
    onto (more t ts) many i b is = record {
      trees = more (omit cells t) ts;
      many = many;
      each = ((listed, filled, i.0), i.1);
      known = ((allowed, b.0), b.1);
      after = r.after;
      rest = r.rest;
      is = ap (λ (t : List ℕ). t ∷ lines) e
          ∙ ap (λ (ls : List (List ℕ)). line (codes "D") (length cells ∷ cells) ∷ ls) is;
    }

  pick_first : (p place : ℕ) → 4 ≤ version → text ≡ line (codes "P") (place ∷ []) → place < count
      → NodesRest version count to_come (p + 2) lines → NodesRest version count to_come (p + 1) (text ∷ lines)
  pick_first p place allowed e below r = onto r.trees r.many r.each r.known r.is where
    onto : (trees : Forest) → tree_count trees ≡ p + 2 → AreTreesIn count trees → AreKnownTo version trees
        → lines ≡ forest_lines trees ++ r.after → NodesRest version count to_come (p + 1) (text ∷ lines)
    onto none many i b is = absurd (omega arith)
    onto (more t none) many i b is = absurd (omega arith)
    onto (more t (more u ts)) many i b is = record {
      trees = more (pick place t u) ts;
      many = omega (arith, many);
      each = ((below, i.0, i.1.0), i.1.1);
      known = ((allowed, b.0, b.1.0), b.1.1);
      after = r.after;
      rest = r.rest;
      is = ap (λ (t : List ℕ). t ∷ lines) e
          ∙ ap (λ (ls : List (List ℕ)). line (codes "P") (place ∷ []) ∷ ls)
          (is ∙ ap (λ (ls : List (List ℕ)). ls ++ r.after)
          (sym (append_assoc (tree_lines t) (tree_lines u) (forest_lines ts))));
    }

  weighted_first : (pending groups : ℕ) → 3 ≤ version → text ≡ line (codes "W") (groups ∷ []) → 0 < groups
      → GroupsRest version count to_come pending groups 0 lines → NodesRest version count to_come pending (text ∷ lines)
  weighted_first pending groups allowed e filled r =
      let first : text ≡ line (codes "W") (length r.groups ∷ []) = e
      ∙ ap (λ (k : ℕ). line (codes "W") (k ∷ [])) (sym r.many) in
      record {
        trees = more (weighted r.groups) r.rest.trees;
        many = omega (arith, r.rest.many, r.one_less);
        each = (
          record {
            groups_are = record {
              filled = omega (arith, r.many);
              each = r.form;
              ordered = ascend_to (first_cells r.groups) 0 r.ordered;
            };
            below = r.below;
          },
          r.rest.each,
        );
        known = (allowed, r.rest.known);
        after = r.rest.after;
        rest = r.rest.rest;
        is = ap (λ (t : List ℕ). t ∷ lines) first
            ∙ ap (λ (ls : List (List ℕ)). line (codes "W") (length r.groups ∷ []) ∷ ls)
            (r.is ∙ ap (λ (ls : List (List ℕ)). map group_line r.groups ++ ls) r.rest.is
            ∙ sym (append_assoc (map group_line r.groups) (forest_lines r.rest.trees) r.rest.after));
      }

  group_first : (p l from : ℕ) (group : Group) → text ≡ group_line group → IsGroup group
      → All (λ cell. cell < count) (cells_of group.shares) → from ≤ first_cell group
      → GroupsRest version count to_come (p + 1) l (first_cell group + 1) lines
      → GroupsRest version count to_come (p + 1) (l + 1) from (text ∷ lines)
  group_first p l from group e form below least r = record {
    groups = group ∷ r.groups;
    many = omega (arith, r.many);
    form = All-cons IsGroup group r.groups form r.form;
    below = All-append (λ (cell : ℕ). cell < count) (cells_of group.shares) (all_cells_of r.groups) below r.below;
    ordered = (least, r.ordered);
    after = r.after;
    fewer = r.fewer;
    one_less = r.one_less;
    rest = r.rest;
    is = ap (λ (t : List ℕ). t ∷ lines) e ∙ ap (λ (ls : List (List ℕ)). group_line group ∷ ls) r.is;
  }

  -- `end`
  end_first : text ≡ line (codes "end") [] → lines ≡ [] → SectionsRest version count 0 (text ∷ lines)
  end_first e n = record {
    sections = [];
    many = refl;
    each = All-nil (IsSectionIn count);
    known = All-nil (λ section. IsKnownTo version section.tree);
    is = cc;
  }

  region_first : (k n t : ℕ) → text ≡ line (codes "region") (n ∷ t ∷ []) → 0 < n → 0 < t
      → DarkRest version count k n t lines → SectionsRest version count (k + 1) (text ∷ lines)
  region_first k n t e filled some d =
      onto d.rest.rest.trees d.rest.rest.many d.rest.rest.each d.rest.rest.known d.rest.rest.is where
        onto : (trees : Forest) → tree_count trees ≡ 1 → AreTreesIn count trees → AreKnownTo version trees
            → d.rest.after ≡ forest_lines trees ++ d.rest.rest.after → SectionsRest version count (k + 1) (text ∷ lines)
        onto none many i b is = absurd (omega arith)
        onto (more x (more y ys)) many i b is = absurd (omega arith)
        onto (more x none) many i b is =
            let s : Section = record { cells = d.cells; torches = d.rest.torches; tree = x } in
            let r = d.rest.rest.rest in
            let rest : List (List ℕ) = flat_map section_lines r.sections ++ codes "end" ∷ [] in
            record {
              sections = s ∷ r.sections;
              many = omega (arith, r.many);
              each = All-cons (IsSectionIn count) s
                  r.sections (record {
                    dark = d.listed;
                    filled = omega (arith, d.many);
                    lit_by = d.rest.listed;
                    some = omega (arith, d.rest.many);
                    proof = i.0;
                  }) r.each;
              known = All-cons (λ section. IsKnownTo version section.tree) s r.sections b.0 r.known;
              is = joined text lines (line (codes "region") (length d.cells ∷ length d.rest.torches ∷ [])) _ _
                  d.after d.rest.after d.rest.rest.after (tree_lines x) (flat_map section_lines r.sections)
                  (codes "end")
                  (e ∙ ap (λ (m : ℕ). line (codes "region") (m ∷ t ∷ [])) (sym d.many)
                  ∙ ap (λ (m : ℕ). line (codes "region") (length d.cells ∷ m ∷ [])) (sym d.rest.many))
                  d.is d.rest.is is r.is;
            }

-- what is left at each stage
pub left : (lines : List (List ℕ)) (s : Stage) → Leads lines s stage.Done → Rest s lines
left [] stage.Start h = tt
left [] (stage.Box version) h = tt
left [] (stage.Headroom version count) h = tt
left [] (stage.Need version count) h = tt
left [] (stage.Regions version count) h = tt
left [] (stage.Region version count to_come) h = absurd (cc)
left [] (stage.Dark version count to_come n t) h = absurd (cc)
left [] (stage.Torches version count to_come t) h = absurd (cc)
left [] (stage.Node version count to_come pending) h = absurd (cc)
left [] (stage.Group version count to_come pending l from) h = absurd (cc)
left [] stage.Done h = refl
left (text ∷ ls) stage.Start h = tt
left (text ∷ ls) (stage.Box version) h = tt
left (text ∷ ls) (stage.Headroom version count) h = tt
left (text ∷ ls) (stage.Need version count) h = tt
left (text ∷ ls) (stage.Regions version count) h = tt
left (text ∷ ls) (stage.Region version count to_come) (next, inl (numbers, e, (z, n, nx)), rest) =
    subst (λ (k : ℕ). SectionsRest version count k (text ∷ ls)) (sym z)
    (end_first version count to_come text ls (e ∙ ap (λ (ns : List ℕ). line (codes "end") ns) n)
    (subst (λ (s : Stage). Rest s ls) nx (left ls next rest)))
left (text ∷ ls) (stage.Region version count to_come)
    (next, inr (numbers, e, (k, n, t, z, ns, n0, nc, t0, tc, nx)), rest) =
    subst (λ (k : ℕ). SectionsRest version count k (text ∷ ls)) (sym z)
    (region_first version count to_come text ls k n t (e ∙ ap (λ (ns : List ℕ). line (codes "region") ns) ns) n0 t0
    (subst (λ (s : Stage). Rest s ls) nx (left ls next rest)))
left (text ∷ ls) (stage.Dark version count to_come n t) (next, (numbers, e, (listed, many, nx)), rest) =
    record {
      cells = numbers;
      listed = listed;
      many = many;
      after = ls;
      rest = subst (λ (s : Stage). Rest s ls) nx
          (left ls next rest);
      is = ap (λ (l : List ℕ). l ∷ ls) e;
    }
left (text ∷ ls) (stage.Torches version count to_come t) (next, (numbers, e, (listed, many, nx)), rest) =
    record {
      torches = numbers;
      listed = listed;
      many = many;
      after = ls;
      rest = subst (λ (s : Stage). Rest s ls) nx
          (left ls next rest);
      is = ap (λ (l : List ℕ). l ∷ ls) e;
    }
left (text ∷ ls) (stage.Node version count to_come pending)
    (next, inl (numbers, e, (p, cells, z, ns, listed, nx)), rest) =
    subst (λ (k : ℕ). NodesRest version count to_come k (text ∷ ls)) (sym z)
    (leaf_first version count to_come text ls p cells (e ∙ ap (λ (ns : List ℕ). line (codes "L") ns) ns) listed
    (nodes_left version count to_come p ls (subst (λ (s : Stage). Rest s ls) nx (left ls next rest))))
left (text ∷ ls) (stage.Node version count to_come pending)
    (next, inr (inl (numbers, e, (p, cell, kids, z, ns, below, few, nx))), rest) =
    subst (λ (k : ℕ). NodesRest version count to_come k (text ∷ ls)) (sym z)
    (branch_first version count to_come text ls p cell kids (e ∙ ap (λ (ns : List ℕ). line (codes "B") ns) ns) below few
    (nodes_left version count to_come (kids + p) ls (subst (λ (s : Stage). Rest s ls) nx (left ls next rest))))
left (text ∷ ls) (stage.Node version count to_come pending)
    (next, inr (inr (inl (numbers, e, (p, place, by, allowed, z, ns, below, by_below, nx)))), rest) =
    subst (λ (k : ℕ). NodesRest version count to_come k (text ∷ ls)) (sym z)
    (bar_first version count to_come text ls p place by allowed (e ∙ ap (λ (ns : List ℕ). line (codes "E") ns) ns)
    below by_below
    (subst (λ (k : ℕ). NodesRest version count to_come k ls) z
    (subst (λ (s : Stage). Rest s ls) nx (left ls next rest))))
left (text ∷ ls) (stage.Node version count to_come pending)
    (next, inr (inr (inr (inl (numbers, e, (groups, allowed, ns, filled, few, nx))))), rest) =
    weighted_first version count to_come text ls pending groups allowed
    (e ∙ ap (λ (ns : List ℕ). line (codes "W") ns) ns) filled
    (subst (λ (s : Stage). Rest s ls) nx (left ls next rest))
left (text ∷ ls) (stage.Node version count to_come pending)
    (next, inr (inr (inr (inr (inl (numbers, e, (p, cells, allowed, z, ns, filled, listed, nx)))))), rest) =
    subst (λ (k : ℕ). NodesRest version count to_come k (text ∷ ls)) (sym z)
    (omit_first version count to_come text ls p cells allowed (e ∙ ap (λ (ns : List ℕ). line (codes "D") ns) ns)
    filled listed
    (subst (λ (k : ℕ). NodesRest version count to_come k ls) z
    (subst (λ (s : Stage). Rest s ls) nx (left ls next rest))))
left (text ∷ ls) (stage.Node version count to_come pending)
    (next, inr (inr (inr (inr (inr (numbers, e, (p, place, allowed, z, ns, below, nx)))))), rest) =
    let two : pending + 1 ≡ p + 2 = omega (arith, z) in
    subst (λ (k : ℕ). NodesRest version count to_come k (text ∷ ls)) (sym z)
    (pick_first version count to_come text ls p place allowed (e ∙ ap (λ (ns : List ℕ). line (codes "P") ns) ns) below
    (subst (λ (k : ℕ). NodesRest version count to_come k ls) two
    (subst (λ (s : Stage). Rest s ls) nx (left ls next rest))))
left (text ∷ ls) (stage.Group version count to_come pending l from)
    (next, (numbers, e, (p, m, group, z, zl, ns, form, below, least, room, nx)), rest) =
    subst (λ (k : ℕ). GroupsRest version count to_come k l from (text ∷ ls)) (sym z)
    (subst (λ (k : ℕ). GroupsRest version count to_come (p + 1) k from (text ∷ ls)) (sym zl)
    (group_first version count to_come text ls p m from group (e ∙ ap (λ (ns : List ℕ). line (codes "G") ns) ns) form
    below least
    (groups_left version count to_come p m (first_cell group + 1) ls
    (subst (λ (s : Stage). Rest s ls) nx (left ls next rest)))))
left (text ∷ ls) stage.Done (next, h, rest) = absurd h
