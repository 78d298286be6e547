-- The lines of dark cells stand just after a region's first line.
use Rattle.std.proofs.Common.{◌≡◌, ℕ, zero, suc, ◌+◌, inl, inr, List, [], ◌∷◌, ◌++◌, length, get_or, map, refl, sym}
use Rattle.std.proofs.Common.{subst, ap, append_assoc, arith, ◌∙◌}
use Rattle.std.specs.Prelude.{Bool, true, false, flat_map, nat_eq, if◌then◌else◌}
use Rattle.std.proofs.lemmas.Bool.{eqb-true}
use Rattle.proof_rules.specs.declared.groups.Group.{Group}
use Rattle.proof_rules.specs.Tree.{Tree, Forest, leaf, weighted, branch, bar, omit, pick, none, more}
use Rattle.proof_rules.specs.Certificate.{Section, Version, first, second, third, fourth, Certificate}
use Rattle.certificate_lines.specs.Nodes.{after_node, after_group, first_cell}
use Rattle.certificate_lines.specs.Kinds.{kind_at, node_kind, region_kind}
use Rattle.certificate_lines.specs.Orders.{is_dark, is_region, awaits_dark, IsOrdered, last_kind, AreInOrder}
use Rattle.certificate_lines.specs.Said.{Said, said, group_said, tree_said, forest_said, section_said, said_of}
use Rattle.certificate_lines.specs.Steps.{Takes, after_headroom}
use Rattle.certificate_lines.proofs.KindLemmas.{one_of}
use Rattle.certificate_lines.specs.declared.kind.LineKind.{LineKind}
use Rattle.certificate_lines.specs.declared.kind.LineKind.TheVariants as kind
use Rattle.certificate_lines.specs.declared.stage.Stage.{Stage}
use Rattle.certificate_lines.specs.declared.stage.Stage.TheVariants as stage

-- ---- the lines of a certificate

-- they stand so after whatever line isn't a region's first
abbrev IsFree : List Said → Type 0
IsFree all = (k : LineKind) → is_region k ≡ false → IsOrdered k all

-- the lines of groups
groups_free : (gs : List Group) (after : List Said) → IsFree after → IsFree (map group_said gs ++ after)
groups_free [] after f = f
groups_free (g ∷ gs) after f = λ k h. (sym h, groups_free gs after f kind.Group refl)

mutual
  -- of a tree
  tree_free : (t : Tree) (after : List Said) → IsFree after → IsFree (tree_said t ++ after)
  tree_free (leaf cells) after f = λ k h. (sym h, f kind.Leaf refl)
  tree_free (weighted groups) after f = λ k h. (sym h, groups_free groups after f kind.Weighted refl)
  tree_free (branch cell kids) after f = λ k h. (sym h, forest_free kids after f kind.Branch refl)
  tree_free (bar place by kid) after f = λ k h. (sym h, tree_free kid after f kind.Bar refl)
  tree_free (omit cells kid) after f = λ k h. (sym h, tree_free kid after f kind.Omit refl)
  tree_free (pick place with without) after f = λ k h. (
    sym h,
    subst IsFree (sym (append_assoc (tree_said with) (tree_said without) after))
        (tree_free with (tree_said without ++ after) (tree_free without after f)) kind.Pick refl,
  )

  -- of trees
  forest_free : (ts : Forest) (after : List Said) → IsFree after → IsFree (forest_said ts ++ after)
  forest_free none after f = f
  forest_free (more t ts) after f = subst IsFree (sym (append_assoc (tree_said t) (forest_said ts) after))
      (tree_free t (forest_said ts ++ after) (forest_free ts after f))

-- of sections, and the end
sections_free : (ss : List Section) → IsFree (flat_map section_said ss ++ said kind.End [] ∷ [])
sections_free [] = λ k h. (sym h, tt)
sections_free (s ∷ ss) = subst IsFree
    (sym (append_assoc (section_said s) (flat_map section_said ss) (said kind.End [] ∷ [])))
    (λ k h. (
      sym h,
      (
        refl,
        (
          refl,
          tree_free s.tree (flat_map section_said ss ++ said kind.End [] ∷ []) (sections_free ss) kind.Torches refl,
        ),
      ),
    ))

-- of a certificate
pub said_ordered : (c : Certificate) → IsOrdered kind.End (said_of c)
said_ordered c = go c.version where
  rest : IsFree (said kind.Regions (length c.sections ∷ [])
      ∷ (flat_map section_said c.sections ++ said kind.End [] ∷ []))
  rest = λ k h. (sym h, sections_free c.sections kind.Regions refl)

  go : (v : Version) → IsOrdered kind.End (said_of (record c { version = v }))
  go first = (refl, (refl, (refl, rest kind.Headroom refl)))
  go (second need) = (refl, (refl, (refl, (refl, rest kind.Need refl))))
  go (third need) = (refl, (refl, (refl, (refl, rest kind.Need refl))))
  go (fourth need) = (refl, (refl, (refl, (refl, rest kind.Need refl))))

-- ---- a line more

-- a line after others
ordered_push : (before : LineKind) (all : List Said) (s : Said) → IsOrdered before all
    → is_dark s.kind ≡ is_region (last_kind before all) → IsOrdered before (all ++ s ∷ [])
ordered_push before [] s o e = (e, tt)
ordered_push before (x ∷ all) s o e = (o.0, ordered_push x.kind all s o.1 e)

-- is the last
last_push : (before : LineKind) (all : List Said) (s : Said) → last_kind before (all ++ s ∷ []) ≡ s.kind
last_push before [] s = refl
last_push before (x ∷ all) s = last_push x.kind all s

-- a node's line is neither that of dark cells nor a region's first
node_other : (head : ℕ) → (is_dark (node_kind head) ≡ false) × (is_region (node_kind head) ≡ false)
node_other head = go (nat_eq head 66) (nat_eq head 69) (nat_eq head 87) (nat_eq head 68) (nat_eq head 80) where
  go : (b d w o c : Bool) → (is_dark (one_of b d w o c) ≡ false) × (is_region (one_of b d w o c) ≡ false)
  go true d w o c = (refl, refl)
  go false true w o c = (refl, refl)
  go false false true o c = (refl, refl)
  go false false false true c = (refl, refl)
  go false false false false true = (refl, refl)
  go false false false false false = (refl, refl)

-- a line is that of dark cells just where such a line is to come
dark_kind : (s : Stage) (text : List ℕ) → is_dark (kind_at s text) ≡ awaits_dark s
dark_kind stage.Start text = refl
dark_kind (stage.Box version) text = refl
dark_kind (stage.Headroom version count) text = refl
dark_kind (stage.Need version count) text = refl
dark_kind (stage.Regions version count) text = refl
dark_kind (stage.Region version count to_come) text = go (nat_eq to_come 0) where
  go : (b : Bool) → is_dark (if b then kind.End else kind.Region) ≡ false
  go true = refl
  go false = refl
dark_kind (stage.Dark version count to_come n t) text = refl
dark_kind (stage.Torches version count to_come t) text = refl
dark_kind (stage.Node version count to_come pending) text = (node_other (get_or text 0 0)).0
dark_kind (stage.Group version count to_come pending left from) text = refl
dark_kind stage.Done text = refl

-- after a headroom, a node and a group no dark cells are to come
headroom_other : (version count : ℕ) → awaits_dark (after_headroom version count) ≡ false
headroom_other version count = go (nat_eq version 1) where
  go : (b : Bool) → awaits_dark (if b then stage.Regions version count else stage.Need version count) ≡ false
  go true = refl
  go false = refl

after_other : (version count to_come pending : ℕ) → awaits_dark (after_node version count to_come pending) ≡ false
after_other version count to_come zero = refl
after_other version count to_come (suc p) = refl

group_other : (version count to_come pending left from : ℕ)
    → awaits_dark (after_group version count to_come pending left from) ≡ false
group_other version count to_come pending zero from = after_other version count to_come pending
group_other version count to_come pending (suc left) from = refl

-- the kind where a region or the end is to come
region_end : (to_come : ℕ) → to_come ≡ 0 → false ≡ is_region (region_kind to_come)
region_end zero e = refl
region_end (suc k) e = absurd (omega arith)

region_begins : (to_come k : ℕ) → to_come ≡ k + 1 → true ≡ is_region (region_kind to_come)
region_begins to_come k e = go (nat_eq to_come 0) refl where
  go : (b : Bool) → nat_eq to_come 0 ≡ b → true ≡ is_region (if b then kind.End else kind.Region)
  go true h = absurd (let z = eqb-true to_come 0 h in omega arith)
  go false h = refl

-- dark cells are to come just after a region's first line
dark_after : (s next : Stage) (text : List ℕ) → Takes s text next → awaits_dark next ≡ is_region (kind_at s text)
dark_after stage.Start next text (ns, e, m) = ap awaits_dark m.4
dark_after (stage.Box version) next text (ns, e, m) = ap awaits_dark m.3
dark_after (stage.Headroom version count) next text (ns, e, m) = ap awaits_dark m.1 ∙ headroom_other version count
dark_after (stage.Need version count) next text (ns, e, m) = ap awaits_dark m.1
dark_after (stage.Regions version count) next text (ns, e, m) = ap awaits_dark m.3
dark_after (stage.Region version count to_come) next text (inl (ns, e, m)) = ap awaits_dark m.2 ∙ region_end to_come m.0
dark_after (stage.Region version count to_come) next text (inr (ns, e, m)) = ap awaits_dark m.9
    ∙ region_begins to_come m.0 m.3
dark_after (stage.Dark version count to_come n t) next text (ns, e, m) = ap awaits_dark m.2
dark_after (stage.Torches version count to_come t) next text (ns, e, m) = ap awaits_dark m.2
dark_after (stage.Node version count to_come pending) next text (inl (ns, e, m)) = ap awaits_dark m.5
    ∙ after_other version count to_come m.0 ∙ sym (node_other (get_or text 0 0)).1
dark_after (stage.Node version count to_come pending) next text (inr (inl (ns, e, m))) = ap awaits_dark m.7
    ∙ after_other version count to_come (m.2 + m.0) ∙ sym (node_other (get_or text 0 0)).1
dark_after (stage.Node version count to_come pending) next text (inr (inr (inl (ns, e, m)))) = ap awaits_dark m.8
    ∙ sym (node_other (get_or text 0 0)).1
dark_after (stage.Node version count to_come pending) next text (inr (inr (inr (inl (ns, e, m))))) = ap awaits_dark m.5
    ∙ sym (node_other (get_or text 0 0)).1
dark_after (stage.Node version count to_come pending) next text (inr (inr (inr (inr (inl (ns, e, m)))))) =
    ap awaits_dark m.7 ∙ sym (node_other (get_or text 0 0)).1
dark_after (stage.Node version count to_come pending) next text (inr (inr (inr (inr (inr (ns, e, m)))))) =
    ap awaits_dark m.6 ∙ sym (node_other (get_or text 0 0)).1
dark_after (stage.Group version count to_come pending left from) next text (ns, e, m) = ap awaits_dark m.10
    ∙ group_other version count to_come m.0 m.1 (first_cell m.2 + 1)
dark_after stage.Done next text m = absurd m

-- no line
pub order_none : AreInOrder stage.Start []
order_none = record { ordered = tt; last = refl }

-- one more
pub order_push : (s next : Stage) (all : List Said) (text numbers : List ℕ) (k : LineKind) → AreInOrder s all
    → k ≡ kind_at s text → Takes s text next → AreInOrder next (all ++ said k numbers ∷ [])
order_push s next all text numbers k o e t = record {
  ordered = ordered_push kind.End all (said k numbers) o.ordered (ap is_dark e ∙ dark_kind s text ∙ o.last);
  last = dark_after s next text t ∙ ap is_region (sym e) ∙ ap is_region (sym (last_push kind.End all (said k numbers)));
}
