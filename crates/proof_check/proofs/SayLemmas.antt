-- The lists that the lines of a certificate have, and whether they agree with a cave.
use Rattle.std.proofs.Common.{◌≡◌, ℕ, ◌<◌, List, [], ◌∷◌, ◌++◌, length, map, All, refl, sym, ap, subst, ◌∙◌}
use Rattle.std.proofs.Common.{append_assoc}
use Rattle.std.specs.Prelude.{flat_map}
use Rattle.std.proofs.lemmas.Grind.{flat_map-append}
use Rattle.std.proofs.lemmas.List.Elements.{All-nil, All-cons, All-head, All-tail, All-append}
use Rattle.cave_base.specs.Box.{Point}
use Rattle.cave_model.specs.Cave.{Cave}
use Rattle.proof_rules.specs.Tree.{Tree, Forest, leaf, weighted, branch, bar, omit, pick, none, more, tree_count}
use Rattle.proof_rules.specs.declared.groups.Group.{Group}
use Rattle.proof_rules.specs.Certificate.{Section, Version, first, second, third, fourth, Certificate, AreListed}
use Rattle.proof_rules.specs.Certificate.{IsSectionIn}
use Rattle.proof_rules.specs.Certificate.{need_of, regions_of, torch_lists}
use Rattle.certificate_lines.specs.Said.{Said, said, share_numbers, group_said, tree_said, forest_said, section_said}
use Rattle.certificate_lines.specs.Said.{said_of}
use Rattle.certificate_lines.specs.declared.kind.LineKind.TheVariants as kind
use Rattle.proof_check.specs.Accepted.{IsOfCave}
use Rattle.proof_check.specs.Heard.{part_if, is_dark_line, is_torch_line, dark_parts, torch_parts}
use Rattle.proof_check.specs.Tried.{AgreesWithSaid, Differs}

-- ---- lists

-- two empty lists are empty together
two_none : (xs ys : List (List ℕ)) → xs ≡ [] → ys ≡ [] → xs ++ ys ≡ []
two_none xs ys e f = ap (λ (x : List (List ℕ)). x ++ ys) e ∙ f

module _ (f : Said → List (List ℕ)) (l : (ns : List ℕ) → f (said kind.Leaf ns) ≡ [])
    (b : (ns : List ℕ) → f (said kind.Branch ns) ≡ []) (e : (ns : List ℕ) → f (said kind.Bar ns) ≡ [])
    (w : (ns : List ℕ) → f (said kind.Weighted ns) ≡ []) (g : (ns : List ℕ) → f (said kind.Group ns) ≡ [])
    (o : (ns : List ℕ) → f (said kind.Omit ns) ≡ []) (p : (ns : List ℕ) → f (said kind.Pick ns) ≡ []) where
  groups_none : (groups : List Group) → flat_map f (map group_said groups) ≡ []
  groups_none [] = refl
  groups_none (h ∷ hs) = two_none (f (group_said h)) (flat_map f (map group_said hs))
      (g (h.capacity ∷ length h.shares ∷ share_numbers h.shares)) (groups_none hs)

  mutual
    tree_none : (t : Tree) → flat_map f (tree_said t) ≡ []
    tree_none (leaf cells) = two_none (f (said kind.Leaf (length cells ∷ cells))) [] (l (length cells ∷ cells)) refl
    tree_none (branch cell kids) = two_none (f (said kind.Branch (cell ∷ tree_count kids ∷ [])))
        (flat_map f (forest_said kids)) (b (cell ∷ tree_count kids ∷ [])) (forest_none kids)
    tree_none (bar place by kid) = two_none (f (said kind.Bar (place ∷ by ∷ []))) (flat_map f (tree_said kid))
        (e (place ∷ by ∷ [])) (tree_none kid)
    tree_none (weighted groups) = two_none (f (said kind.Weighted (length groups ∷ [])))
        (flat_map f (map group_said groups)) (w (length groups ∷ [])) (groups_none groups)
    tree_none (omit cells kid) = two_none (f (said kind.Omit (length cells ∷ cells))) (flat_map f (tree_said kid))
        (o (length cells ∷ cells)) (tree_none kid)
    tree_none (pick place with without) = two_none (f (said kind.Pick (place ∷ [])))
        (flat_map f (tree_said with ++ tree_said without)) (p (place ∷ []))
        (flat_map-append f (tree_said with) (tree_said without) ∙ two_none (flat_map f (tree_said with))
        (flat_map f (tree_said without)) (tree_none with) (tree_none without))

    forest_none : (ts : Forest) → flat_map f (forest_said ts) ≡ []
    forest_none none = refl
    forest_none (more t ts) = flat_map-append f (tree_said t) (forest_said ts) ∙ two_none (flat_map f (tree_said t))
        (flat_map f (forest_said ts)) (tree_none t) (forest_none ts)

  after_tree : (t : Tree) (rest : List Said) → flat_map f (tree_said t ++ rest) ≡ flat_map f rest
  after_tree t rest = flat_map-append f (tree_said t) rest ∙ ap (λ (x : List (List ℕ)). x ++ flat_map f rest)
      (tree_none t)

-- the lines of sections say their lists of torches
torch_sections : (ss : List Section) → torch_parts (flat_map section_said ss ++ said kind.End [] ∷ []) ≡ torch_lists ss
torch_sections [] = refl
torch_sections (s ∷ ss) = ap torch_parts
    (append_assoc (section_said s) (flat_map section_said ss) (said kind.End [] ∷ []))
    ∙ ap (λ (p : List (List ℕ)). s.torches ∷ p)
    (after_tree (λ s. part_if (is_torch_line s.kind) s.numbers) (λ ns. refl) (λ ns. refl)
    (λ ns. refl) (λ ns. refl) (λ ns. refl) (λ ns. refl) (λ ns. refl) s.tree
    (flat_map section_said ss ++ said kind.End [] ∷ [])
    ∙ torch_sections ss)

-- the lines of a certificate say its lists of torches
pub torches_said : (c : Certificate) → torch_parts (said_of c) ≡ torch_lists c.sections
torches_said c = go c.version where
  go : (v : Version) → torch_parts (said_of (record c { version = v })) ≡ torch_lists c.sections
  go first = torch_sections c.sections
  go (second need) = torch_sections c.sections
  go (third need) = torch_sections c.sections
  go (fourth need) = torch_sections c.sections

-- the lines of sections say their regions
dark_sections : (ss : List Section)
    → dark_parts (flat_map section_said ss ++ said kind.End [] ∷ []) ≡ map (λ s. s.cells) ss
dark_sections [] = refl
dark_sections (s ∷ ss) = ap dark_parts
    (append_assoc (section_said s) (flat_map section_said ss) (said kind.End [] ∷ []))
    ∙ ap (λ (p : List (List ℕ)). s.cells ∷ p)
    (after_tree (λ s. part_if (is_dark_line s.kind) s.numbers) (λ ns. refl) (λ ns. refl)
    (λ ns. refl) (λ ns. refl) (λ ns. refl) (λ ns. refl) (λ ns. refl) s.tree
    (flat_map section_said ss ++ said kind.End [] ∷ [])
    ∙ dark_sections ss)

-- the lines of a certificate say its regions
pub regions_said : (c : Certificate) → dark_parts (said_of c) ≡ regions_of c
regions_said c = go c.version where
  go : (v : Version) → dark_parts (said_of (record c { version = v })) ≡ regions_of c
  go first = dark_sections c.sections
  go (second need) = dark_sections c.sections
  go (third need) = dark_sections c.sections
  go (fourth need) = dark_sections c.sections

-- sections within a box list torches within it
pub torches_in : (count : ℕ) (ss : List Section) → All (IsSectionIn count) ss → All (AreListed count) (torch_lists ss)
torches_in count [] a = All-nil (AreListed count)
torches_in count (s ∷ ss) a = All-cons (AreListed count) s.torches (torch_lists ss)
    (All-head (IsSectionIn count) s ss a).lit_by (torches_in count ss (All-tail (IsSectionIn count) s ss a))

-- and regions within it
pub regions_in : (count : ℕ) (ss : List Section) → All (IsSectionIn count) ss
    → All (AreListed count) (map (λ s. s.cells) ss)
regions_in count [] a = All-nil (AreListed count)
regions_in count (s ∷ ss) a = All-cons (AreListed count) s.cells (map (λ s. s.cells) ss)
    (All-head (IsSectionIn count) s ss a).dark (regions_in count ss (All-tail (IsSectionIn count) s ss a))

-- none of which is empty
pub regions_filled : (count : ℕ) (ss : List Section) → All (IsSectionIn count) ss
    → All (λ cells. 0 < length cells) (map (λ s. s.cells) ss)
regions_filled count [] a = All-nil (λ cells. 0 < length cells)
regions_filled count (s ∷ ss) a = All-cons (λ cells. 0 < length cells) s.cells (map (λ s. s.cells) ss)
    (All-head (IsSectionIn count) s ss a).filled (regions_filled count ss (All-tail (IsSectionIn count) s ss a))

-- ---- agreement

module _ (cave : Cave) where
  abbrev AllAgree : List Said → Type 0
  AllAgree all = All (AgreesWithSaid cave) all

  with_line : (s : Said) (all : List Said) → AgreesWithSaid cave s → AllAgree all → AllAgree (s ∷ all)
  with_line s all h a = All-cons (AgreesWithSaid cave) s all h a

  groups_agree : (groups : List Group) → AllAgree (map group_said groups)
  groups_agree [] = All-nil (AgreesWithSaid cave)
  groups_agree (h ∷ hs) = with_line (group_said h) (map group_said hs) tt (groups_agree hs)

  mutual
    tree_agrees : (t : Tree) → AllAgree (tree_said t)
    tree_agrees (leaf cells) = with_line (said kind.Leaf (length cells ∷ cells)) [] tt (All-nil (AgreesWithSaid cave))
    tree_agrees (branch cell kids) = with_line (said kind.Branch (cell ∷ tree_count kids ∷ [])) (forest_said kids) tt
        (forest_agrees kids)
    tree_agrees (bar place by kid) = with_line (said kind.Bar (place ∷ by ∷ [])) (tree_said kid) tt (tree_agrees kid)
    tree_agrees (weighted groups) = with_line (said kind.Weighted (length groups ∷ [])) (map group_said groups) tt
        (groups_agree groups)
    tree_agrees (omit cells kid) = with_line (said kind.Omit (length cells ∷ cells)) (tree_said kid) tt
        (tree_agrees kid)
    tree_agrees (pick place with without) = with_line (said kind.Pick (place ∷ []))
        (tree_said with ++ tree_said without) tt (All-append (AgreesWithSaid cave) (tree_said with) (tree_said without)
        (tree_agrees with) (tree_agrees without))

    forest_agrees : (ts : Forest) → AllAgree (forest_said ts)
    forest_agrees none = All-nil (AgreesWithSaid cave)
    forest_agrees (more t ts) = All-append (AgreesWithSaid cave) (tree_said t) (forest_said ts) (tree_agrees t)
        (forest_agrees ts)

  section_agrees : (s : Section) → AllAgree (section_said s)
  section_agrees s =
      with_line (said kind.Region (length s.cells ∷ length s.torches ∷ []))
      (said kind.Dark s.cells ∷ said kind.Torches s.torches ∷ tree_said s.tree) tt
      (with_line (said kind.Dark s.cells) (said kind.Torches s.torches ∷ tree_said s.tree) tt
      (with_line (said kind.Torches s.torches) (tree_said s.tree) tt (tree_agrees s.tree)))

  sections_agree : (ss : List Section) → AllAgree (flat_map section_said ss)
  sections_agree [] = All-nil (AgreesWithSaid cave)
  sections_agree (s ∷ ss) = All-append (AgreesWithSaid cave) (section_said s) (flat_map section_said ss)
      (section_agrees s)
      (sections_agree ss)

  same_size : (a b : Point) → a ≡ b → a.x ∷ a.y ∷ a.z ∷ [] ≡ b.x ∷ b.y ∷ b.z ∷ []
  same_size a b e = ap (λ (p : Point). p.x ∷ p.y ∷ p.z ∷ []) e

  -- the lines of a certificate of the cave agree with it
  pub agrees_of : (c : Certificate) → IsOfCave cave c → AllAgree (said_of c)
  agrees_of c o = go c.version o.need where
    size : AgreesWithSaid cave (said kind.Size (c.size.x ∷ c.size.y ∷ c.size.z ∷ []))
    size = same_size c.size cave.size o.box

    headroom : AgreesWithSaid cave (said kind.Headroom (c.headroom ∷ []))
    headroom = ap (λ (n : ℕ). n ∷ []) o.headroom

    rest : AllAgree (said kind.Regions (length c.sections ∷ [])
        ∷ (flat_map section_said c.sections ++ said kind.End [] ∷ []))
    rest = with_line (said kind.Regions (length c.sections ∷ []))
        (flat_map section_said c.sections ++ said kind.End [] ∷ []) tt
        (All-append (AgreesWithSaid cave) (flat_map section_said c.sections) (said kind.End [] ∷ [])
        (sections_agree c.sections)
        (with_line (said kind.End []) [] tt (All-nil (AgreesWithSaid cave))))

    with_need : (number need : ℕ) → (number ∷ [] ≡ 1 ∷ [] → cave.rule.need ≡ 1) → need ≡ cave.rule.need
        → AllAgree (said kind.Version (number ∷ []) ∷ said kind.Size (c.size.x ∷ c.size.y ∷ c.size.z ∷ []) ∷ said
        kind.Headroom (c.headroom ∷ []) ∷ said kind.Need (need ∷ []) ∷ said kind.Regions (length c.sections ∷ [])
        ∷ (flat_map section_said c.sections ++ said kind.End [] ∷ []))
    with_need number need other n =
        with_line (said kind.Version (number ∷ []))
        (said kind.Size (c.size.x ∷ c.size.y ∷ c.size.z ∷ []) ∷ said kind.Headroom (c.headroom ∷ []) ∷ said
        kind.Need (need ∷ []) ∷ said kind.Regions (length c.sections ∷ [])
        ∷ (flat_map section_said c.sections ++ said kind.End [] ∷ [])) other
        (with_line (said kind.Size (c.size.x ∷ c.size.y ∷ c.size.z ∷ []))
        (said kind.Headroom (c.headroom ∷ []) ∷ said kind.Need (need ∷ []) ∷ said
        kind.Regions (length c.sections ∷ []) ∷ (flat_map section_said c.sections ++ said kind.End [] ∷ []))
        size
        (with_line (said kind.Headroom (c.headroom ∷ []))
        (said kind.Need (need ∷ []) ∷ said kind.Regions (length c.sections ∷ [])
        ∷ (flat_map section_said c.sections ++ said kind.End [] ∷ [])) headroom
        (with_line (said kind.Need (need ∷ []))
        (said kind.Regions (length c.sections ∷ []) ∷ (flat_map section_said c.sections ++ said kind.End [] ∷ []))
        (ap (λ (k : ℕ). k ∷ []) n) rest)))

    go : (v : Version) → need_of v ≡ cave.rule.need → AllAgree (said_of (record c { version = v }))
    go first n =
        with_line (said kind.Version (1 ∷ []))
        (said kind.Size (c.size.x ∷ c.size.y ∷ c.size.z ∷ []) ∷ said kind.Headroom (c.headroom ∷ []) ∷ said
        kind.Regions (length c.sections ∷ []) ∷ (flat_map section_said c.sections ++ said kind.End [] ∷ []))
        (λ e. sym n)
        (with_line (said kind.Size (c.size.x ∷ c.size.y ∷ c.size.z ∷ []))
        (said kind.Headroom (c.headroom ∷ []) ∷ said kind.Regions (length c.sections ∷ [])
        ∷ (flat_map section_said c.sections ++ said kind.End [] ∷ [])) size
        (with_line (said kind.Headroom (c.headroom ∷ []))
        (said kind.Regions (length c.sections ∷ []) ∷ (flat_map section_said c.sections ++ said kind.End [] ∷ []))
        headroom rest))
    go (second need) n = with_need 2 need (λ e. absurd cc) n
    go (third need) n = with_need 3 need (λ e. absurd cc) n
    go (fourth need) n = with_need 4 need (λ e. absurd cc) n

  one_number : (a b : ℕ) → a ∷ [] ≡ b ∷ [] → a ≡ b
  one_number a b e = cc

  point_same : (a b : Point) → a.x ≡ b.x → a.y ≡ b.y → a.z ≡ b.z → a ≡ b
  point_same a b e f g = rw (e, f, g) refl

  size_from : (a b : Point) → a.x ∷ a.y ∷ a.z ∷ [] ≡ b.x ∷ b.y ∷ b.z ∷ [] → a ≡ b
  size_from a b e =
      let x : a.x ≡ b.x = cc in
      let y : a.y ≡ b.y = cc in
      let z : a.z ≡ b.z = cc in
      point_same a b x y z

  -- and where all lines agree it is one
  pub of_agreeing : (c : Certificate) → AllAgree (said_of c) → IsOfCave cave c
  of_agreeing c a = go c.version a where
    needed : (number need : ℕ)
        → AllAgree (said kind.Version (number ∷ []) ∷ said kind.Size (c.size.x ∷ c.size.y ∷ c.size.z ∷ []) ∷ said
        kind.Headroom (c.headroom ∷ []) ∷ said kind.Need (need ∷ []) ∷ said kind.Regions (length c.sections ∷ [])
        ∷ (flat_map section_said c.sections ++ said kind.End [] ∷ []))
        → (c.size ≡ cave.size) × (c.headroom ≡ cave.rule.headroom) × (need ≡ cave.rule.need)
    needed number need a =
        let regions : List Said = said kind.Regions (length c.sections ∷ [])
        ∷ (flat_map section_said c.sections ++ said kind.End [] ∷ []) in
        let version : Said = said kind.Version (number ∷ []) in
        let size : Said = said kind.Size (c.size.x ∷ c.size.y ∷ c.size.z ∷ []) in
        let headroom : Said = said kind.Headroom (c.headroom ∷ []) in
        let level : Said = said kind.Need (need ∷ []) in
        let a1 = All-tail (AgreesWithSaid cave) version (size ∷ headroom ∷ level ∷ regions) a in
        let a2 = All-tail (AgreesWithSaid cave) size (headroom ∷ level ∷ regions) a1 in
        let a3 = All-tail (AgreesWithSaid cave) headroom (level ∷ regions) a2 in (
          size_from c.size cave.size (All-head (AgreesWithSaid cave) size (headroom ∷ level ∷ regions) a1),
          one_number c.headroom cave.rule.headroom (All-head (AgreesWithSaid cave) headroom (level ∷ regions) a2),
          one_number need cave.rule.need (All-head (AgreesWithSaid cave) level regions a3),
        )

    go : (v : Version) → AllAgree (said_of (record c { version = v })) → IsOfCave cave (record c { version = v })
    go first a =
        let regions : List Said = said kind.Regions (length c.sections ∷ [])
        ∷ (flat_map section_said c.sections ++ said kind.End [] ∷ []) in
        let size : Said = said kind.Size (c.size.x ∷ c.size.y ∷ c.size.z ∷ []) in
        let headroom : Said = said kind.Headroom (c.headroom ∷ []) in
        let a1 = All-tail (AgreesWithSaid cave) (said kind.Version (1 ∷ [])) (size ∷ headroom ∷ regions) a in
        let a2 = All-tail (AgreesWithSaid cave) size (headroom ∷ regions) a1 in
        record {
          box = size_from c.size cave.size (All-head (AgreesWithSaid cave) size (headroom ∷ regions) a1);
          headroom = one_number c.headroom cave.rule.headroom (All-head (AgreesWithSaid cave) headroom regions a2);
          need = sym (All-head (AgreesWithSaid cave) (said kind.Version (1 ∷ [])) (size ∷ headroom ∷ regions) a refl);
        }
    go (second need) a = (let n = needed 2 need a in record { box = n.0; headroom = n.1; need = n.2 })
    go (third need) a = (let n = needed 3 need a in record { box = n.0; headroom = n.1; need = n.2 })
    go (fourth need) a = (let n = needed 4 need a in record { box = n.0; headroom = n.1; need = n.2 })

  -- where a line differs it isn't
  pub differing : (c : Certificate) → Differs cave (said_of c) → ¬ IsOfCave cave c
  differing c d o = d.other (subst (AgreesWithSaid cave) d.there.2 (agrees_of c o d.there.0 d.line d.there.1))
