-- What the lines of a certificate say, and that no other lines say it.
use Rattle.std.proofs.Common.{◌≡◌, ℕ, ◌<◌, ◌≤◌, ◌⊎◌, inl, inr, List, [], ◌∷◌, ◌++◌, length, get_or, map, All, refl}
use Rattle.std.proofs.Common.{sym, ap, subst, ◌∙◌, arith, append_assoc}
use Rattle.std.specs.Prelude.{Bool, true, false, codes, flat_map, nat_eq, if◌then◌else◌}
use Rattle.std.proofs.lemmas.List.Elements.{All-nil, All-cons, All-head, All-tail}
use Rattle.proof_rules.specs.Tree.{Tree, Forest, leaf, weighted, branch, bar, omit, pick, none, more, tree_count}
use Rattle.proof_rules.specs.Certificate.{Section, Version, first, second, third, fourth, Certificate, AreListed}
use Rattle.proof_rules.specs.Certificate.{IsTreeIn, AreTreesIn, IsSectionIn, IsInRange, IsVersionOf}
use Rattle.proof_rules.specs.Text.{line, group_line, tree_lines, forest_lines, section_lines, lines_of}
use Rattle.certificate_lines.specs.Numbers.{IsSmall}
use Rattle.certificate_lines.specs.Decides.{IsLineOf}
use Rattle.certificate_lines.specs.Kinds.{word_of}
use Rattle.certificate_lines.specs.Said.{Said, said, text_of, group_said, tree_said, forest_said, section_said, said_of}
use Rattle.certificate_lines.specs.Said.{AreSaid}
use Rattle.certificate_lines.specs.Orders.{is_dark, IsOrdered}
use Rattle.certificate_lines.proofs.OrderLemmas.{said_ordered}
use Rattle.certificate_lines.proofs.Complete.{listed_few, groups_few, all_cells_head, all_cells_tail}
use Rattle.proof_rules.specs.declared.groups.Group.{Group}
use Rattle.proof_rules.specs.Groups.{all_cells_of, IsGroup}
use Rattle.cave_base.specs.Box.{cell_count, most_cells}
use Rattle.certificate_lines.proofs.Lift.{sides, count_small, group_numbers_small}
use Rattle.certificate_lines.proofs.Whole.{magic_first, magic_second, magic_third, magic_fourth}
use Rattle.certificate_lines.specs.declared.kind.LineKind.{LineKind}
use Rattle.certificate_lines.specs.declared.kind.LineKind.TheVariants as kind

-- ---- the kind of a line, by two of its bytes

-- a number for each kind, and one for the two with the same word
code_of : LineKind → ℕ
code_of kind.Version = 116
code_of kind.Size = 98
code_of kind.Headroom = 104
code_of kind.Need = 110
code_of kind.Regions = 115
code_of kind.Region = 114
code_of kind.Dark = 68
code_of kind.Torches = 84
code_of kind.Leaf = 76
code_of kind.Branch = 66
code_of kind.Bar = 69
code_of kind.Weighted = 87
code_of kind.Group = 71
code_of kind.Omit = 68
code_of kind.Pick = 80
code_of kind.End = 101

-- the kind of such a number, if it is that of dark cells or isn't
from_code : Bool → ℕ → LineKind
from_code true n = kind.Dark
from_code false n =
    if nat_eq n 116 then kind.Version else
    if nat_eq n 98 then kind.Size else
    if nat_eq n 104 then kind.Headroom else
    if nat_eq n 110 then kind.Need else
    if nat_eq n 115 then kind.Regions else
    if nat_eq n 114 then kind.Region else
    if nat_eq n 84 then kind.Torches else
    if nat_eq n 76 then kind.Leaf else
    if nat_eq n 66 then kind.Branch else
    if nat_eq n 69 then kind.Bar else
    if nat_eq n 87 then kind.Weighted else
    if nat_eq n 71 then kind.Group else
    if nat_eq n 68 then kind.Omit else
    if nat_eq n 80 then kind.Pick else
    kind.End

-- the number of the kind whose line begins with these bytes
code_at : List ℕ → ℕ
code_at text = if nat_eq (get_or text 0 0) 114 then (if nat_eq (get_or text 6 0) 115 then 115 else 114)
    else get_or text 0 0

-- the bytes of a line tell the number of its kind
coded : (k : LineKind) (numbers : List ℕ) → code_at (line (word_of k) numbers) ≡ code_of k
unfolding code_at code_of
coded kind.Version numbers = refl
coded kind.Size numbers = refl
coded kind.Headroom numbers = refl
coded kind.Need numbers = refl
coded kind.Regions numbers = refl
coded kind.Region [] = refl
coded kind.Region (n ∷ numbers) = refl
coded kind.Dark numbers = refl
coded kind.Torches numbers = refl
coded kind.Leaf numbers = refl
coded kind.Branch numbers = refl
coded kind.Bar numbers = refl
coded kind.Weighted numbers = refl
coded kind.Group numbers = refl
coded kind.Omit numbers = refl
coded kind.Pick numbers = refl
coded kind.End numbers = refl

-- the number of a kind tells the kind, if it is told whether it is that of dark cells
back : (k : LineKind) → from_code (is_dark k) (code_of k) ≡ k
unfolding from_code code_of
back kind.Version = refl
back kind.Size = refl
back kind.Headroom = refl
back kind.Need = refl
back kind.Regions = refl
back kind.Region = refl
back kind.Dark = refl
back kind.Torches = refl
back kind.Leaf = refl
back kind.Branch = refl
back kind.Bar = refl
back kind.Weighted = refl
back kind.Group = refl
back kind.Omit = refl
back kind.Pick = refl
back kind.End = refl

-- lines with the same text are of one kind, if both are those of dark cells or neither is
one_kind : (j k : LineKind) (a b : List ℕ) → is_dark j ≡ is_dark k → line (word_of j) a ≡ line (word_of k) b → j ≡ k
one_kind j k a b d e = sym (back j) ∙ ap (λ (x : Bool). from_code x (code_of j)) d
    ∙ ap (from_code (is_dark k)) (sym (coded j a) ∙ ap code_at e ∙ coded k b) ∙ back k

-- ---- one meaning

-- the numbers of all lines are small
AreAllSmall : List Said → Type 0
AreAllSmall all = All (λ s. All IsSmall s.numbers) all

-- of the same kind, the same numbers say the same
same_said : (j k : LineKind) (a b : List ℕ) → j ≡ k → a ≡ b → said j a ≡ said k b
same_said j k a b e f = cc

-- lines say one thing, where those of dark cells stand in order
pub one_said : (before : LineKind) (lines : List (List ℕ)) (all others : List Said) → AreSaid lines all
    → IsOrdered before all → IsOrdered before others
    → All (λ s. All IsSmall s.numbers) others → lines ≡ map text_of others → others ≡ all
one_said before [] [] [] a p q small e = refl
one_said before [] [] (o ∷ os) a p q small e = absurd cc
one_said before [] (s ∷ all) others a p q small e = absurd a
one_said before (t ∷ ts) [] others a p q small e = absurd a
one_said before (t ∷ ts) (s ∷ all) [] a p q small e = absurd cc
one_said before (t ∷ ts) (s ∷ all) (o ∷ os) a p q small e =
    let here : t ≡ text_of o = cc in
    let later : ts ≡ map text_of os = cc in
    let kinds : o.kind ≡ s.kind = one_kind o.kind s.kind o.numbers s.numbers (q.0 ∙ sym p.0) (sym here ∙ a.0.is) in
    let numbers : o.numbers ≡ s.numbers = a.0.only o.numbers (All-head (λ (s : Said). All IsSmall s.numbers) o os small)
    (here ∙ ap (λ (k : LineKind). line (word_of k) o.numbers) kinds) in
    let rest : os ≡ all = one_said s.kind ts all os a.1 p.1 (subst (λ (k : LineKind). IsOrdered k os) kinds q.1)
    (All-tail (λ (s : Said). All IsSmall s.numbers) o os small) later in
    let first : o ≡ s = same_said o.kind s.kind o.numbers s.numbers kinds numbers in
    cc

-- a line more says its kind and its numbers
pub said_push : (lines : List (List ℕ)) (all : List Said) (text : List ℕ) (k : LineKind) (numbers : List ℕ)
    → AreSaid lines all → IsLineOf text (word_of k) numbers → AreSaid (lines ++ text ∷ []) (all ++ said k numbers ∷ [])
said_push [] [] text k numbers a l = (l, tt)
said_push [] (s ∷ all) text k numbers a l = absurd a
said_push (t ∷ ts) [] text k numbers a l = absurd a
said_push (t ∷ ts) (s ∷ all) text k numbers a l = (a.0, said_push ts all text k numbers a.1 l)

-- as many lines as things said
pub said_many : (lines : List (List ℕ)) (all : List Said) → AreSaid lines all → length lines ≡ length all
said_many [] [] a = refl
said_many [] (s ∷ all) a = absurd a
said_many (t ∷ ts) [] a = absurd a
said_many (t ∷ ts) (s ∷ all) a = (let e = said_many ts all a.1 in omega arith)

-- ---- the lines of a certificate

-- the text of lines before and after is that of all
map_on : (xs ys : List Said) → map text_of (xs ++ ys) ≡ map text_of xs ++ map text_of ys
map_on [] ys = refl
map_on (x ∷ xs) ys = ap (λ (l : List (List ℕ)). text_of x ∷ l) (map_on xs ys)

-- what groups say is written as their lines
groups_text : (gs : List Group) → map text_of (map group_said gs) ≡ map group_line gs
groups_text [] = refl
groups_text (g ∷ gs) = ap (λ (l : List (List ℕ)). group_line g ∷ l) (groups_text gs)

mutual
  tree_text : (t : Tree) → map text_of (tree_said t) ≡ tree_lines t
  tree_text (leaf cells) = refl
  tree_text (branch cell kids) = ap (λ (l : List (List ℕ)). line (codes "B") (cell ∷ tree_count kids ∷ []) ∷ l)
      (forest_text kids)
  tree_text (bar place by kid) = ap (λ (l : List (List ℕ)). line (codes "E") (place ∷ by ∷ []) ∷ l) (tree_text kid)
  tree_text (weighted groups) = ap (λ (l : List (List ℕ)). line (codes "W") (length groups ∷ []) ∷ l)
      (groups_text groups)
  tree_text (omit cells kid) = ap (λ (l : List (List ℕ)). line (codes "D") (length cells ∷ cells) ∷ l) (tree_text kid)
  tree_text (pick place with without) = ap (λ (l : List (List ℕ)). line (codes "P") (place ∷ []) ∷ l)
      (map_on (tree_said with) (tree_said without)
      ∙ (let a = tree_text with in let b = tree_text without in cc))

  forest_text : (ts : Forest) → map text_of (forest_said ts) ≡ forest_lines ts
  forest_text none = refl
  forest_text (more t ts) = map_on (tree_said t) (forest_said ts)
      ∙ (let a = tree_text t in let b = forest_text ts in cc)

-- what a section says is written as its lines
section_text : (s : Section) → map text_of (section_said s) ≡ section_lines s
section_text s = (let a = tree_text s.tree in cc)

-- what all sections say is written as their lines, with the end
sections_text : (ss : List Section)
    → map text_of (flat_map section_said ss ++ said kind.End [] ∷ []) ≡ flat_map section_lines ss ++ codes "end" ∷ []
sections_text [] = refl
sections_text (s ∷ ss) =
    ap (map text_of) (append_assoc (section_said s) (flat_map section_said ss) (said kind.End [] ∷ []))
    ∙ map_on (section_said s) (flat_map section_said ss ++ said kind.End [] ∷ [])
    ∙ (let a = section_text s in let b = sections_text ss in
    let c = append_assoc (section_lines s) (flat_map section_lines ss) (codes "end" ∷ []) in cc)

-- what a certificate says is written as its lines
pub said_text : (c : Certificate) → map text_of (said_of c) ≡ lines_of c
said_text c = go c.version where
  rest : map text_of (flat_map section_said c.sections ++ said kind.End [] ∷ []) ≡ flat_map section_lines
      c.sections ++ codes "end" ∷ []
  rest = sections_text c.sections

  -- with a need
  later : (n need : ℕ) (t : List ℕ) → line (codes "torchproof") (n ∷ []) ≡ t
      → map text_of (said kind.Version (n ∷ []) ∷ said kind.Size (c.size.x ∷ c.size.y ∷ c.size.z ∷ [])
      ∷ said kind.Headroom (c.headroom ∷ []) ∷ said kind.Need (need ∷ [])
      ∷ said kind.Regions (length c.sections ∷ []) ∷ (flat_map section_said c.sections ++ said kind.End [] ∷ []))
      ≡ t ∷ line (codes "box") (c.size.x ∷ c.size.y ∷ c.size.z ∷ []) ∷ line (codes "headroom") (c.headroom ∷ [])
      ∷ line (codes "need") (need ∷ []) ∷ line (codes "regions") (length c.sections ∷ [])
      ∷ (flat_map section_lines c.sections ++ codes "end" ∷ [])
  later n need t e = ap (λ (l : List (List ℕ)). line (codes "torchproof") (n ∷ []) ∷ line (codes "box")
      (c.size.x ∷ c.size.y ∷ c.size.z ∷ []) ∷ line (codes "headroom") (c.headroom ∷ []) ∷ line (codes "need")
      (need ∷ []) ∷ line (codes "regions") (length c.sections ∷ []) ∷ l) rest
      ∙ ap (λ (t : List ℕ). t ∷ line (codes "box") (c.size.x ∷ c.size.y ∷ c.size.z ∷ []) ∷ line (codes "headroom")
      (c.headroom ∷ []) ∷ line (codes "need") (need ∷ []) ∷ line (codes "regions")
      (length c.sections ∷ []) ∷ (flat_map section_lines c.sections ++ codes "end" ∷ [])) e

  go : (v : Version) → map text_of (said_of (record c { version = v })) ≡ lines_of (record c { version = v })
  go first = ap (λ (l : List (List ℕ)). line (codes "torchproof") (1 ∷ []) ∷ line (codes "box")
      (c.size.x ∷ c.size.y ∷ c.size.z ∷ []) ∷ line (codes "headroom") (c.headroom ∷ []) ∷ line (codes "regions")
      (length c.sections ∷ []) ∷ l) rest
      ∙ ap (λ (t : List ℕ). t ∷ line (codes "box") (c.size.x ∷ c.size.y ∷ c.size.z ∷ []) ∷ line (codes "headroom")
      (c.headroom ∷ []) ∷ line (codes "regions")
      (length c.sections ∷ []) ∷ (flat_map section_lines c.sections ++ codes "end" ∷ [])) magic_first
  go (second need) = later 2 need (codes "torchproof 2") magic_second
  go (third need) = later 3 need (codes "torchproof 3") magic_third
  go (fourth need) = later 4 need (codes "torchproof 4") magic_fourth

-- ---- its numbers are small

-- small numbers before and after are small together
small_on : (xs ys : List Said) → AreAllSmall xs → AreAllSmall ys → AreAllSmall (xs ++ ys)
unfolding AreAllSmall
small_on [] ys a b = b
small_on (x ∷ xs) ys a b = All-cons (λ (s : Said). All IsSmall s.numbers) x (xs ++ ys)
    (All-head (λ (s : Said). All IsSmall s.numbers) x xs a)
    (small_on xs ys (All-tail (λ (s : Said). All IsSmall s.numbers) x xs a) b)

-- a line with small numbers more
small_cons : (s : Said) (all : List Said) → All IsSmall s.numbers → AreAllSmall all → AreAllSmall (s ∷ all)
unfolding AreAllSmall
small_cons s all h a = All-cons (λ (s : Said). All IsSmall s.numbers) s all h a

-- of no lines all numbers are small
small_nil : AreAllSmall []
unfolding AreAllSmall
small_nil = All-nil (λ (s : Said). All IsSmall s.numbers)

-- two small numbers
pair : (a b : ℕ) → a ≤ most_cells → b ≤ most_cells → All IsSmall (a ∷ b ∷ [])
pair a b h i = All-cons IsSmall a (b ∷ []) (omega arith) (All-cons IsSmall b [] (omega arith) (All-nil IsSmall))

-- one small number
one : (a : ℕ) → a ≤ most_cells → All IsSmall (a ∷ [])
one a h = All-cons IsSmall a [] (omega arith) (All-nil IsSmall)

module _ (count : ℕ) (few : count ≤ most_cells) where
  listed_small : (cells : List ℕ) → AreListed count cells → All IsSmall cells
  listed_small cells a = λ k d h. (let b = a.below k d h in omega arith)

  groups_small : (gs : List Group) → All IsGroup gs → All (λ cell. cell < count) (all_cells_of gs)
      → AreAllSmall (map group_said gs)
  groups_small [] f b = small_nil
  groups_small (g ∷ gs) f b = small_cons (group_said g) (map group_said gs)
      (group_numbers_small count g few (All-head IsGroup g gs f)
      (all_cells_head (λ (cell : ℕ). cell < count) g gs b))
      (groups_small gs (All-tail IsGroup g gs f) (all_cells_tail (λ (cell : ℕ). cell < count) g gs b))

  mutual
    tree_small : (t : Tree) → IsTreeIn count t → AreAllSmall (tree_said t)
    tree_small (leaf cells) i = small_cons (said kind.Leaf (length cells ∷ cells)) []
        (All-cons IsSmall (length cells) cells (let h = listed_few count cells i in omega arith) (listed_small cells i))
        small_nil
    tree_small (branch cell kids) i = small_cons (said kind.Branch (cell ∷ tree_count kids ∷ [])) (forest_said kids)
        (pair cell (tree_count kids) (let h = i.0 in omega arith) (let h = i.1 in omega arith)) (forest_small kids i.2)
    tree_small (bar place by kid) i = small_cons (said kind.Bar (place ∷ by ∷ [])) (tree_said kid)
        (pair place by (let h = i.0 in omega arith) (let h = i.1 in omega arith)) (tree_small kid i.2)
    tree_small (weighted groups) i =
        let f = i.groups_are in
        small_cons (said kind.Weighted (length groups ∷ [])) (map group_said groups)
        (one (length groups) (let h = groups_few count groups i in omega arith))
        (groups_small groups f.each i.below)
    tree_small (omit cells kid) i = small_cons (said kind.Omit (length cells ∷ cells)) (tree_said kid)
        (All-cons IsSmall (length cells) cells (let h = listed_few count cells i.0 in omega arith)
        (listed_small cells i.0))
        (tree_small kid i.2)
    tree_small (pick place with without) i = small_cons (said kind.Pick (place ∷ []))
        (tree_said with ++ tree_said without) (one place (let h = i.0 in omega arith))
        (small_on (tree_said with) (tree_said without) (tree_small with i.1) (tree_small without i.2))

    forest_small : (ts : Forest) → AreTreesIn count ts → AreAllSmall (forest_said ts)
    forest_small none i = small_nil
    forest_small (more t ts) i = small_on (tree_said t) (forest_said ts) (tree_small t i.0) (forest_small ts i.1)

  section_small : (s : Section) → IsSectionIn count s → AreAllSmall (section_said s)
  section_small s i =
      let a = listed_few count s.cells i.dark in
      let b = listed_few count s.torches i.lit_by in
      small_cons (said kind.Region (length s.cells ∷ length s.torches ∷ []))
      (said kind.Dark s.cells ∷ said kind.Torches s.torches ∷ tree_said s.tree)
      (pair (length s.cells) (length s.torches) (omega arith) (omega arith))
      (small_cons (said kind.Dark s.cells) (said kind.Torches s.torches ∷ tree_said s.tree)
      (listed_small s.cells i.dark)
      (small_cons (said kind.Torches s.torches) (tree_said s.tree) (listed_small s.torches i.lit_by)
      (tree_small s.tree i.proof)))

  sections_small : (ss : List Section) → All (IsSectionIn count) ss
      → AreAllSmall (flat_map section_said ss ++ said kind.End [] ∷ [])
  sections_small [] a = small_cons (said kind.End []) [] (All-nil IsSmall) small_nil
  sections_small (s ∷ ss) a = subst AreAllSmall
      (sym (append_assoc (section_said s) (flat_map section_said ss) (said kind.End [] ∷ [])))
      (small_on (section_said s) (flat_map section_said ss ++ said kind.End [] ∷ [])
      (section_small s (All-head (IsSectionIn count) s ss a))
      (sections_small ss (All-tail (IsSectionIn count) s ss a)))

-- the numbers of a certificate in range are small
pub said_small : (c : Certificate) → IsInRange c → All (λ s. All IsSmall s.numbers) (said_of c)
unfolding AreAllSmall
said_small c i = go c.version i.versioned where
  few : cell_count c.size ≤ most_cells
  few = count_small c.size i.small

  box : All IsSmall (c.size.x ∷ c.size.y ∷ c.size.z ∷ [])
  box = (let h = sides c.size i.small in
      All-cons IsSmall c.size.x (c.size.y ∷ c.size.z ∷ []) (omega (arith, h.0))
      (pair c.size.y c.size.z (omega (arith, h.1)) (omega (arith, h.2))))

  headroom : All IsSmall (c.headroom ∷ [])
  headroom = one c.headroom (elim i.ruled [ inl e ↦ omega arith | inr e ↦ omega arith ])

  rest : AreAllSmall (said kind.Regions (length c.sections ∷ [])
      ∷ (flat_map section_said c.sections ++ said kind.End [] ∷ []))
  rest = small_cons (said kind.Regions (length c.sections ∷ []))
      (flat_map section_said c.sections ++ said kind.End [] ∷ [])
      (one (length c.sections) (let f = i.few in omega (arith, few)))
      (sections_small (cell_count c.size) few c.sections i.each)

  -- with a need
  later : (n need : ℕ) → n ≤ most_cells → (need ≡ 1) ⊎ (need ≡ 8)
      → AreAllSmall (said kind.Version (n ∷ []) ∷ said kind.Size (c.size.x ∷ c.size.y ∷ c.size.z ∷ [])
      ∷ said kind.Headroom (c.headroom ∷ []) ∷ said kind.Need (need ∷ [])
      ∷ said kind.Regions (length c.sections ∷ []) ∷ (flat_map section_said c.sections ++ said kind.End [] ∷ []))
  later n need most needed = small_cons (said kind.Version (n ∷ []))
      (said kind.Size (c.size.x ∷ c.size.y ∷ c.size.z ∷ []) ∷ said kind.Headroom (c.headroom ∷ []) ∷ said
      kind.Need (need ∷ [])
      ∷ (said kind.Regions (length c.sections ∷ []) ∷ (flat_map section_said c.sections ++ said kind.End [] ∷ [])))
      (one n most)
      (small_cons (said kind.Size (c.size.x ∷ c.size.y ∷ c.size.z ∷ []))
      (said kind.Headroom (c.headroom ∷ []) ∷ said kind.Need (need ∷ [])
      ∷ (said kind.Regions (length c.sections ∷ [])
      ∷ (flat_map section_said c.sections ++ said kind.End [] ∷ []))) box
      (small_cons (said kind.Headroom (c.headroom ∷ []))
      (said kind.Need (need ∷ [])
      ∷ (said kind.Regions (length c.sections ∷ [])
      ∷ (flat_map section_said c.sections ++ said kind.End [] ∷ []))) headroom
      (small_cons (said kind.Need (need ∷ []))
      (said kind.Regions (length c.sections ∷ []) ∷ (flat_map section_said c.sections ++ said kind.End [] ∷ []))
      (one need (elim needed [ inl e ↦ omega arith | inr e ↦ omega arith ])) rest)))

  go : (v : Version) → IsVersionOf c.sections v → AreAllSmall (said_of (record c { version = v }))
  go first h = small_cons (said kind.Version (1 ∷ []))
      (said kind.Size (c.size.x ∷ c.size.y ∷ c.size.z ∷ []) ∷ said kind.Headroom (c.headroom ∷ [])
      ∷ (said kind.Regions (length c.sections ∷ []) ∷ (flat_map section_said c.sections ++ said kind.End [] ∷ [])))
      (one 1 (omega arith))
      (small_cons (said kind.Size (c.size.x ∷ c.size.y ∷ c.size.z ∷ []))
      (said kind.Headroom (c.headroom ∷ [])
      ∷ (said kind.Regions (length c.sections ∷ [])
      ∷ (flat_map section_said c.sections ++ said kind.End [] ∷ []))) box
      (small_cons (said kind.Headroom (c.headroom ∷ []))
      (said kind.Regions (length c.sections ∷ []) ∷ (flat_map section_said c.sections ++ said kind.End [] ∷ []))
      headroom rest))
  go (second need) h = later 2 need (omega arith) h.needed
  go (third need) h = later 3 need (omega arith) h.needed
  go (fourth need) h = later 4 need (omega arith) h.needed

-- the lines of a certificate say what it says
pub said_is : (lines : List (List ℕ)) (all : List Said) (c : Certificate) → AreSaid lines all → IsOrdered kind.End all
    → IsInRange c → lines ≡ lines_of c → all ≡ said_of c
said_is lines all c a o i e = sym (one_said kind.End lines all (said_of c) a o (said_ordered c) (said_small c i)
    (e ∙ sym (said_text c)))
