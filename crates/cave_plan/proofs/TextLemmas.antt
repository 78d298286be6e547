-- A text is that of one certificate alone.
use Rattle.std.proofs.Common.{◌≡◌, ℕ, ◌≤◌, ◌⊎◌, inl, inr, List, [], ◌∷◌, ◌++◌, length, get_or, All}
use Rattle.std.proofs.Common.{refl, sym, ap, ◌∙◌, arith, append_assoc, append-nil}
use Rattle.std.specs.Prelude.{codes, flat_map, IsTrue}
use Rattle.std.proofs.lemmas.List.Elements.{All-cons, All-head, All-tail}
use Rattle.cave_base.specs.Box.{Point, cell_count, is_small, most_cells}
use Rattle.proof_rules.specs.Tree.{Tree}
use Rattle.proof_rules.specs.Certificate.{Section, Version, first, second, third, fourth, Certificate, IsInRange}
use Rattle.proof_rules.specs.Certificate.{IsSectionIn, IsVersionOf}
use Rattle.proof_rules.specs.Text.{line, tree_lines, section_lines, lines_of, ended, IsTextOf}
use Rattle.certificate_lines.specs.Cuts.{AreClean}
use Rattle.certificate_lines.specs.Numbers.{IsSmall}
use Rattle.certificate_lines.proofs.Feeds.{clean_leads, same_front}
use Rattle.certificate_lines.proofs.Lift.{sides, count_small}
use Rattle.certificate_lines.proofs.Whole.{leads_whole}
use Rattle.certificate_lines.specs.declared.stage.Stage.TheVariants as stage
use Rattle.cave_plan.proofs.NumberLemmas.{same_line, listed_small}
use Rattle.cave_plan.proofs.GroupTextLemmas.{split_lines}
use Rattle.cave_plan.proofs.TreeLemmas.{one_tree, one_small, two_small}

-- ---- lines

-- no line has a line feed in it
clean : (c : Certificate) → IsInRange c → AreClean (lines_of c)
clean c i = clean_leads (lines_of c) stage.Start stage.Done tt (leads_whole c.version c.size c.headroom c.sections i)

-- only no lines end as nothing
no_lines : (lines : List (List ℕ)) → [] ≡ ended lines → lines ≡ []
no_lines [] e = refl
no_lines ([] ∷ lines) e = absurd (cc)
no_lines ((b ∷ l) ∷ lines) e = absurd (cc)

-- a text is that of one list of a certificate's lines
one_text : (a b : Certificate) → IsInRange a → IsInRange b → ended (lines_of a) ≡ ended (lines_of b)
    → lines_of a ≡ lines_of b
one_text a b in_a in_b e =
    let front = same_front (lines_of a) (lines_of b) [] (clean a in_a) (clean b in_b)
    (append-nil (ended (lines_of a)) ∙ e) in
    let none : front.0 ≡ [] = no_lines front.0 front.2 in
    sym (front.1 ∙ ap (λ (ls : List (List ℕ)). lines_of a ++ ls) none ∙ append-nil (lines_of a))

-- ---- sections

-- a region with its torches and its tree
abbrev section : List ℕ → List ℕ → Tree → Section
section cells torches tree = record { cells = cells; torches = torches; tree = tree }

-- regions with the same cells, torches and trees are the same
same_section : (c d t u : List ℕ) (x y : Tree) → c ≡ d → t ≡ u → x ≡ y → section c t x ≡ section d u y
same_section c d t u x y e f g = cc

module _ (m n : ℕ) (few_m : m ≤ most_cells) (few_n : n ≤ most_cells) where
  -- a region's lines, and what comes behind them
  one_section : (a b : Section) (r s : List (List ℕ)) → IsSectionIn m a → IsSectionIn n b
      → section_lines a ++ r ≡ section_lines b ++ s → (a ≡ b) × (r ≡ s)
  one_section a b r s in_a in_b e =
      let count_a = line (codes "region") (length a.cells ∷ length a.torches ∷ []) in
      let count_b = line (codes "region") (length b.cells ∷ length b.torches ∷ []) in
      let dark_a = line (codes "D") a.cells in
      let dark_b = line (codes "D") b.cells in
      let torches_a = line (codes "T") a.torches in
      let torches_b = line (codes "T") b.torches in
      let rest_a = tree_lines a.tree ++ r in
      let rest_b = tree_lines b.tree ++ s in
      let counts = split_lines count_a count_b (dark_a ∷ torches_a ∷ rest_a) (dark_b ∷ torches_b ∷ rest_b) e in
      let dark = split_lines dark_a dark_b (torches_a ∷ rest_a) (torches_b ∷ rest_b) counts.1 in
      let torches = split_lines torches_a torches_b rest_a rest_b dark.1 in
      let cells : a.cells ≡ b.cells = same_line (codes "D") a.cells b.cells (listed_small m a.cells few_m in_a.dark)
      (listed_small n b.cells few_n in_b.dark) dark.0 in
      let places : a.torches ≡ b.torches = same_line (codes "T") a.torches b.torches
      (listed_small m a.torches few_m in_a.lit_by) (listed_small n b.torches few_n in_b.lit_by) torches.0 in
      let trees = one_tree m n few_m few_n a.tree b.tree r s in_a.proof in_b.proof torches.1 in
      (same_section a.cells b.cells a.torches b.torches a.tree b.tree cells places trees.0, trees.1)

  -- the lines of as many regions, and what comes behind them
  one_part : (a b : List Section) (r s : List (List ℕ)) → length a ≡ length b → All (IsSectionIn m) a
      → All (IsSectionIn n) b → flat_map section_lines a ++ r ≡ flat_map section_lines b ++ s → (a ≡ b)
  one_part [] [] r s many in_a in_b e = refl
  one_part [] (y ∷ ys) r s many in_a in_b e = absurd (omega arith)
  one_part (x ∷ xs) [] r s many in_a in_b e = absurd (omega arith)
  one_part (x ∷ xs) (y ∷ ys) r s many in_a in_b e =
      let f = append_assoc (section_lines x) (flat_map section_lines xs) r in
      let g = append_assoc (section_lines y) (flat_map section_lines ys) s in
      let here = one_section x y (flat_map section_lines xs ++ r) (flat_map section_lines ys ++ s)
      (All-head (IsSectionIn m) x xs in_a) (All-head (IsSectionIn n) y ys in_b) (sym f ∙ e ∙ g) in
      let fewer : length xs ≡ length ys = omega arith in
      let rest : xs ≡ ys = one_part xs ys r s fewer (All-tail (IsSectionIn m) x xs in_a)
      (All-tail (IsSectionIn n) y ys in_b) here.1 in
      let this = here.0 in
      cc

-- ---- the whole

-- the sides of a box
sides_small : (size : Point) → IsTrue (is_small size) → All IsSmall (size.x ∷ size.y ∷ size.z ∷ [])
sides_small size small =
    let h = sides size small in
    All-cons IsSmall size.x (size.y ∷ size.z ∷ []) (omega (arith, h.0))
    (two_small size.y size.z (omega (arith, h.1)) (omega (arith, h.2)))

-- a headroom
ruled_small : (headroom : ℕ) → (headroom ≡ 1) ⊎ (headroom ≡ 2) → headroom ≤ most_cells
ruled_small headroom (inl e) = omega arith
ruled_small headroom (inr e) = omega arith

-- a need
need_small : (need : ℕ) → (need ≡ 1) ⊎ (need ≡ 8) → need ≤ most_cells
need_small need (inl e) = omega arith
need_small need (inr e) = omega arith

-- lines from the number of regions on
abbrev regions_on : List Section → List (List ℕ)
regions_on sections = line (codes "regions") (length sections ∷ []) ∷ (flat_map section_lines sections
    ++ codes "end" ∷ [])

-- the regions, from the lines from their number on
same_regions : (a b : Certificate) → IsInRange a → IsInRange b → regions_on a.sections ≡ regions_on b.sections
    → a.sections ≡ b.sections
same_regions a b in_a in_b e =
    let few_a = count_small a.size in_a.small in
    let few_b = count_small b.size in_b.small in
    let l = split_lines (line (codes "regions") (length a.sections ∷ []))
    (line (codes "regions") (length b.sections ∷ []))
    (flat_map section_lines a.sections ++ codes "end" ∷ []) (flat_map section_lines b.sections ++ codes "end" ∷ []) e in
    let numbers : length a.sections ∷ [] ≡ length b.sections ∷ [] =
    same_line (codes "regions") (length a.sections ∷ []) (length b.sections ∷ [])
    (one_small (length a.sections) (let h = in_a.few in omega arith))
    (one_small (length b.sections) (let h = in_b.few in omega arith)) l.0 in
    let many : length a.sections ≡ length b.sections = cc in
    one_part (cell_count a.size) (cell_count b.size) few_a few_b a.sections b.sections (codes "end" ∷ [])
    (codes "end" ∷ []) many in_a.each in_b.each l.1

abbrev box_line : Certificate → List ℕ
box_line c = line (codes "box") (c.size.x ∷ c.size.y ∷ c.size.z ∷ [])

abbrev headroom_line : Certificate → List ℕ
headroom_line c = line (codes "headroom") (c.headroom ∷ [])

-- a box of these sides
abbrev size_of : ℕ → ℕ → ℕ → Point
size_of x y z = record { x = x; y = y; z = z }

-- boxes with the same sides are the same
same_size : (x u y v z w : ℕ) → x ≡ u → y ≡ v → z ≡ w → size_of x y z ≡ size_of u v w
same_size x u y v z w e f g = cc

-- box and headroom, from their lines
same_head : (a b : Certificate) → IsInRange a → IsInRange b → box_line a ≡ box_line b
    → headroom_line a ≡ headroom_line b → (a.size ≡ b.size) × (a.headroom ≡ b.headroom)
same_head a b in_a in_b box headroom =
    let sides : a.size.x ∷ a.size.y ∷ a.size.z ∷ [] ≡ b.size.x ∷ b.size.y ∷ b.size.z ∷ [] =
    same_line (codes "box") (a.size.x ∷ a.size.y ∷ a.size.z ∷ []) (b.size.x ∷ b.size.y ∷ b.size.z ∷ [])
    (sides_small a.size in_a.small) (sides_small b.size in_b.small) box in
    let x : a.size.x ≡ b.size.x = cc in
    let y : a.size.y ≡ b.size.y = cc in
    let z : a.size.z ≡ b.size.z = cc in
    let rooms : a.headroom ∷ [] ≡ b.headroom ∷ [] = same_line (codes "headroom") (a.headroom ∷ []) (b.headroom ∷ [])
    (one_small a.headroom (ruled_small a.headroom in_a.ruled))
    (one_small b.headroom (ruled_small b.headroom in_b.ruled)) headroom in
    let room : a.headroom ≡ b.headroom = cc in
    (same_size a.size.x b.size.x a.size.y b.size.y a.size.z b.size.z x y z, room)

-- the lines behind the first
abbrev behind_first : Certificate → List (List ℕ)
behind_first c = box_line c ∷ headroom_line c ∷ regions_on c.sections

abbrev behind_later : ℕ → Certificate → List (List ℕ)
behind_later need c = box_line c ∷ headroom_line c ∷ line (codes "need") (need ∷ []) ∷ regions_on c.sections

-- a whole certificate
abbrev certificate : Version → Point → ℕ → List Section → Certificate
certificate version size headroom sections =
    record { version = version; size = size; headroom = headroom; sections = sections }

-- certificates with the same parts are the same
same_certificate : (v w : Version) (s t : Point) (h k : ℕ) (xs ys : List Section) → v ≡ w → s ≡ t → h ≡ k → xs ≡ ys
    → certificate v s h xs ≡ certificate w t k ys
same_certificate v w s t h k xs ys e f g i = cc

-- the first versions
same_first : (a b : Certificate) → IsInRange a → IsInRange b → behind_first a ≡ behind_first b
    → (a.size ≡ b.size) × (a.headroom ≡ b.headroom) × (a.sections ≡ b.sections)
same_first a b in_a in_b e =
    let box = split_lines (box_line a) (box_line b) (headroom_line a ∷ regions_on a.sections)
    (headroom_line b ∷ regions_on b.sections) e in
    let room = split_lines (headroom_line a) (headroom_line b) (regions_on a.sections) (regions_on b.sections) box.1 in
    let head = same_head a b in_a in_b box.0 room.0 in
    (head.0, head.1, same_regions a b in_a in_b room.1)

-- the later versions, which have a line for the need
same_later : (a b : Certificate) (h k : ℕ) → (h ≡ 1) ⊎ (h ≡ 8) → (k ≡ 1) ⊎ (k ≡ 8) → IsInRange a → IsInRange b
    → behind_later h a ≡ behind_later k b
    → (h ≡ k) × (a.size ≡ b.size) × (a.headroom ≡ b.headroom) × (a.sections ≡ b.sections)
same_later a b h k is_h is_k in_a in_b e =
    let need_h = line (codes "need") (h ∷ []) in
    let need_k = line (codes "need") (k ∷ []) in
    let box = split_lines (box_line a) (box_line b) (headroom_line a ∷ need_h ∷ regions_on a.sections)
    (headroom_line b ∷ need_k ∷ regions_on b.sections) e in
    let room = split_lines (headroom_line a) (headroom_line b) (need_h ∷ regions_on a.sections)
    (need_k ∷ regions_on b.sections) box.1 in
    let need = split_lines need_h need_k (regions_on a.sections) (regions_on b.sections) room.1 in
    let needs : h ∷ [] ≡ k ∷ [] = same_line (codes "need") (h ∷ []) (k ∷ []) (one_small h (need_small h is_h))
    (one_small k (need_small k is_k)) need.0 in
    let same : h ≡ k = cc in
    let head = same_head a b in_a in_b box.0 room.0 in
    (same, head.0, head.1, same_regions a b in_a in_b need.1)

-- two versions begin otherwise
apart : (v w : List ℕ) (r s : List (List ℕ)) → (get_or v 11 0 ≡ get_or w 11 0 → ⊥) → v ∷ r ≡ w ∷ s → ⊥
apart v w r s other e =
    let l = split_lines v w r s e in
    other (ap (λ (text : List ℕ). get_or text 11 0) l.0)

-- one certificate has these lines
same : (v w : Version) (a b : Certificate) → a.version ≡ v → b.version ≡ w → IsVersionOf a.sections v
    → IsVersionOf b.sections w → IsInRange a → IsInRange b
    → lines_of (certificate v a.size a.headroom a.sections) ≡ lines_of (certificate w b.size b.headroom b.sections)
    → a ≡ b
same first first a b v w is_a is_b in_a in_b e =
    let l = split_lines (codes "torchproof 1") (codes "torchproof 1") (behind_first a) (behind_first b) e in
    let s = same_first a b in_a in_b l.1 in
    same_certificate a.version b.version a.size b.size a.headroom b.headroom a.sections b.sections (v ∙ sym w)
    s.0 s.1 s.2
same first (second k) a b v w is_a is_b in_a in_b e =
    absurd (apart (codes "torchproof 1") (codes "torchproof 2") (behind_first a) (behind_later k b) (λ f. omega arith)
    e)
same first (third k) a b v w is_a is_b in_a in_b e =
    absurd (apart (codes "torchproof 1") (codes "torchproof 3") (behind_first a) (behind_later k b) (λ f. omega arith)
    e)
same first (fourth k) a b v w is_a is_b in_a in_b e =
    absurd (apart (codes "torchproof 1") (codes "torchproof 4") (behind_first a) (behind_later k b) (λ f. omega arith)
    e)
same (second h) first a b v w is_a is_b in_a in_b e =
    absurd (apart (codes "torchproof 2") (codes "torchproof 1") (behind_later h a) (behind_first b) (λ f. omega arith)
    e)
same (second h) (second k) a b v w is_a is_b in_a in_b e =
    let l = split_lines (codes "torchproof 2") (codes "torchproof 2") (behind_later h a) (behind_later k b) e in
    let s = same_later a b h k is_a.needed is_b.needed in_a in_b l.1 in
    same_certificate a.version b.version a.size b.size a.headroom b.headroom a.sections b.sections
    (v ∙ ap second s.0 ∙ sym w) s.1 s.2 s.3
same (second h) (third k) a b v w is_a is_b in_a in_b e =
    absurd (apart (codes "torchproof 2") (codes "torchproof 3") (behind_later h a) (behind_later k b) (λ f. omega arith)
    e)
same (second h) (fourth k) a b v w is_a is_b in_a in_b e =
    absurd (apart (codes "torchproof 2") (codes "torchproof 4") (behind_later h a) (behind_later k b) (λ f. omega arith)
    e)
same (third h) first a b v w is_a is_b in_a in_b e =
    absurd (apart (codes "torchproof 3") (codes "torchproof 1") (behind_later h a) (behind_first b) (λ f. omega arith)
    e)
same (third h) (second k) a b v w is_a is_b in_a in_b e =
    absurd (apart (codes "torchproof 3") (codes "torchproof 2") (behind_later h a) (behind_later k b) (λ f. omega arith)
    e)
same (third h) (third k) a b v w is_a is_b in_a in_b e =
    let l = split_lines (codes "torchproof 3") (codes "torchproof 3") (behind_later h a) (behind_later k b) e in
    let s = same_later a b h k is_a.needed is_b.needed in_a in_b l.1 in
    same_certificate a.version b.version a.size b.size a.headroom b.headroom a.sections b.sections
    (v ∙ ap third s.0 ∙ sym w) s.1 s.2 s.3
same (third h) (fourth k) a b v w is_a is_b in_a in_b e =
    absurd (apart (codes "torchproof 3") (codes "torchproof 4") (behind_later h a) (behind_later k b) (λ f. omega arith)
    e)
same (fourth h) first a b v w is_a is_b in_a in_b e =
    absurd (apart (codes "torchproof 4") (codes "torchproof 1") (behind_later h a) (behind_first b) (λ f. omega arith)
    e)
same (fourth h) (second k) a b v w is_a is_b in_a in_b e =
    absurd (apart (codes "torchproof 4") (codes "torchproof 2") (behind_later h a) (behind_later k b) (λ f. omega arith)
    e)
same (fourth h) (third k) a b v w is_a is_b in_a in_b e =
    absurd (apart (codes "torchproof 4") (codes "torchproof 3") (behind_later h a) (behind_later k b) (λ f. omega arith)
    e)
same (fourth h) (fourth k) a b v w is_a is_b in_a in_b e =
    let l = split_lines (codes "torchproof 4") (codes "torchproof 4") (behind_later h a) (behind_later k b) e in
    let s = same_later a b h k is_a.needed is_b.needed in_a in_b l.1 in
    same_certificate a.version b.version a.size b.size a.headroom b.headroom a.sections b.sections
    (v ∙ ap fourth s.0 ∙ sym w) s.1 s.2 s.3

-- one certificate has this text
pub one_certificate : (text : List ℕ) (a b : Certificate) → IsTextOf text a → IsTextOf text b → a ≡ b
one_certificate text a b is_a is_b =
    same a.version b.version a b refl refl is_a.in_range.versioned is_b.in_range.versioned is_a.in_range is_b.in_range
    (one_text a b is_a.in_range is_b.in_range (sym is_a.text ∙ is_b.text))
