-- Of a certificate there is one reason.
use Rattle.std.proofs.Common.{◌≡◌, ℕ, ◌+◌, inl, inr, List, [], ◌∷◌, ◌++◌, refl, sym, ap, subst, ◌∙◌, arith}
use Rattle.std.specs.Prelude.{Option, Some}
use Rattle.cave_model.specs.Cave.{Cave}
use Rattle.cave_model.specs.Least.{IsLeast}
use Rattle.proof_rules.specs.Tree.{Tree, Forest, leaf, weighted, branch, bar, omit, pick, none, more, node_count}
use Rattle.proof_rules.specs.Omitted.{left_without}
use Rattle.proof_rules.specs.Certificate.{Section, Certificate, regions_of}
use Rattle.proof_check.specs.Refused.{IsBadAt, AreBadAt, IsFirstBad, first_weak, start_line, IsReasonOf}
use Rattle.proof_check.specs.declared.reason.Reason.{Reason}
use Rattle.proof_check.specs.declared.reason.Reason.TheVariants.{Syntax, WrongBox, IllegalPlace, LeftDark, BadRegions}
use Rattle.proof_check.specs.declared.reason.Reason.TheVariants.{BadNode, TooWeak}
use Rattle.proof_check.proofs.RefusalLemmas.{open_once, bad_proves_none, first_bad, bad_torch, left_dark, bad_cell}

-- a kind of cell has one least cell
one_least : {LineKind : ℕ → Type 0} {a b : ℕ} → IsLeast LineKind a → IsLeast LineKind b → a ≡ b
one_least {LineKind} {a} {b} p q = omega (arith, p.first b q.is, q.first a p.is)

-- ---- the first bad line

mutual
  one_bad : (cave : Cave) (cells chosen barred : List ℕ) (tree : Tree) (line m n : ℕ)
      → IsBadAt cave cells chosen barred tree line m → IsBadAt cave cells chosen barred tree line n → m ≡ n
  one_bad cave cells chosen barred (leaf these) line m n a b = a.1 ∙ sym b.1
  one_bad cave cells chosen barred (branch cell kids) line m n (inl a) (inl b) = a.1 ∙ sym b.1
  one_bad cave cells chosen barred (branch cell kids) line m n (inl a) (inr b) = absurd (a.0 b.0 b.1)
  one_bad cave cells chosen barred (branch cell kids) line m n (inr a) (inl b) = absurd (b.0 a.0 a.1)
  one_bad cave cells chosen barred (branch cell kids) line m n (inr a) (inr b) =
      one_bad_kid cave cells chosen barred a.0 kids (line + 1) m n a.2
      (subst (λ (ps : List ℕ). AreBadAt cave cells chosen barred ps kids (line + 1) n)
      (open_once cave barred cell b.0 a.0 b.1.1 a.1.1) b.2)
  one_bad cave cells chosen barred (bar place by kid) line m n (inl a) (inl b) = a.1 ∙ sym b.1
  one_bad cave cells chosen barred (bar place by kid) line m n (inl a) (inr b) = absurd (a.0 b.0)
  one_bad cave cells chosen barred (bar place by kid) line m n (inr a) (inl b) = absurd (b.0 a.0)
  one_bad cave cells chosen barred (bar place by kid) line m n (inr a) (inr b) = one_bad cave cells chosen
      (barred ++ place ∷ []) kid (line + 1) m n a.1 b.1
  one_bad cave cells chosen barred (weighted groups) line m n a b = a.1 ∙ sym b.1
  one_bad cave cells chosen barred (omit these kid) line m n (inl a) (inl b) = a.1 ∙ sym b.1
  one_bad cave cells chosen barred (omit these kid) line m n (inl a) (inr b) = absurd (a.0 b.0)
  one_bad cave cells chosen barred (omit these kid) line m n (inr a) (inl b) = absurd (b.0 a.0)
  one_bad cave cells chosen barred (omit these kid) line m n (inr a) (inr b) = one_bad cave (left_without these cells)
      chosen barred kid (line + 1) m n a.1 b.1
  one_bad cave cells chosen barred (pick place with without) line m n (inl a) (inl b) = a.1 ∙ sym b.1
  one_bad cave cells chosen barred (pick place with without) line m n (inl a) (inr b) = absurd (a.0 b.0)
  one_bad cave cells chosen barred (pick place with without) line m n (inr a) (inl b) = absurd (b.0 a.0)
  one_bad cave cells chosen barred (pick place with without) line m n (inr (may, inl a)) (inr (can, inl b)) =
      one_bad cave cells (chosen ++ place ∷ []) barred with (line + 1) m n a b
  one_bad cave cells chosen barred (pick place with without) line m n (inr (may, inl a)) (inr (can, inr b)) =
      absurd (bad_proves_none cave cells (chosen ++ place ∷ []) barred with (line + 1) m 0 a b.0)
  one_bad cave cells chosen barred (pick place with without) line m n (inr (may, inr a)) (inr (can, inl b)) =
      absurd (bad_proves_none cave cells (chosen ++ place ∷ []) barred with (line + 1) n 0 b a.0)
  one_bad cave cells chosen barred (pick place with without) line m n (inr (may, inr a)) (inr (can, inr b)) =
      one_bad cave cells chosen (barred ++ place ∷ []) without (line + 1 + node_count with) m n a.1 b.1

  one_bad_kid : (cave : Cave) (cells chosen barred places : List ℕ) (trees : Forest) (line m n : ℕ)
      → AreBadAt cave cells chosen barred places trees line m
      → AreBadAt cave cells chosen barred places trees line n → m ≡ n
  one_bad_kid cave cells chosen barred [] trees line m n a b = absurd a
  one_bad_kid cave cells chosen barred (p ∷ ps) none line m n a b = absurd a
  one_bad_kid cave cells chosen barred (p ∷ ps) (more k ks) line m n (inl a) (inl b) = one_bad cave cells
      (chosen ++ p ∷ []) barred k line m n a b
  one_bad_kid cave cells chosen barred (p ∷ ps) (more k ks) line m n (inl a) (inr b) =
      absurd (bad_proves_none cave cells (chosen ++ p ∷ []) barred k line m 0 a b.0)
  one_bad_kid cave cells chosen barred (p ∷ ps) (more k ks) line m n (inr a) (inl b) =
      absurd (bad_proves_none cave cells (chosen ++ p ∷ []) barred k line n 0 b a.0)
  one_bad_kid cave cells chosen barred (p ∷ ps) (more k ks) line m n (inr a) (inr b) = one_bad_kid cave cells chosen
      (barred ++ p ∷ []) ps ks (line + node_count k) m n a.1 b.1

-- there is one first bad line
one_first_bad : (cave : Cave) (sections : List Section) (line m n : ℕ) → IsFirstBad cave sections line m
    → IsFirstBad cave sections line n → m ≡ n
one_first_bad cave [] line m n a b = absurd a
one_first_bad cave (s ∷ ss) line m n (inl a) (inl b) = one_bad cave s.cells [] [] s.tree (line + 3) m n a b
one_first_bad cave (s ∷ ss) line m n (inl a) (inr b) =
    absurd (bad_proves_none cave s.cells [] [] s.tree (line + 3) m 0 a b.0)
one_first_bad cave (s ∷ ss) line m n (inr a) (inl b) =
    absurd (bad_proves_none cave s.cells [] [] s.tree (line + 3) n 0 b a.0)
one_first_bad cave (s ∷ ss) line m n (inr a) (inr b) = one_first_bad cave ss (line + 3 + node_count s.tree) m n a.1 b.1

-- one first weak line gives one reason
same_weak : (found : Option ℕ) (a b : ℕ) → found ≡ Some a → found ≡ Some b → TooWeak a ≡ TooWeak b
same_weak found a b e f = cc

-- ---- all reasons

-- any two reasons against a certificate are the same
pub one_reason : (cave : Cave) (c : Certificate) (r s : Reason) → IsReasonOf cave c r → IsReasonOf cave c s → r ≡ s
one_reason cave c (Syntax a) s p q = absurd p
one_reason cave c WrongBox (Syntax b) p q = absurd q
one_reason cave c (IllegalPlace a) (Syntax b) p q = absurd q
one_reason cave c (LeftDark a) (Syntax b) p q = absurd q
one_reason cave c (BadRegions a) (Syntax b) p q = absurd q
one_reason cave c (BadNode a) (Syntax b) p q = absurd q
one_reason cave c (TooWeak a) (Syntax b) p q = absurd q
one_reason cave c WrongBox WrongBox p q = refl
one_reason cave c WrongBox (IllegalPlace b) p q = absurd (p (q.0))
one_reason cave c WrongBox (LeftDark b) p q = absurd (p (q.0.of_cave))
one_reason cave c WrongBox (BadRegions b) p q = absurd (p (q.0.before.of_cave))
one_reason cave c WrongBox (BadNode b) p q = absurd (p (q.0.before.before.of_cave))
one_reason cave c WrongBox (TooWeak b) p q = absurd (p (q.0.before.before.before.of_cave))
one_reason cave c (IllegalPlace a) WrongBox p q = absurd (q (p.0))
one_reason cave c (IllegalPlace a) (IllegalPlace b) p q = ap IllegalPlace (one_least p.1 q.1)
one_reason cave c (IllegalPlace a) (LeftDark b) p q = absurd (bad_torch cave c a p.1.is (q.0.places))
one_reason cave c (IllegalPlace a) (BadRegions b) p q = absurd (bad_torch cave c a p.1.is (q.0.before.places))
one_reason cave c (IllegalPlace a) (BadNode b) p q = absurd (bad_torch cave c a p.1.is (q.0.before.before.places))
one_reason cave c (IllegalPlace a) (TooWeak b) p q =
    absurd (bad_torch cave c a p.1.is (q.0.before.before.before.places))
one_reason cave c (LeftDark a) WrongBox p q = absurd (q (p.0.of_cave))
one_reason cave c (LeftDark a) (IllegalPlace b) p q = absurd (bad_torch cave c b q.1.is (p.0.places))
one_reason cave c (LeftDark a) (LeftDark b) p q = ap LeftDark (one_least p.1 q.1)
one_reason cave c (LeftDark a) (BadRegions b) p q = absurd (left_dark cave c a p.1.is (q.0.lit))
one_reason cave c (LeftDark a) (BadNode b) p q = absurd (left_dark cave c a p.1.is (q.0.before.lit))
one_reason cave c (LeftDark a) (TooWeak b) p q = absurd (left_dark cave c a p.1.is (q.0.before.before.lit))
one_reason cave c (BadRegions a) WrongBox p q = absurd (q (p.0.before.of_cave))
one_reason cave c (BadRegions a) (IllegalPlace b) p q = absurd (bad_torch cave c b q.1.is (p.0.before.places))
one_reason cave c (BadRegions a) (LeftDark b) p q = absurd (left_dark cave c b q.1.is (p.0.lit))
one_reason cave c (BadRegions a) (BadRegions b) p q = ap BadRegions (one_least p.1 q.1)
one_reason cave c (BadRegions a) (BadNode b) p q = absurd (bad_cell cave (regions_of c) a p.1.is (q.0.regions))
one_reason cave c (BadRegions a) (TooWeak b) p q = absurd (bad_cell cave (regions_of c) a p.1.is (q.0.before.regions))
one_reason cave c (BadNode a) WrongBox p q = absurd (q (p.0.before.before.of_cave))
one_reason cave c (BadNode a) (IllegalPlace b) p q = absurd (bad_torch cave c b q.1.is (p.0.before.before.places))
one_reason cave c (BadNode a) (LeftDark b) p q = absurd (left_dark cave c b q.1.is (p.0.before.lit))
one_reason cave c (BadNode a) (BadRegions b) p q = absurd (bad_cell cave (regions_of c) b q.1.is (p.0.regions))
one_reason cave c (BadNode a) (BadNode b) p q = ap BadNode
    (one_first_bad cave c.sections (start_line c.version) a b p.1 q.1)
one_reason cave c (BadNode a) (TooWeak b) p q =
    absurd (first_bad cave (λ section. 0) c.sections (start_line c.version) a p.1 (q.0.nodes))
one_reason cave c (TooWeak a) WrongBox p q = absurd (q (p.0.before.before.before.of_cave))
one_reason cave c (TooWeak a) (IllegalPlace b) p q =
    absurd (bad_torch cave c b q.1.is (p.0.before.before.before.places))
one_reason cave c (TooWeak a) (LeftDark b) p q = absurd (left_dark cave c b q.1.is (p.0.before.before.lit))
one_reason cave c (TooWeak a) (BadRegions b) p q = absurd (bad_cell cave (regions_of c) b q.1.is (p.0.before.regions))
one_reason cave c (TooWeak a) (BadNode b) p q =
    absurd (first_bad cave (λ section. 0) c.sections (start_line c.version) b q.1 (p.0.nodes))
one_reason cave c (TooWeak a) (TooWeak b) p q = same_weak (first_weak c.sections (start_line c.version)) a b p.1 q.1
