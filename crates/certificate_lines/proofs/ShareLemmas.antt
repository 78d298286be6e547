-- Cells that ascend, and groups as numbers.
use Rattle.std.proofs.Common.{◌≡◌, ℕ, zero, suc, ◌+◌, ◌*◌, ◌/◌, ◌<◌, ◌≤◌, List, [], ◌∷◌, length, get_or, All}
use Rattle.std.proofs.Common.{refl, sym, subst, ap, arith, ◌∙◌}
use Rattle.std.specs.List.Sorted.{IsStrictlyIncreasing}
use Rattle.std.proofs.lemmas.List.Elements.{All-nil, All-cons, All-head, All-tail}
use Rattle.proof_rules.specs.declared.groups.Share.{Share}
use Rattle.proof_rules.specs.declared.groups.Group.{Group}
use Rattle.proof_rules.specs.Groups.{most_weight, cells_of}
use Rattle.certificate_lines.specs.Nodes.{group_numbers, first_cell}
use Rattle.certificate_lines.specs.Said.{share_numbers}
use Rattle.certificate_lines.specs.Shares.{AreSharesIn, IsGroupFrom, IsNoGroup}

-- ---- cells that ascend

-- they ascend from this one on
abbrev pub AscendFrom : ℕ → List ℕ → Type 0
AscendFrom from [] = Unit {0}
AscendFrom from (x ∷ xs) = (from ≤ x) × AscendFrom (x + 1) xs

-- the rest of a list that ascends does
increasing_tail : (x : ℕ) (xs : List ℕ) → IsStrictlyIncreasing (x ∷ xs) → IsStrictlyIncreasing xs
increasing_tail x xs h = λ k i.
    let e : suc k + 1 ≡ suc (k + 1) = omega arith in
    let g : get_or (x ∷ xs) (suc k) 0 < get_or (x ∷ xs) (suc k + 1) 0 = h (suc k) (omega arith) in
    subst (λ (j : ℕ). get_or xs k 0 < get_or (x ∷ xs) j 0) e g

pub ascend_from : (xs : List ℕ) (from : ℕ) → IsStrictlyIncreasing xs → (0 < length xs → from ≤ get_or xs 0 0)
    → AscendFrom from xs
ascend_from [] from h l = tt
ascend_from (x ∷ []) from h l = (l (omega arith), tt)
ascend_from (x ∷ y ∷ ys) from h l = (
  l (omega arith),
  ascend_from (y ∷ ys) (x + 1) (increasing_tail x (y ∷ ys) h) (λ s. (let g = h 0 (omega arith) in omega arith)),
)

pub ascend_to : (xs : List ℕ) (from : ℕ) → AscendFrom from xs → IsStrictlyIncreasing xs
ascend_to [] from a = λ k i. absurd (omega arith)
ascend_to (x ∷ []) from a = λ k i. absurd (omega arith)
ascend_to (x ∷ y ∷ ys) from a = go (ascend_to (y ∷ ys) (x + 1) a.1) where
  go : IsStrictlyIncreasing (y ∷ ys) → (k : ℕ) → k + 1 < length (x ∷ y ∷ ys)
      → get_or (x ∷ y ∷ ys) k 0 < get_or (x ∷ y ∷ ys) (k + 1) 0
  go rest zero i = omega (arith, a.1.0)
  go rest (suc k) i =
      let e : suc (k + 1) ≡ suc k + 1 = omega arith in
      subst (λ (j : ℕ). get_or (y ∷ ys) k 0 < get_or (x ∷ y ∷ ys) j 0) e (rest k (omega arith))

-- cells that ascend from one on and are below a count leave as many
pub ascend_few : (count : ℕ) (xs : List ℕ) (from : ℕ) → AscendFrom from xs → All (λ cell. cell < count) xs
    → 0 < length xs → from + length xs ≤ count
ascend_few count [] from a b some = absurd (omega arith)
ascend_few count (x ∷ []) from a b some = omega (arith, a.0, All-head (λ (c : ℕ). c < count) x [] b)
ascend_few count (x ∷ y ∷ ys) from a b some = omega (
  arith,
  a.0,
  ascend_few count (y ∷ ys) (x + 1) a.1 (All-tail (λ (c : ℕ). c < count) x (y ∷ ys) b) (omega arith),
)

-- ---- shares as numbers

pub length-share_numbers : (shares : List Share) → length (share_numbers shares) ≡ 2 * length shares
length-share_numbers [] = refl
length-share_numbers (s ∷ ss) = omega (arith, length-share_numbers ss)

-- the shares that numbers are
record AreThose (count from : ℕ) (numbers : List ℕ) : Type 0 where
  shares : List Share
  is : numbers ≡ share_numbers shares
  ascend : AscendFrom from (cells_of shares)
  below : All (λ cell. cell < count) (cells_of shares)
  weights : All (λ share. 0 < share.weight) shares
  few : All (λ share. share.weight ≤ most_weight) shares

read_shares : (numbers : List ℕ) (count from : ℕ) → AreSharesIn count from numbers → AreThose count from numbers
read_shares [] count from a = record {
  shares = [];
  is = refl;
  ascend = tt;
  below = All-nil (λ (cell : ℕ). cell < count);
  weights = All-nil (λ (share : Share). 0 < share.weight);
  few = All-nil (λ (share : Share). share.weight ≤ most_weight);
}
read_shares (cell ∷ []) count from a = absurd a
read_shares (cell ∷ weight ∷ more) count from a =
    let r = read_shares more count (cell + 1) a.4 in
    let s : Share = record { cell = cell; weight = weight } in
    record {
      shares = s ∷ r.shares;
      is = ap (λ (ns : List ℕ). cell ∷ weight ∷ ns) r.is;
      ascend = (a.0, r.ascend);
      below = All-cons (λ (cell : ℕ). cell < count) cell (cells_of r.shares) a.1 r.below;
      weights = All-cons (λ (share : Share). 0 < share.weight) s r.shares a.2 r.weights;
      few = All-cons (λ (share : Share). share.weight ≤ most_weight) s r.shares a.3 r.few;
    }

write_shares : (shares : List Share) (count from : ℕ) → AscendFrom from (cells_of shares)
    → All (λ cell. cell < count) (cells_of shares) → All (λ share. 0 < share.weight) shares
    → All (λ share. share.weight ≤ most_weight) shares → AreSharesIn count from (share_numbers shares)
write_shares [] count from a b w f = tt
write_shares (s ∷ ss) count from a b w f = (
  a.0,
  All-head (λ (cell : ℕ). cell < count) s.cell (cells_of ss) b,
  All-head (λ (share : Share). 0 < share.weight) s ss w,
  All-head (λ (share : Share). share.weight ≤ most_weight) s ss f,
  write_shares ss count (s.cell + 1) a.1 (All-tail (λ (cell : ℕ). cell < count) s.cell (cells_of ss) b)
      (All-tail (λ (share : Share). 0 < share.weight) s ss w)
      (All-tail (λ (share : Share). share.weight ≤ most_weight) s ss f),
)

-- ---- a group as numbers

-- the third number is the first cell
pub first_number : (group : Group) → 0 < length group.shares → get_or (group_numbers group) 2 0 ≡ first_cell group
first_number group some = go group.shares some where
  go : (shares : List Share) → 0 < length shares → get_or (share_numbers shares) 0 0 ≡ get_or (cells_of shares) 0 0
  go [] some = absurd (omega arith)
  go (s ∷ ss) some = refl

-- the least of the cells is the first
least_cell : (shares : List Share) (from : ℕ) → 0 < length shares → AscendFrom from (cells_of shares)
    → from ≤ get_or (cells_of shares) 0 0
least_cell [] from some a = absurd (omega arith)
least_cell (s ∷ ss) from some a = a.0

pub is_group : (count from capacity many : ℕ) (numbers : List ℕ) → 0 < capacity → capacity ≤ most_weight → 0 < many
    → length numbers / 2 ≡ many → AreSharesIn count from numbers
    → IsGroupFrom count from (capacity ∷ many ∷ numbers) (get_or numbers 0 0)
is_group count from capacity many numbers some small filled half a =
    let r = read_shares numbers count from a in
    let group : Group = record { capacity = capacity; shares = r.shares } in
    let size : length r.shares ≡ many = omega (arith, ap length r.is, length-share_numbers r.shares) in
    let same : capacity ∷ many ∷ numbers ≡ group_numbers group = (let e = r.is in cc) in
    let one : 0 < length r.shares = omega arith in
    record {
      group = group;
      is = same;
      form = record {
        some = some;
        small = small;
        filled = one;
        ascending = ascend_to (cells_of r.shares) from r.ascend;
        weights = r.weights;
        few = r.few;
      };
      below = r.below;
      first = ap (λ (ns : List ℕ). get_or ns 2 0) same ∙ first_number group one;
      least = omega (
        arith,
        ap (λ (ns : List ℕ). get_or ns 2 0) same,
        first_number group one,
        least_cell r.shares from one r.ascend,
      );
    }

-- what numbers of a group are
pub record AreGroupNumbers (count from capacity many : ℕ) (numbers : List ℕ) : Type 0 where
  pub some : 0 < capacity
  pub filled : 0 < many
  pub half : length numbers / 2 ≡ many
  pub shares : AreSharesIn count from numbers

pub group_is : (count from capacity many : ℕ) (numbers : List ℕ) (cell : ℕ)
    → IsGroupFrom count from (capacity ∷ many ∷ numbers) cell → AreGroupNumbers count from capacity many numbers
group_is count from capacity many numbers cell g =
    let e = g.is in
    let a : capacity ≡ g.group.capacity = cc in
    let b : many ≡ length g.group.shares = cc in
    let c : numbers ≡ share_numbers g.group.shares = cc in
    let f = g.form in
    let l : from ≤ get_or (cells_of g.group.shares) 0 0 = omega (arith, g.least, g.first) in
    record {
      some = omega (arith, f.some);
      filled = omega (arith, f.filled);
      half = omega (arith, ap length c, length-share_numbers g.group.shares);
      shares = subst (AreSharesIn count from) (sym c)
          (write_shares g.group.shares count from
          (ascend_from (cells_of g.group.shares) from f.ascending (λ s. l)) g.below f.weights f.few);
    }

-- numbers of which that doesn't hold
pub no_group : (count from capacity many : ℕ) (numbers shares : List ℕ) → numbers ≡ capacity ∷ many ∷ shares
    → (AreGroupNumbers count from capacity many shares → ⊥) → IsNoGroup count from numbers
no_group count from capacity many numbers shares e f = subst (IsNoGroup count from) (sym e)
    (record { none = λ cell g. f (group_is count from capacity many shares cell g) })
