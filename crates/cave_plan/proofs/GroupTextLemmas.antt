-- Lines that begin with those of groups begin with those of no other groups.
use Rattle.std.proofs.Common.{◌≡◌, ℕ, ◌<◌, ◌≤◌, List, [], ◌∷◌, ◌++◌, length, map, All, refl, arith}
use Rattle.std.specs.Prelude.{codes, flat_map}
use Rattle.std.proofs.lemmas.List.{length-map}
use Rattle.std.proofs.lemmas.List.Elements.{All-nil, All-cons, All-head, All-tail}
use Rattle.cave_base.specs.Box.{most_cells}
use Rattle.proof_rules.specs.declared.groups.Share.{Share}
use Rattle.proof_rules.specs.declared.groups.Group.{Group}
use Rattle.proof_rules.specs.Groups.{cells_of, all_cells_of, most_weight, IsGroup}
use Rattle.proof_rules.specs.Text.{group_line}
use Rattle.certificate_lines.specs.Numbers.{IsSmall}
use Rattle.certificate_lines.proofs.Complete.{listed_few, all_cells_head, all_cells_tail}
use Rattle.cave_plan.proofs.NumberLemmas.{same_line}

-- the first of two lists of lines, and the others
pub split_lines : (a b : List ℕ) (r s : List (List ℕ)) → a ∷ r ≡ b ∷ s → (a ≡ b) × (r ≡ s)
split_lines a b r s e = (cc, cc)

-- the numbers of shares
abbrev numbers_of : List Share → List ℕ
numbers_of shares = flat_map (λ share. share.cell ∷ share.weight ∷ []) shares

-- they are small
shares_small : (count : ℕ) (shares : List Share) → count ≤ most_cells → All (λ cell. cell < count) (cells_of shares)
    → All (λ share. share.weight ≤ most_weight) shares → All IsSmall (numbers_of shares)
shares_small count [] few below light = All-nil IsSmall
shares_small count (s ∷ ss) few below light =
    let inside : s.cell < count = All-head (λ (cell : ℕ). cell < count) s.cell (cells_of ss) below in
    let weight : s.weight ≤ most_weight = All-head (λ (share : Share). share.weight ≤ most_weight) s ss light in
    All-cons IsSmall s.cell (s.weight ∷ numbers_of ss) (omega arith)
    (All-cons IsSmall s.weight (numbers_of ss) (omega arith)
    (shares_small count ss few (All-tail (λ (cell : ℕ). cell < count) s.cell (cells_of ss) below)
    (All-tail (λ (share : Share). share.weight ≤ most_weight) s ss light)))

-- a cell with its weight
abbrev share : ℕ → ℕ → Share
share cell weight = record { cell = cell; weight = weight }

-- shares with the same cell and weight are the same
same_share : (c d w v : ℕ) → c ≡ d → w ≡ v → share c w ≡ share d v
same_share c d w v e f = cc

-- shares with the same numbers are the same
same_shares : (a b : List Share) → numbers_of a ≡ numbers_of b → a ≡ b
same_shares [] [] e = refl
same_shares [] (t ∷ ts) e = absurd (cc)
same_shares (s ∷ ss) [] e = absurd (cc)
same_shares (s ∷ ss) (t ∷ ts) e =
    let cell : s.cell ≡ t.cell = cc in
    let weight : s.weight ≡ t.weight = cc in
    let rest : ss ≡ ts = same_shares ss ts (cc) in
    let first : s ≡ t = same_share s.cell t.cell s.weight t.weight cell weight in
    cc

-- the numbers of a group's line
abbrev line_numbers : Group → List ℕ
line_numbers group = group.capacity ∷ length group.shares ∷ numbers_of group.shares

-- they are small
group_small : (count : ℕ) (group : Group) → count ≤ most_cells → IsGroup group
    → All (λ cell. cell < count) (cells_of group.shares) → All IsSmall (line_numbers group)
group_small count group few is below =
    let many = listed_few count (cells_of group.shares) (record { ascending = is.ascending; below = below }) in
    let same = length-map group.shares (λ (s : Share). s.cell) in
    let capacity = is.small in
    All-cons IsSmall group.capacity (length group.shares ∷ numbers_of group.shares) (omega arith)
    (All-cons IsSmall (length group.shares) (numbers_of group.shares) (omega (arith, many, same))
    (shares_small count group.shares few below is.few))

-- shares with their capacity
abbrev group : ℕ → List Share → Group
group capacity shares = record { capacity = capacity; shares = shares }

-- groups with the same capacity and shares are the same
same_parts : (c d : ℕ) (xs ys : List Share) → c ≡ d → xs ≡ ys → group c xs ≡ group d ys
same_parts c d xs ys e f = cc

-- groups with the same line are the same
same_group : (m n : ℕ) (a b : Group) → m ≤ most_cells → n ≤ most_cells → IsGroup a → IsGroup b
    → All (λ cell. cell < m) (cells_of a.shares) → All (λ cell. cell < n) (cells_of b.shares)
    → group_line a ≡ group_line b → a ≡ b
same_group m n a b few_m few_n is_a is_b below_a below_b e =
    let numbers : line_numbers a ≡ line_numbers b =
    same_line (codes "G") (line_numbers a) (line_numbers b) (group_small m a few_m is_a below_a)
    (group_small n b few_n is_b below_b) e in
    let capacity : a.capacity ≡ b.capacity = cc in
    let rest : numbers_of a.shares ≡ numbers_of b.shares = cc in
    same_parts a.capacity b.capacity a.shares b.shares capacity (same_shares a.shares b.shares rest)

module _ (m n : ℕ) (few_m : m ≤ most_cells) (few_n : n ≤ most_cells) where
  -- the lines of as many groups, and what comes behind them
  pub same_groups : (a b : List Group) (r s : List (List ℕ)) → length a ≡ length b → All IsGroup a → All IsGroup b
      → All (λ cell. cell < m) (all_cells_of a) → All (λ cell. cell < n) (all_cells_of b)
      → map group_line a ++ r ≡ map group_line b ++ s → (a ≡ b) × (r ≡ s)
  same_groups [] [] r s many is_a is_b below_a below_b e = (refl, e)
  same_groups [] (h ∷ hs) r s many is_a is_b below_a below_b e = absurd (omega arith)
  same_groups (g ∷ gs) [] r s many is_a is_b below_a below_b e = absurd (omega arith)
  same_groups (g ∷ gs) (h ∷ hs) r s many is_a is_b below_a below_b e =
      let l = split_lines (group_line g) (group_line h) (map group_line gs ++ r) (map group_line hs ++ s) e in
      let first : g ≡ h = same_group m n g h few_m few_n (All-head IsGroup g gs is_a) (All-head IsGroup h hs is_b)
      (all_cells_head (λ (cell : ℕ). cell < m) g gs below_a) (all_cells_head (λ (cell : ℕ). cell < n) h hs below_b)
      l.0 in
      let fewer : length gs ≡ length hs = omega arith in
      let rest = same_groups gs hs r s fewer (All-tail IsGroup g gs is_a) (All-tail IsGroup h hs is_b)
      (all_cells_tail (λ (cell : ℕ). cell < m) g gs below_a) (all_cells_tail (λ (cell : ℕ). cell < n) h hs below_b)
      l.1 in
      let these = rest.0 in (cc, rest.1)
