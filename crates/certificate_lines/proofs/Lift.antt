-- From the numbers of a line to the line.
use Rattle.std.proofs.Common.{◌≡◌, ◌≢◌, ℕ, ◌<◌, ◌≤◌, ◌⊎◌, inl, inr, List, [], ◌∷◌, length, get_or, All, refl, sym}
use Rattle.std.proofs.Common.{subst, ap, arith}
use Rattle.std.specs.Prelude.{Bool, true, false, IsTrue, Option, Some, None, MatchBool}
use Rattle.std.specs.Prelude.{MatchOption, is_some, codes, nat_le, ◌&&◌}
use Rattle.std.proofs.lemmas.List.{length-map}
use Rattle.std.proofs.lemmas.List.Elements.{All-nil, All-cons, All-head, All-tail}
use Rattle.std.proofs.lemmas.Bool.{leb-true}
use Rattle.cave_base.specs.Box.{Point, cell_count, is_small, longest_side, most_cells}
use Rattle.proof_rules.specs.declared.groups.Share.{Share}
use Rattle.proof_rules.specs.declared.groups.Group.{Group}
use Rattle.proof_rules.specs.Groups.{cells_of, IsGroup}
use Rattle.proof_rules.specs.Text.{line}
use Rattle.certificate_lines.specs.Nodes.{LeafMeans, BranchMeans, BarMeans, OmitMeans, PickMeans, WeightedMeans}
use Rattle.certificate_lines.specs.Nodes.{GroupMeans, group_numbers}
use Rattle.certificate_lines.specs.Said.{share_numbers}
use Rattle.proof_rules.specs.Certificate.{AreListed}
use Rattle.certificate_lines.specs.Numbers.{IsSmall, most_numbers}
use Rattle.certificate_lines.specs.Decides.{IsLineOf, IsNoLineOf, IsNone, Decides}
use Rattle.certificate_lines.specs.Steps.{Takes, Says, StartMeans, BoxMeans, HeadroomMeans, NeedMeans, RegionsMeans}
use Rattle.certificate_lines.specs.Steps.{EndMeans, RegionMeans, DarkMeans, TorchesMeans}
use Rattle.certificate_lines.proofs.Complete.{listed_few}
use Rattle.certificate_lines.proofs.ShareLemmas.{length-share_numbers}
use Rattle.certificate_lines.specs.declared.stage.Stage.{Stage}
use Rattle.certificate_lines.specs.declared.stage.Stage.TheVariants as stage

pub record AreSmall (Means : List ℕ → Stage → Type 0) : Type 0 where
  pub each : (numbers : List ℕ) (next : Stage) → Means numbers next → All IsSmall numbers
  pub few : (numbers : List ℕ) (next : Stage) → Means numbers next → length numbers ≤ most_numbers

pub lift : (word text numbers : List ℕ) (Means : List ℕ → Stage → Type 0) (r : Option Stage) → AreSmall Means
    → IsLineOf text word numbers → Decides r (Means numbers) → Decides r (Says word Means text)
lift word text numbers Means None small l h =
    record {
      none = λ other s. h.none other
          (subst (λ (ns : List ℕ). Means ns other) (l.only s.0 (small.each s.0 other s.2) s.1) s.2);
    }
lift word text numbers Means (Some next) small l h = record {
  is = (numbers, l.is, h.is);
  only = λ other s. h.only other
      (subst (λ (ns : List ℕ). Means ns other) (l.only s.0 (small.each s.0 other s.2) s.1) s.2);
}

pub lift_none : (word text : List ℕ) (Means : List ℕ → Stage → Type 0) → AreSmall Means → IsNoLineOf text word
    → IsNone (Says word Means text)
lift_none word text Means small l =
    record { none = λ other s. l.none s.0 (small.each s.0 other s.2) (small.few s.0 other s.2) s.1 }

pub pick_left : (P Q : Stage → Type 0) (r : Option Stage) → ((s : Stage) → Q s → ⊥) → Decides r P
    → Decides r (λ s. P s ⊎ Q s)
pick_left P Q None no_other h = record {
  none = λ other s. elim s [
    | inl p ↦ h.none other p
    | inr q ↦ no_other other q
  ];
}
pick_left P Q (Some next) no_other h = record {
  is = inl h.is;
  only = λ other s. elim s [
    | inl p ↦ h.only other p
    | inr q ↦ absurd (no_other other q)
  ];
}

pub pick_right : (P Q : Stage → Type 0) (r : Option Stage) → ((s : Stage) → P s → ⊥) → Decides r Q
    → Decides r (λ s. P s ⊎ Q s)
pick_right P Q None no_other h = record {
  none = λ other s. elim s [
    | inl p ↦ no_other other p
    | inr q ↦ h.none other q
  ];
}
pick_right P Q (Some next) no_other h = record {
  is = inr h.is;
  only = λ other s. elim s [
    | inl p ↦ absurd (no_other other p)
    | inr q ↦ h.only other q
  ];
}

-- ---- numbers are small

one_small : (a : ℕ) (numbers : List ℕ) → numbers ≡ a ∷ [] → a ≤ most_cells → All IsSmall numbers
one_small a numbers e h = subst (All IsSmall) (sym e) (All-cons IsSmall a [] (omega arith) (All-nil IsSmall))

two_small : (a b : ℕ) (numbers : List ℕ) → numbers ≡ a ∷ b ∷ [] → a ≤ most_cells → b ≤ most_cells
    → All IsSmall numbers
two_small a b numbers e h i = subst (All IsSmall) (sym e)
    (All-cons IsSmall a (b ∷ []) (omega arith) (one_small b (b ∷ []) refl i))

three_small : (a b c : ℕ) (numbers : List ℕ) → numbers ≡ a ∷ b ∷ c ∷ [] → a ≤ most_cells → b ≤ most_cells
    → c ≤ most_cells → All IsSmall numbers
three_small a b c numbers e h i j = subst (All IsSmall) (sym e)
    (All-cons IsSmall a (b ∷ c ∷ []) (omega arith) (two_small b c (b ∷ c ∷ []) refl i j))

listed_small : (count : ℕ) (cells : List ℕ) → count ≤ most_cells → AreListed count cells → All IsSmall cells
listed_small count cells few a = λ k d h. (let b = a.below k d h in omega arith)

pub start_small : AreSmall StartMeans
start_small = record {
  each = λ ns s m. one_small m.0 ns m.1 (omega (arith, m.3));
  few = λ ns s m. omega (arith, ap length m.1);
}

pub and_both : (b c : Bool) → IsTrue (b && c) → IsTrue b × IsTrue c
and_both true c h = (refl, h)
and_both false c h = absurd cc

-- how long the sides of a small box are
pub sides : (size : Point) → IsTrue (is_small size)
    → (size.x ≤ longest_side) × (size.y ≤ longest_side) × (size.z ≤ longest_side)
sides size h =
    let x = nat_le size.x longest_side in
    let y = nat_le size.y longest_side in
    let z = nat_le size.z longest_side in
    let a = and_both (x && y && z) (nat_le (cell_count size) most_cells) h in
    let b = and_both (x && y) z a.0 in
    let c = and_both x y b.0 in
    (leb-true size.x longest_side c.0, leb-true size.y longest_side c.1, leb-true size.z longest_side b.1)

-- how many cells it has
pub count_small : (size : Point) → IsTrue (is_small size) → cell_count size ≤ most_cells
count_small size h = leb-true (cell_count size) most_cells
    (and_both (nat_le size.x longest_side && nat_le size.y longest_side && nat_le size.z longest_side)
    (nat_le (cell_count size) most_cells) h).1

pub box_small : (version : ℕ) → AreSmall (BoxMeans version)
box_small version = record {
  each = λ ns s m. let h = sides m.0 m.2 in
      three_small m.0.x m.0.y m.0.z ns m.1 (omega (arith, h.0)) (omega (arith, h.1)) (omega (arith, h.2));
  few = λ ns s m. omega (arith, ap length m.1);
}

pub headroom_small : (version : ℕ) (count : ℕ) → AreSmall (HeadroomMeans version count)
headroom_small version count = record {
  each = λ ns s m. elim (m.0) [
    | inl h ↦ one_small 1 ns h (omega arith)
    | inr h ↦ one_small 2 ns h (omega arith)
  ];
  few = λ ns s m. elim (m.0) [
    | inl h ↦ omega (arith, ap length h)
    | inr h ↦ omega (arith, ap length h)
  ];
}

pub need_small : (version count : ℕ) → AreSmall (NeedMeans version count)
need_small version count = record {
  each = λ ns s m. elim (m.0) [
    | inl h ↦ one_small 1 ns h (omega arith)
    | inr h ↦ one_small 8 ns h (omega arith)
  ];
  few = λ ns s m. elim (m.0) [
    | inl h ↦ omega (arith, ap length h)
    | inr h ↦ omega (arith, ap length h)
  ];
}

pub regions_small : (version : ℕ) (count : ℕ) → count ≤ most_cells → AreSmall (RegionsMeans version count)
regions_small version count few =
    record { each = λ ns s m. one_small m.0 ns m.1 (omega (arith, m.2)); few = λ ns s m. omega (arith, ap length m.1) }

pub end_small : (to_come : ℕ) → AreSmall (EndMeans to_come)
end_small to_come = record {
  each = λ ns s m. subst (All IsSmall) (sym m.1) (All-nil IsSmall);
  few = λ ns s m. omega (arith, ap length m.1);
}

pub region_small : (version : ℕ) (count to_come : ℕ) → count ≤ most_cells → AreSmall (RegionMeans version count to_come)
region_small version count to_come few =
    record {
      each = λ ns s m. two_small m.1 m.2 ns m.4 (omega (arith, m.6)) (omega (arith, m.8));
      few = λ ns s m. omega (arith, ap length m.4);
    }

pub dark_small : (version : ℕ) (count to_come n t : ℕ) → count ≤ most_cells
    → AreSmall (DarkMeans version count to_come n t)
dark_small version count to_come n t few =
    record { each = λ ns s m. listed_small count ns few m.0; few = λ ns s m. omega (arith, listed_few count ns m.0) }

pub torches_small : (version : ℕ) (count to_come t : ℕ) → count ≤ most_cells
    → AreSmall (TorchesMeans version count to_come t)
torches_small version count to_come t few =
    record { each = λ ns s m. listed_small count ns few m.0; few = λ ns s m. omega (arith, listed_few count ns m.0) }

pub leaf_small : (version : ℕ) (count to_come pending : ℕ) → count ≤ most_cells
    → AreSmall (LeafMeans version count to_come pending)
leaf_small version count to_come pending few =
    record {
      each = λ ns s m. subst (All IsSmall) (sym m.3)
          (All-cons IsSmall (length m.1) m.1 (omega (arith, listed_few count m.1 m.4))
          (listed_small count m.1 few m.4));
      few = λ ns s m. omega (arith, ap length m.3, listed_few count m.1 m.4);
    }

pub branch_small : (version : ℕ) (count to_come pending : ℕ) → count ≤ most_cells
    → AreSmall (BranchMeans version count to_come pending)
branch_small version count to_come pending few =
    record {
      each = λ ns s m. two_small m.1 m.2 ns m.4 (omega (arith, m.5)) (omega (arith, m.6));
      few = λ ns s m. omega (arith, ap length m.4);
    }

pub bar_small : (version : ℕ) (count to_come pending : ℕ) → count ≤ most_cells
    → AreSmall (BarMeans version count to_come pending)
bar_small version count to_come pending few =
    record {
      each = λ ns s m. two_small m.1 m.2 ns m.5 (omega (arith, m.6)) (omega (arith, m.7));
      few = λ ns s m. omega (arith, ap length m.5);
    }

pub omit_small : (version count to_come pending : ℕ) → count ≤ most_cells
    → AreSmall (OmitMeans version count to_come pending)
omit_small version count to_come pending few =
    record {
      each = λ ns s m. subst (All IsSmall) (sym m.4)
          (All-cons IsSmall (length m.1) m.1 (omega (arith, listed_few count m.1 m.6))
          (listed_small count m.1 few m.6));
      few = λ ns s m. omega (arith, ap length m.4, listed_few count m.1 m.6);
    }

pub pick_small : (version count to_come pending : ℕ) → count ≤ most_cells
    → AreSmall (PickMeans version count to_come pending)
pick_small version count to_come pending few =
    record { each = λ ns s m. one_small m.1 ns m.4 (omega (arith, m.5)); few = λ ns s m. omega (arith, ap length m.4) }

pub weighted_small : (version count to_come pending : ℕ) → count ≤ most_cells
    → AreSmall (WeightedMeans version count to_come pending)
weighted_small version count to_come pending few =
    record { each = λ ns s m. one_small m.0 ns m.2 (omega (arith, m.4)); few = λ ns s m. omega (arith, ap length m.2) }

-- the numbers of shares are small
shares_small : (count : ℕ) (shares : List Share) → count ≤ most_cells → All (λ cell. cell < count) (cells_of shares)
    → All (λ share. share.weight ≤ 4294967295) shares → All IsSmall (share_numbers shares)
shares_small count [] few b w = All-nil IsSmall
shares_small count (s ∷ ss) few b w =
    let c : s.cell < count = All-head (λ (cell : ℕ). cell < count) s.cell (cells_of ss) b in
    All-cons IsSmall s.cell (s.weight ∷ share_numbers ss) (omega arith)
    (All-cons IsSmall s.weight (share_numbers ss) (All-head (λ (share : Share). share.weight ≤ 4294967295) s ss w)
    (shares_small count ss few (All-tail (λ (cell : ℕ). cell < count) s.cell (cells_of ss) b)
    (All-tail (λ (share : Share). share.weight ≤ 4294967295) s ss w)))

-- a group has no more cells than the box
group_few : (count : ℕ) (group : Group) → IsGroup group → All (λ cell. cell < count) (cells_of group.shares)
    → length group.shares ≤ count
group_few count group form below = omega (
  arith,
  listed_few count (cells_of group.shares) (record { ascending = form.ascending; below = below }),
  length-map group.shares (λ (share : Share). share.cell),
)

-- the numbers of a group are small
pub group_numbers_small : (count : ℕ) (group : Group) → count ≤ most_cells → IsGroup group
    → All (λ cell. cell < count) (cells_of group.shares) → All IsSmall (group_numbers group)
group_numbers_small count group few form below =
    All-cons IsSmall group.capacity (length group.shares ∷ share_numbers group.shares) form.small
    (All-cons IsSmall (length group.shares) (share_numbers group.shares)
    (omega (arith, group_few count group form below))
    (shares_small count group.shares few below form.few))

pub group_small : (version count to_come pending left from : ℕ) → count ≤ most_cells
    → AreSmall (GroupMeans version count to_come pending left from)
group_small version count to_come pending left from few =
    record {
      each = λ ns s m. subst (All IsSmall) (sym m.5) (group_numbers_small count m.2 few m.6 m.7);
      few = λ ns s m. omega (arith, ap length m.5, group_few count m.2 m.6 m.7, length-share_numbers m.2.shares);
    }

-- ---- the two lines that may come where a region may, and the six where a node does

pub at_end : (version : ℕ) (count to_come : ℕ) (text : List ℕ) (r : Option Stage) → to_come ≡ 0
    → Decides r (Says (codes "end") (EndMeans to_come) text)
    → Decides r (λ s. Says (codes "end") (EndMeans to_come) text s ⊎ Says (codes "region")
    (RegionMeans version count to_come) text s)
at_end version count to_come text r e h = pick_left (Says (codes "end") (EndMeans to_come) text)
    (Says (codes "region") (RegionMeans version count to_come) text) r (λ s m. let f = m.2.3 in omega arith) h

pub at_region : (version : ℕ) (count to_come : ℕ) (text : List ℕ) (r : Option Stage) → to_come ≢ 0
    → Decides r (Says (codes "region") (RegionMeans version count to_come) text)
    → Decides r (λ s. Says (codes "end") (EndMeans to_come) text s ⊎ Says (codes "region")
    (RegionMeans version count to_come) text s)
at_region version count to_come text r e h = pick_right (Says (codes "end") (EndMeans to_come) text)
    (Says (codes "region") (RegionMeans version count to_come) text) r (λ s m. e m.2.0) h

head_of : (text other : List ℕ) → text ≡ other → get_or text 0 0 ≡ get_or other 0 0
head_of text other e = ap (λ (t : List ℕ). get_or t 0 0) e

module _ (version count to_come pending : ℕ) (text : List ℕ) (r : Option Stage) where
  abbrev Leaf : Stage → Type 0
  Leaf = Says (codes "L") (LeafMeans version count to_come pending) text

  abbrev Branch : Stage → Type 0
  Branch = Says (codes "B") (BranchMeans version count to_come pending) text

  abbrev Bar : Stage → Type 0
  Bar = Says (codes "E") (BarMeans version count to_come pending) text

  abbrev Weighted : Stage → Type 0
  Weighted = Says (codes "W") (WeightedMeans version count to_come pending) text

  abbrev Omit : Stage → Type 0
  Omit = Says (codes "D") (OmitMeans version count to_come pending) text

  abbrev Pick : Stage → Type 0
  Pick = Says (codes "P") (PickMeans version count to_come pending) text

  -- the last two, the last three and so on, up to all but a leaf
  abbrev LastTwo : Stage → Type 0
  LastTwo s = Omit s ⊎ Pick s

  abbrev LastThree : Stage → Type 0
  LastThree s = Weighted s ⊎ LastTwo s

  abbrev LastFour : Stage → Type 0
  LastFour s = Bar s ⊎ LastThree s

  abbrev LastFive : Stage → Type 0
  LastFive s = Branch s ⊎ LastFour s

  -- the first byte of each
  leaf_head : (s : Stage) → Leaf s → get_or text 0 0 ≡ 76
  leaf_head s m = head_of text (line (codes "L") m.0) m.1

  branch_head : (s : Stage) → Branch s → get_or text 0 0 ≡ 66
  branch_head s m = head_of text (line (codes "B") m.0) m.1

  bar_head : (s : Stage) → Bar s → get_or text 0 0 ≡ 69
  bar_head s m = head_of text (line (codes "E") m.0) m.1

  weighted_head : (s : Stage) → Weighted s → get_or text 0 0 ≡ 87
  weighted_head s m = head_of text (line (codes "W") m.0) m.1

  omit_head : (s : Stage) → Omit s → get_or text 0 0 ≡ 68
  omit_head s m = head_of text (line (codes "D") m.0) m.1

  pick_head : (s : Stage) → Pick s → get_or text 0 0 ≡ 80
  pick_head s m = head_of text (line (codes "P") m.0) m.1

  -- a line that begins otherwise is none of them
  not_two : get_or text 0 0 ≢ 68 → get_or text 0 0 ≢ 80 → (s : Stage) → LastTwo s → ⊥
  not_two a b s m = elim m [
    | inl o ↦ a (omit_head s o)
    | inr p ↦ b (pick_head s p)
  ]

  not_three : get_or text 0 0 ≢ 87 → get_or text 0 0 ≢ 68 → get_or text 0 0 ≢ 80 → (s : Stage) → LastThree s → ⊥
  not_three a b c s m = elim m [
    | inl w ↦ a (weighted_head s w)
    | inr l ↦ not_two b c s l
  ]

  not_four : get_or text 0 0 ≢ 69 → get_or text 0 0 ≢ 87 → get_or text 0 0 ≢ 68 → get_or text 0 0 ≢ 80 → (s : Stage)
      → LastFour s → ⊥
  not_four a b c d s m = elim m [
    | inl e ↦ a (bar_head s e)
    | inr l ↦ not_three b c d s l
  ]

  not_five : get_or text 0 0 ≢ 66 → get_or text 0 0 ≢ 69 → get_or text 0 0 ≢ 87 → get_or text 0 0 ≢ 68
      → get_or text 0 0 ≢ 80 → (s : Stage) → LastFive s → ⊥
  not_five a b c d e s m = elim m [
    | inl h ↦ a (branch_head s h)
    | inr l ↦ not_four b c d e s l
  ]

  -- what comes later in the list decides where the line begins otherwise than those before
  past_leaf : get_or text 0 0 ≢ 76 → Decides r LastFive
      → Decides r (Takes (stage.Node version count to_come pending) text)
  past_leaf a h = pick_right Leaf LastFive r (λ s m. a (leaf_head s m)) h

  past_branch : get_or text 0 0 ≢ 76 → get_or text 0 0 ≢ 66 → Decides r LastFour
      → Decides r (Takes (stage.Node version count to_come pending) text)
  past_branch a b h = past_leaf a (pick_right Branch LastFour r (λ s m. b (branch_head s m)) h)

  past_bar : get_or text 0 0 ≢ 76 → get_or text 0 0 ≢ 66 → get_or text 0 0 ≢ 69 → Decides r LastThree
      → Decides r (Takes (stage.Node version count to_come pending) text)
  past_bar a b c h = past_branch a b (pick_right Bar LastThree r (λ s m. c (bar_head s m)) h)

  past_weighted : get_or text 0 0 ≢ 76 → get_or text 0 0 ≢ 66 → get_or text 0 0 ≢ 69 → get_or text 0 0 ≢ 87
      → Decides r LastTwo → Decides r (Takes (stage.Node version count to_come pending) text)
  past_weighted a b c d h = past_bar a b c (pick_right Weighted LastTwo r (λ s m. d (weighted_head s m)) h)

  pub at_leaf : get_or text 0 0 ≢ 66 → get_or text 0 0 ≢ 69 → get_or text 0 0 ≢ 87 → get_or text 0 0 ≢ 68
      → get_or text 0 0 ≢ 80 → Decides r (Says (codes "L") (LeafMeans version count to_come pending) text)
      → Decides r (Takes (stage.Node version count to_come pending) text)
  at_leaf a b c d e h = pick_left Leaf LastFive r (not_five a b c d e) h

  pub at_branch : get_or text 0 0 ≡ 66 → Decides r (Says (codes "B") (BranchMeans version count to_come pending) text)
      → Decides r (Takes (stage.Node version count to_come pending) text)
  at_branch is h = past_leaf (λ e. omega arith) (pick_left Branch LastFour r
      (not_four (λ e. omega arith) (λ e. omega arith) (λ e. omega arith) (λ e. omega arith)) h)

  pub at_bar : get_or text 0 0 ≡ 69 → Decides r (Says (codes "E") (BarMeans version count to_come pending) text)
      → Decides r (Takes (stage.Node version count to_come pending) text)
  at_bar is h = past_branch (λ e. omega arith) (λ e. omega arith) (pick_left Bar LastThree r
      (not_three (λ e. omega arith) (λ e. omega arith) (λ e. omega arith)) h)

  pub at_weighted : get_or text 0 0 ≡ 87
      → Decides r (Says (codes "W") (WeightedMeans version count to_come pending) text)
      → Decides r (Takes (stage.Node version count to_come pending) text)
  at_weighted is h = past_bar (λ e. omega arith) (λ e. omega arith) (λ e. omega arith) (pick_left Weighted LastTwo r
      (not_two (λ e. omega arith) (λ e. omega arith)) h)

  pub at_omit : get_or text 0 0 ≡ 68 → Decides r (Says (codes "D") (OmitMeans version count to_come pending) text)
      → Decides r (Takes (stage.Node version count to_come pending) text)
  at_omit is h = past_weighted (λ e. omega arith) (λ e. omega arith) (λ e. omega arith) (λ e. omega arith)
      (pick_left Omit Pick r (λ s m. let f = pick_head s m in omega arith) h)

  pub at_pick : get_or text 0 0 ≡ 80 → Decides r (Says (codes "P") (PickMeans version count to_come pending) text)
      → Decides r (Takes (stage.Node version count to_come pending) text)
  at_pick is h = past_weighted (λ e. omega arith) (λ e. omega arith) (λ e. omega arith) (λ e. omega arith)
      (pick_right Omit Pick r (λ s m. let f = omit_head s m in omega arith) h)

pub off : (b : Bool) (A B : Type 0) → b ≡ false → MatchBool b A B → B
off true A B e h = absurd cc
off false A B e h = h

pub on : (b : Bool) (A B : Type 0) → b ≡ true → MatchBool b A B → A
on true A B e h = h
on false A B e h = absurd cc

-- what a line that was taken says, and one that wasn't
pub nothing : {K : Type 0} (r : Option K) (A : Type 0) (B : K → Type 0) → is_some r ≡ false → MatchOption r A B → A
nothing None A B e h = h
nothing (Some k) A B e h = absurd cc

pub something : {K : Type 0} (r : Option K) (A : Type 0) (B : K → Type 0) → is_some r ≡ true → MatchOption r A B
    → (k : K) × B k
something None A B e h = absurd cc
something (Some k) A B e h = (k, h)

pub at_none : {K : Type 0} (r : Option K) (A : Type 0) (B : K → Type 0) → r ≡ None → MatchOption r A B → A
at_none None A B e h = h
at_none (Some k) A B e h = absurd cc

pub at_some : {K : Type 0} (r : Option K) (k : K) (A : Type 0) (B : K → Type 0) → r ≡ Some k → MatchOption r A B → B k
at_some {K} r k A B e h = subst (λ (o : Option K). MatchOption o A B) e h
