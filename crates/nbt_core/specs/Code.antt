-- A code for each value, by which values are told apart, as the models of `Tags`, `Entries` and views need it.
use Rattle.std.specs.Prelude.{◌≡◌, ℕ, List, refl}
use Rattle.std.specs.Coded.{Coded, coded_list, coded_ℕ, coded_ℤ, coded×}
use Rattle.std.proofs.Common.{ap}
use base.Stored.{Gv, gnil, gnum, gcons}
use Rattle.nbt_core.specs.Value.{Leaf, byte, short, int, long, float, double, byte_array, text, int_array, long_array}
use Rattle.nbt_core.specs.Value.{Nbt, leaf, list, compound, Items, no_items, item, Members, no_members, member}

-- a leaf as its kind and what it holds
abbrev pub leaf_code : Leaf → Gv
leaf_code (byte n) = gcons (gnum 1) (coded_ℤ.code n)
leaf_code (short n) = gcons (gnum 2) (coded_ℤ.code n)
leaf_code (int n) = gcons (gnum 3) (coded_ℤ.code n)
leaf_code (long n) = gcons (gnum 4) (coded_ℤ.code n)
leaf_code (float run) = gcons (gnum 5) ((coded_list coded_ℕ).code run)
leaf_code (double run) = gcons (gnum 6) ((coded_list coded_ℕ).code run)
leaf_code (byte_array ns) = gcons (gnum 7) ((coded_list coded_ℤ).code ns)
leaf_code (text t) = gcons (gnum 8) ((coded_list coded_ℕ).code t)
leaf_code (int_array ns) = gcons (gnum 11) ((coded_list coded_ℤ).code ns)
leaf_code (long_array ns) = gcons (gnum 12) ((coded_list coded_ℤ).code ns)

abbrev mutual
  -- a value as the kind of its case and what it holds
  pub code : Nbt → Gv
  code (leaf v) = gcons (gnum 0) (leaf_code v)
  code (list ts) = gcons (gnum 9) (items_code ts)
  code (compound ms) = gcons (gnum 10) (members_code ms)

  -- the codes of its items, one after another
  pub items_code : Items → Gv
  items_code no_items = gnil
  items_code (item t ts) = gcons (code t) (items_code ts)

  -- the names and codes of its members, one after another
  pub members_code : Members → Gv
  members_code no_members = gnil
  members_code (member name t ms) = gcons ((coded_list coded_ℕ).code name) (gcons (code t) (members_code ms))

-- two equal pairs have equal second parts
second : {a b c d : Gv} → gcons a b ≡ gcons c d → b ≡ d
second e = cc

-- and equal first parts
first : {a b c d : Gv} → gcons a b ≡ gcons c d → a ≡ c
first e = cc

-- two leaves with one code are one
leaf_inj : (x y : Leaf) → leaf_code x ≡ leaf_code y → x ≡ y
leaf_inj (byte m) (byte n) e = ap byte (coded_ℤ.inj m n (second e))
leaf_inj (short m) (short n) e = ap short (coded_ℤ.inj m n (second e))
leaf_inj (int m) (int n) e = ap int (coded_ℤ.inj m n (second e))
leaf_inj (long m) (long n) e = ap long (coded_ℤ.inj m n (second e))
leaf_inj (float m) (float n) e = ap float ((coded_list coded_ℕ).inj m n (second e))
leaf_inj (double m) (double n) e = ap double ((coded_list coded_ℕ).inj m n (second e))
leaf_inj (byte_array m) (byte_array n) e = ap byte_array ((coded_list coded_ℤ).inj m n (second e))
leaf_inj (text m) (text n) e = ap text ((coded_list coded_ℕ).inj m n (second e))
leaf_inj (int_array m) (int_array n) e = ap int_array ((coded_list coded_ℤ).inj m n (second e))
leaf_inj (long_array m) (long_array n) e = ap long_array ((coded_list coded_ℤ).inj m n (second e))
leaf_inj x y e = absurd cc

mutual
  -- two values with one code are one
  pub inj : (x y : Nbt) → code x ≡ code y → x ≡ y
  inj (leaf v) (leaf w) e = ap leaf (leaf_inj v w (second e))
  inj (list ss) (list ts) e = ap list (items_inj ss ts (second e))
  inj (compound ss) (compound ts) e = ap compound (members_inj ss ts (second e))
  inj x y e = absurd cc

  -- and so are the items of two lists
  pub items_inj : (x y : Items) → items_code x ≡ items_code y → x ≡ y
  items_inj no_items no_items e = refl
  items_inj (item s ss) (item t ts) e = cc (inj s t (first e), items_inj ss ts (second e))
  items_inj x y e = absurd cc

  -- and the members of two compounds
  pub members_inj : (x y : Members) → members_code x ≡ members_code y → x ≡ y
  members_inj no_members no_members e = refl
  members_inj (member m s ss) (member n t ts) e =
      let names = (coded_list coded_ℕ).inj m n (first e) in
      let values = inj s t (first (second e)) in
      let others = members_inj ss ts (second (second e)) in
      cc (names, values, others)
  members_inj x y e = absurd cc

-- the code of a value
abbrev pub coded_nbt : Coded Nbt
coded_nbt = record { code = code; inj = inj }

-- the code of what a list holds
abbrev pub coded_nbts : Coded (List Nbt)
coded_nbts = coded_list coded_nbt

-- the code of what a compound holds
abbrev pub coded_entries : Coded (List (List ℕ × Nbt))
coded_entries = coded_list (coded× (coded_list coded_ℕ) coded_nbt)
