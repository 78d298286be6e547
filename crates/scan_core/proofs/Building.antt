-- What has no fault is a structure.
use Rattle.std.proofs.Common.{◌≡◌, ℕ, zero, suc, ◌+◌, ℤ, pos, negsuc, ◌<◌, Bool, true, false, nat_lt, List, [], ◌∷◌}
use Rattle.std.proofs.Common.{◌++◌, length, get_or, codes, Option, Some, None, IsTrue, All, refl, sym, ap, subst, ◌∙◌}
use Rattle.std.proofs.Common.{arith, ltb-true}
use Rattle.std.proofs.lemmas.List.Elements.{All-nil, All-cons}
use Rattle.std.specs.Prelude.{if◌then◌else◌}
use Rattle.nbt_core.specs.Value.{Nbt, leaf, list, compound, Items, no_items, item, field, items_of, listed}
use Rattle.nbt_core.specs.Value as values
use Rattle.cave_base.specs.Box.{Point, cell_count, is_small, is_within}
use Rattle.scan_core.specs.Properties.{props_of}
use Rattle.scan_core.specs.Scan.{Structure, Entry, triple, point_value, last_state, IsEntryState, IsEntryOf, AreEach}
use Rattle.scan_core.specs.Scan.{IsListOf, IsScanOf}
use Rattle.scan_core.specs.Faults.{side_fault, list_fault, name_fault, place_fault, index_fault, entry_faults}
use Rattle.scan_core.specs.Faults.{told_size, told_states, fault_of, size_fault, blocks_fault}
use Rattle.scan_core.specs.Told.{IsSizeOf, IsPaletteOf}
use Rattle.nbt_views.specs.Parts.{are_compounds}
use Rattle.scan_core.specs.Judging.{first_fault, point_of, on_triple, on_field, on_compounds, each_from, on_text}
use Rattle.scan_core.specs.Judging.{on_int}
use Rattle.scan_core.specs.declared.state.BlockState.{BlockState}
use Rattle.scan_core.specs.declared.fault.Field.{Field}
use Rattle.scan_core.specs.declared.fault.Field.TheVariants.{SizeField, PaletteField, NameField, BlocksField}
use Rattle.scan_core.specs.declared.fault.Field.TheVariants.{PosField, StateField}
use Rattle.scan_core.specs.declared.fault.ScanFault.{ScanFault}
use Rattle.scan_core.specs.declared.fault.ScanFault.TheVariants as faults
use Rattle.scan_core.proofs.ScanLemmas.{size_told, states_told, items_of-listed}

abbrev no_fault : Option ScanFault
no_fault = None

-- where there is no fault at all, the first judgement finds none and the others find none
pub split_first : (a : Option ScanFault) (rest : List (Option ScanFault)) → first_fault (a ∷ rest) ≡ None
    → (a ≡ None) × (first_fault rest ≡ None)
split_first None rest e = (refl, e)
split_first (Some f) rest e = absurd (cc)

-- where two lists of judgements find nothing, each of them finds nothing
pub split_append : (xs ys : List (Option ScanFault)) → first_fault (xs ++ ys) ≡ None
    → (first_fault xs ≡ None) × (first_fault ys ≡ None)
split_append [] ys e = (refl, e)
split_append (None ∷ xs) ys e = split_append xs ys e
split_append (Some f ∷ xs) ys e = absurd (cc)

-- a field without a fault is there, and its value is without a fault
pub of_field : (o : Option Nbt) (f : ScanFault) (present : Nbt → Option ScanFault) → on_field o (Some f) present ≡ None
    → (t : Nbt) × (o ≡ Some t) × (present t ≡ None)
of_field None f present e = absurd (cc)
of_field (Some t) f present e = (t, refl, e)

-- a field that would be a fault is absent
pub none_there : (o : Option Nbt) (f : ScanFault) → on_field o None (λ (t : Nbt). Some f) ≡ no_fault → o ≡ None
none_there None f e = refl
none_there (Some t) f e = absurd (cc)

-- a condition whose failure would be a fault holds
pub of_if : (b : Bool) (f : ScanFault) → (if b then None else Some f) ≡ no_fault → b ≡ true
of_if true f e = refl
of_if false f e = absurd (cc)

-- the same where what it guards may have a fault too
of_if_compounds : (b : Bool) (f : ScanFault) (o : Option ScanFault) → (if b then o else Some f) ≡ no_fault
    → (b ≡ true) × (o ≡ None)
of_if_compounds true f o e = (refl, e)
of_if_compounds false f o e = absurd (cc)

-- a list without a fault where three Ints are due has three Ints
pub of_triple : (f : ScanFault) (right : Option Point → Option ScanFault) (t : Nbt) → on_triple (Some f) right t ≡ None
    → (x y z : ℤ) × (t ≡ triple x y z) × (right (point_of x y z) ≡ None)
of_triple f right (list (item (leaf (values.int x))
    (item (leaf (values.int y)) (item (leaf (values.int z)) no_items)))) e = (x, y, z, refl, e)
of_triple f right t e = absurd (cc)

-- three Ints none of which is negative spell a point
pub is_point : (x y z : ℤ) (at : Point) → point_of x y z ≡ Some at → triple x y z ≡ point_value at
is_point (pos x) (pos y) (pos z) at e = ap point_value (same _ at e)
  where
    same : (p q : Point) → ◌≡◌ {A = Option Point} (Some p) (Some q) → p ≡ q
    same p q e = cc
is_point x y z at e = absurd (cc)

-- a size without a fault is a small box
of_size : (o : Option Point) → side_fault o ≡ None → (size : Point) × (o ≡ Some size) × IsTrue (is_small size)
of_size None e = absurd (cc)
of_size (Some size) e = (size, refl, of_if (is_small size) faults.TooLarge e)

-- a position without a fault lies in the box
of_place : (size : Point) (i : ℕ) (o : Option Point) → place_fault size i o ≡ None
    → (at : Point) × (o ≡ Some at) × IsTrue (is_within size at)
of_place size i None e = absurd (cc)
of_place size i (Some at) e = (at, refl, of_if (is_within size at) (faults.BadPosition i) e)

-- a state without a fault is an index into the palette
of_index : (states i : ℕ) (n : ℤ) → index_fault states i n ≡ None → (k : ℕ) × (n ≡ pos k) × (k < states)
of_index states i (pos k) e = (k, refl, ltb-true k states (of_if (nat_lt k states) (faults.BadState i) e))
of_index states i (negsuc k) e = absurd (cc)

-- a value without a fault where a String is due is a String
of_text : (f : ScanFault) (t : Nbt) → on_text (Some f) None t ≡ no_fault → (s : List ℕ) × (t ≡ leaf (values.text s))
of_text f (leaf (values.text s)) e = (s, refl)
of_text f t e = absurd (cc)

-- a value without a fault where an Int is due is an Int
of_int : (f : ScanFault) (right : ℤ → Option ScanFault) (t : Nbt) → on_int (Some f) right t ≡ None
    → (n : ℤ) × (t ≡ leaf (values.int n)) × (right n ≡ None)
of_int f right (leaf (values.int n)) e = (n, refl, e)
of_int f right t e = absurd (cc)

-- a value without a fault where compounds are due is a list of compounds
of_compounds : (f : ScanFault) (right : List Nbt → Option ScanFault) (t : Nbt) → on_compounds (Some f) right t ≡ None
    → (ts : List Nbt) × (t ≡ list (items_of ts)) × (right ts ≡ None)
of_compounds f right (leaf v) e = absurd (cc)
of_compounds f right (list items) e = (
  listed items,
  ap list (sym (items_of-listed items)),
  (of_if_compounds (are_compounds (listed items)) f (right (listed items)) e).1,
)
of_compounds f right (compound ms) e = absurd (cc)

-- what the values are, one by one
pub record Built {X : Type 0} (Is : Nbt → X → Type 0) (Good : X → Type 0) (ts : List Nbt) : Type 0 where
  pub values : List X
  pub are : AreEach Is ts values
  pub good : All Good values

-- values none of which has a fault each tell something good
build : {X : Type 0} (Is : Nbt → X → Type 0) (Good : X → Type 0) (judge : ℕ → Nbt → List (Option ScanFault))
    → ((i : ℕ) (t : Nbt) → first_fault (judge i t) ≡ None → (x : X) × Is t x × Good x) → (ts : List Nbt) (from : ℕ)
    → first_fault (each_from from judge ts) ≡ None → Built Is Good ts
build Is Good judge h [] from e = record { values = []; are = tt; good = All-nil Good }
build Is Good judge h (t ∷ ts) from e =
    let parts = split_append (judge from t) (each_from (suc from) judge ts) e in
    let x = h from t parts.0 in
    let rest = build Is Good judge h ts (suc from) parts.1 in
    record { values = x.0 ∷ rest.values; are = (x.1, rest.are); good = All-cons Good x.0 rest.values x.2 rest.good }

pub record BuiltList {X : Type 0} (Is : Nbt → X → Type 0) (Good : X → Type 0) (found : Option Nbt) : Type 0 where
  pub values : List X
  pub are : IsListOf Is found values
  pub good : All Good values

-- the same of the list that a field holds
build_list : {X : Type 0} (Is : Nbt → X → Type 0) (Good : X → Type 0) (of : Field)
    (judge : ℕ → Nbt → List (Option ScanFault))
    → ((i : ℕ) (t : Nbt) → first_fault (judge i t) ≡ None → (x : X) × Is t x × Good x) → (found : Option Nbt)
    → list_fault of judge found ≡ None → BuiltList Is Good found
build_list Is Good of judge h found e =
    let each = λ (ts : List Nbt). first_fault (each_from 0 judge ts) in
    let there = of_field found (faults.Missing of) (on_compounds (Some (faults.WrongType of)) each) e in
    let ts = of_compounds (faults.WrongType of) each there.0 there.2 in
    let b = build Is Good judge h ts.0 0 ts.2 in
    record { values = b.values; are = (ts.0, there.1 ∙ ap (λ (t : Nbt). Some t) ts.1, b.are); good = b.good }

-- an entry of the palette without a fault tells a state
build_state : (i : ℕ) (t : Nbt) → first_fault (name_fault i t) ≡ None
    → (state : BlockState) × IsEntryState t state × Unit {0}
build_state i t e =
    let there = of_field (field (codes "Name") t) (faults.Missing (NameField i))
    (on_text (Some (faults.WrongType (NameField i))) None) (split_first _ [] e).0 in
    let s = of_text (faults.WrongType (NameField i)) there.0 there.2 in (
      record { name = s.0; props = props_of (field (codes "Properties") t) },
      record
          { named = there.1 ∙ ap (λ (t : Nbt). Some t) s.1; told = refl },
      tt,
    )

-- an entry of the blocks without a fault tells a cell of the box and a state of the palette
build_entry : (size : Point) (states i : ℕ) (t : Nbt) → first_fault (entry_faults size states i t) ≡ None
    → (entry : Entry) × IsEntryOf t entry × (IsTrue (is_within size entry.at) × (entry.state < states))
build_entry size states i t e =
    let one = split_first _ _ e in
    let two = split_first _ [] one.1 in
    let at = of_field (field (codes "pos") t) (faults.Missing (PosField i))
    (on_triple (Some (faults.WrongType (PosField i))) (place_fault size i)) one.0 in
    let three = of_triple (faults.WrongType (PosField i)) (place_fault size i) at.0 at.2 in
    let place = of_place size i (point_of three.0 three.1 three.2) three.4 in
    let state = of_field (field (codes "state") t) (faults.Missing (StateField i))
    (on_int (Some (faults.WrongType (StateField i))) (index_fault states i)) two.0 in
    let number = of_int (faults.WrongType (StateField i)) (index_fault states i) state.0 state.2 in
    let index = of_index states i number.0 number.2 in (
      record { at = place.0; state = index.0 },
      record {
        placed = at.1 ∙ ap (λ (t : Nbt). Some t) (three.3 ∙ is_point three.0 three.1 three.2 place.0 place.1);
        indexed = state.1 ∙ ap (λ (t : Nbt). Some t) (number.1 ∙ ap (λ (n : ℤ). leaf (values.int n)) index.1);
      },
      (place.2, index.2),
    )

-- the first n values of f, from one number on
unfoldable pub table : {X : Type 0} → (ℕ → X) → ℕ → ℕ → List X
table f from zero = []
table f from (suc n) = f from ∷ table f (suc from) n

-- a table has as many values as it was asked for
pub length-table : {X : Type 0} (f : ℕ → X) (from n : ℕ) → length (table f from n) ≡ n
unfolding table
length-table f from zero = refl
length-table f from (suc n) = ap suc (length-table f (suc from) n)

-- a table has at each index the function's value there
pub table_at : {X : Type 0} (f : ℕ → X) (from n i : ℕ) (d : X) → i < n → get_or (table f from n) i d ≡ f (from + i)
unfolding table
table_at f from zero i d h = absurd (omega arith)
table_at f from (suc n) zero d h = ap f (omega arith)
table_at f from (suc n) (suc i) d h = table_at f (suc from) n i d (omega arith) ∙ ap f (omega arith)

-- the same of a table that begins at 0
pub table_from : {X : Type 0} (f : ℕ → X) (n i : ℕ) (d : X) → i < n → get_or (table f 0 n) i d ≡ f i
table_from f n i d h = table_at f 0 n i d h ∙ ap f (omega arith)

-- the size of a root
build_size : (root : Nbt) → size_fault (field (codes "size") root) ≡ None
    → (size : Point) × IsSizeOf (field (codes "size") root) size
build_size root e =
    let found = of_field (field (codes "size") root) (faults.Missing SizeField)
    (on_triple (Some (faults.WrongType SizeField)) side_fault) e in
    let sides = of_triple (faults.WrongType SizeField) side_fault found.0 found.2 in
    let box = of_size (point_of sides.0 sides.1 sides.2) sides.4 in (
      box.0,
      record {
        sized = found.1 ∙ ap (λ (t : Nbt). Some t) (sides.3 ∙ is_point sides.0 sides.1 sides.2 box.0 box.1);
        small = box.2;
      },
    )

-- an entry in the box, of a known state
abbrev IsFitting : Point → ℕ → Entry → Type 0
IsFitting size states entry = IsTrue (is_within size entry.at) × (entry.state < states)

-- the entries of the blocks of a root with this size and palette
build_blocks : (root : Nbt) (size : Point) (palette : List BlockState) → IsSizeOf (field (codes "size") root) size
    → IsPaletteOf (field (codes "palette") root) palette
    → blocks_fault (told_size root) (told_states root) (field (codes "blocks") root) ≡ None
    → BuiltList IsEntryOf (IsFitting size (length palette)) (field (codes "blocks") root)
build_blocks root size palette s p e =
    let sizes = size_told root size s.sized in
    let counts = states_told root palette p in
    let clean = subst (λ (at : Point). blocks_fault at (told_states root) (field (codes "blocks") root) ≡ None)
    sizes e in
    let clean' = subst (λ (n : ℕ). blocks_fault size n (field (codes "blocks") root) ≡ None) counts clean in
    build_list IsEntryOf (IsFitting size (length palette)) BlocksField (entry_faults size (length palette))
    (build_entry size (length palette)) (field (codes "blocks") root) clean'

pub record HasStructure (root : Nbt) : Type 0 where
  pub scan : Structure
  pub is : IsScanOf root scan

-- a root without a fault tells a structure
pub clean_structure : (root : Nbt) → fault_of root ≡ None → HasStructure root
clean_structure root e =
    let one = split_first _ _ e in
    let two = split_first _ _ one.1 in
    let three = split_first _ _ two.1 in
    let four = split_first _ [] three.1 in
    let size = build_size root one.0 in
    let states = build_list IsEntryState (λ (state : BlockState). Unit {0}) PaletteField name_fault build_state
    (field (codes "palette") root) three.0 in
    let blocks = build_blocks root size.0 states.values size.1 states.are four.0 in
    let shown = λ (cell : ℕ). last_state size.0 cell blocks.values in
    record {
      scan = record { size = size.0; palette = states.values; cells = table shown 0 (cell_count size.0) };
      is = record {
        sized = (size.1).sized;
        small = (size.1).small;
        single = none_there (field (codes "palettes") root) faults.Palettes two.0;
        states = states.are;
        entries = blocks.values;
        listed = blocks.are;
        inside = λ k d h. (blocks.good k d h).0;
        known = λ k d h. (blocks.good k d h).1;
        whole = length-table shown 0 (cell_count size.0);
        last = λ cell h. table_from shown (cell_count size.0) cell None h;
      };
    }
