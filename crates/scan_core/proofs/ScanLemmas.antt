-- What is a structure has no fault.
use Rattle.std.proofs.Common.{◌≡◌, ℕ, suc, pos, ◌<◌, Bool, true, false, nat_lt, List, [], ◌∷◌, ◌++◌, length, codes}
use Rattle.std.proofs.Common.{Option, Some, None, IsTrue, All, refl, sym, ap, subst, ◌∙◌, lt-ltb}
use Rattle.std.proofs.lemmas.List.Elements.{All-head, All-tail}
use Rattle.std.specs.Prelude.{if◌then◌else◌}
use Rattle.nbt_core.specs.Value.{Nbt, leaf, list, compound, Items, no_items, item, field, items_of, listed}
use Rattle.nbt_core.specs.Value as values
use Rattle.cave_base.specs.Box.{Point, is_small, is_within}
use Rattle.scan_core.specs.Scan.{Structure, Entry, point_value, IsEntryState, IsEntryOf, AreEach, IsListOf, IsScanOf}
use Rattle.scan_core.specs.Faults.{list_fault, name_fault, entry_faults, told_size, told_states, fault_of}
use Rattle.nbt_views.specs.Parts.{is_compound, are_compounds}
use Rattle.scan_core.specs.Judging.{first_fault, on_field, on_compounds, each_from}
use Rattle.scan_core.specs.declared.state.BlockState.{BlockState}
use Rattle.scan_core.specs.declared.fault.Field.{Field}
use Rattle.scan_core.specs.declared.fault.Field.TheVariants.{PaletteField, BlocksField}
use Rattle.scan_core.specs.declared.fault.ScanFault.{ScanFault}
use Rattle.scan_core.specs.declared.fault.ScanFault.TheVariants as faults
use Rattle.cave_base.proofs.CellLemmas.{true_both}

-- ---- first faults

-- judgements that find nothing may be left out in front
pub first_append : (xs ys : List (Option ScanFault)) → first_fault xs ≡ None → first_fault (xs ++ ys) ≡ first_fault ys
first_append [] ys e = refl
first_append (None ∷ xs) ys e = first_append xs ys e
first_append (Some f ∷ xs) ys e = absurd (cc)

-- two judgements that find nothing
pub first_two : (a b : Option ScanFault) → a ≡ None → b ≡ None → first_fault (a ∷ b ∷ []) ≡ None
first_two a b p q = ap (λ (a : Option ScanFault). first_fault (a ∷ b ∷ [])) p
    ∙ ap (λ (b : Option ScanFault). first_fault (None ∷ b ∷ [])) q

-- four judgements that find nothing
first_four : (a b c d : Option ScanFault) → a ≡ None → b ≡ None → c ≡ None → d ≡ None
    → first_fault (a ∷ b ∷ c ∷ d ∷ []) ≡ None
first_four a b c d p q r s =
    ap (λ (a : Option ScanFault). first_fault (a ∷ b ∷ c ∷ d ∷ [])) p
    ∙ ap (λ (b : Option ScanFault). first_fault (None ∷ b ∷ c ∷ d ∷ [])) q
    ∙ first_two c d r s

-- a choice by a condition that holds is the first
pub chosen : {A : Type 0} (b : Bool) (x y : A) → b ≡ true → (if b then x else y) ≡ x
chosen true x y e = refl
chosen false x y e = absurd (cc)

-- ---- parts without fault

-- a field that is there is judged by its value
pub on_is : {A : Type 0} (o : Option Nbt) (t : Nbt) (missing : A) (present : Nbt → A) → o ≡ Some t
    → on_field o missing present ≡ present t
on_is o t missing present e = ap (λ (o : Option Nbt). on_field o missing present) e

-- the items made of a list, as a list, are that list
pub listed-items_of : (ts : List Nbt) → listed (items_of ts) ≡ ts
listed-items_of [] = refl
listed-items_of (t ∷ ts) = ap (λ (us : List Nbt). t ∷ us) (listed-items_of ts)

-- the items of a list, made to items again, are those
pub items_of-listed : (items : Items) → items_of (listed items) ≡ items
items_of-listed no_items = refl
items_of-listed (item t ts) = ap (λ (us : Items). item t us) (items_of-listed ts)

-- a list of compounds
pub on_all : {A : Type 0} (ts : List Nbt) (wrong : A) (right : List Nbt → A) → are_compounds ts ≡ true
    → on_compounds wrong right (list (items_of ts)) ≡ right ts
on_all ts wrong right e =
    ap (λ (us : List Nbt). if are_compounds us then right us else wrong) (listed-items_of ts)
    ∙ chosen (are_compounds ts) (right ts) wrong e

-- what has a field is a compound
pub has_compound : (name : List ℕ) (t found : Nbt) → field name t ≡ Some found → is_compound t ≡ true
has_compound name (leaf v) found e = absurd (cc)
has_compound name (list ts) found e = absurd (cc)
has_compound name (compound ms) found e = refl

-- where only compounds tell something, items that each tell something are compounds
pub are_all : {X : Type 0} (Is : Nbt → X → Type 0) → ((t : Nbt) (x : X) → Is t x → is_compound t ≡ true)
    → (ts : List Nbt) (xs : List X) → AreEach Is ts xs → are_compounds ts ≡ true
are_all Is h [] [] e = refl
are_all Is h [] (x ∷ xs) e = absurd e
are_all Is h (t ∷ ts) [] e = absurd e
are_all Is h (t ∷ ts) (x ∷ xs) e = true_both (is_compound t) (are_compounds ts) (h t x e.0) (are_all Is h ts xs e.1)

-- as many things are told as there are items
pub each_count : {X : Type 0} (Is : Nbt → X → Type 0) (ts : List Nbt) (xs : List X) → AreEach Is ts xs
    → length ts ≡ length xs
each_count Is [] [] e = refl
each_count Is [] (x ∷ xs) e = absurd e
each_count Is (t ∷ ts) [] e = absurd e
each_count Is (t ∷ ts) (x ∷ xs) e = ap suc (each_count Is ts xs e.1)

-- each value is what it should be, and none has a fault
each_clean : {X : Type 0} (Is : Nbt → X → Type 0) (Good : X → Type 0) (judge : ℕ → Nbt → List (Option ScanFault))
    → ((i : ℕ) (t : Nbt) (x : X) → Is t x → Good x → first_fault (judge i t) ≡ None)
    → (ts : List Nbt) (xs : List X) (from : ℕ) → AreEach Is ts xs → All Good xs
    → first_fault (each_from from judge ts) ≡ None
each_clean Is Good judge h [] [] from e g = refl
each_clean Is Good judge h [] (x ∷ xs) from e g = absurd e
each_clean Is Good judge h (t ∷ ts) [] from e g = absurd e
each_clean Is Good judge h (t ∷ ts) (x ∷ xs) from e g =
    first_append (judge from t) (each_from (suc from) judge ts) (h from t x e.0 (All-head Good x xs g))
    ∙ each_clean Is Good judge h ts xs (suc from) e.1 (All-tail Good x xs g)

-- a field whose items each tell something good has no fault
list_clean : {X : Type 0} (Is : Nbt → X → Type 0) (Good : X → Type 0) (of : Field)
    (judge : ℕ → Nbt → List (Option ScanFault)) → ((t : Nbt) (x : X) → Is t x → is_compound t ≡ true)
    → ((i : ℕ) (t : Nbt) (x : X) → Is t x → Good x → first_fault (judge i t) ≡ None)
    → (found : Option Nbt) (xs : List X) → IsListOf Is found xs → All Good xs → list_fault of judge found ≡ None
list_clean Is Good of judge c h found xs l g =
    on_is found (list (items_of l.0)) _ _ l.1
    ∙ on_all l.0 (Some (faults.WrongType of)) (λ (ts : List Nbt). first_fault (each_from 0 judge ts))
    (are_all Is c l.0 xs l.2)
    ∙ each_clean Is Good judge h l.0 xs 0 l.2 g

-- what tells a block state is a compound
pub state_compound : (t : Nbt) (state : BlockState) → IsEntryState t state → is_compound t ≡ true
state_compound t state h = has_compound (codes "Name") t (leaf (values.text state.name)) h.named

-- what tells an entry of the blocks is a compound
pub entry_compound : (t : Nbt) (entry : Entry) → IsEntryOf t entry → is_compound t ≡ true
entry_compound t entry h = has_compound (codes "pos") t (point_value entry.at) h.placed

-- what tells a block state has a name without a fault
name_clean : (i : ℕ) (t : Nbt) (state : BlockState) → IsEntryState t state → first_fault (name_fault i t) ≡ None
name_clean i t state s = ap (λ (o : Option ScanFault). first_fault (o ∷ []))
    (on_is (field (codes "Name") t) (leaf (values.text state.name)) _ _ s.named)

-- what tells an entry in the box, of a state of the palette, has no fault
pub entry_clean : (size : Point) (states i : ℕ) (t : Nbt) (entry : Entry) → IsEntryOf t entry
    → (IsTrue (is_within size entry.at) × (entry.state < states)) → first_fault (entry_faults size states i t) ≡ None
entry_clean size states i t entry e g = first_two _ _
    (on_is (field (codes "pos") t) (point_value entry.at) _ _ e.placed ∙ chosen (is_within size entry.at) _ _ g.0)
    (on_is (field (codes "state") t) (leaf (values.int (pos entry.state))) _ _ e.indexed
    ∙ chosen (nat_lt entry.state states) _ _ (lt-ltb entry.state states g.1))

-- the size and the count of states that a structure's root tells
pub size_told : (root : Nbt) (size : Point) → field (codes "size") root ≡ Some (point_value size)
    → told_size root ≡ size
size_told root size e = on_is (field (codes "size") root) (point_value size) _ _ e

-- a root tells as many states as its palette has
pub states_told : (root : Nbt) (palette : List BlockState)
    → IsListOf IsEntryState (field (codes "palette") root) palette
    → told_states root ≡ length palette
states_told root palette s =
    on_is (field (codes "palette") root) (list (items_of s.0)) _ _ s.1
    ∙ on_all s.0 0 length (are_all IsEntryState state_compound s.0 palette s.2)
    ∙ each_count IsEntryState s.0 palette s.2

-- a structure has no fault
pub structure_clean : (root : Nbt) (scan : Structure) → IsScanOf root scan → fault_of root ≡ None
structure_clean root scan s = first_four _ _ _ _
    (on_is (field (codes "size") root) (point_value scan.size) _ _ s.sized ∙ chosen (is_small scan.size) _ _ s.small)
    (ap (λ (o : Option Nbt). on_field o None (λ (t : Nbt). Some faults.Palettes)) s.single)
    (list_clean IsEntryState (λ state. Unit {0}) PaletteField name_fault state_compound
    (λ i t state h u. name_clean i t state h) (field (codes "palette") root) scan.palette s.states (λ k d h. tt))
    (list_clean IsEntryOf (λ entry. IsTrue (is_within scan.size entry.at) × (entry.state < length scan.palette))
    BlocksField (entry_faults (told_size root) (told_states root)) entry_compound
    (λ i t entry h g. subst (λ (size : Point). first_fault (entry_faults size (told_states root) i t) ≡ None)
    (sym sizes) (subst (λ (n : ℕ). first_fault (entry_faults scan.size n i t) ≡ None) (sym counts)
    (entry_clean scan.size (length scan.palette) i t entry h g)))
    (field (codes "blocks") root) s.entries s.listed (λ k d h. (s.inside k d h, s.known k d h)))
  where
    sizes : told_size root ≡ scan.size
    sizes = size_told root scan.size s.sized

    counts : told_states root ≡ length scan.palette
    counts = states_told root scan.palette s.states
