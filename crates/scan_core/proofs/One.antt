-- A root tells one structure.
use Rattle.std.proofs.Common.{◌≡◌, ℕ, pos, ◌<◌, List, [], ◌∷◌, length, codes, Option, Some, None, refl, sym, ap}
use Rattle.std.proofs.Common.{subst, ◌∙◌, ext_get_or}
use Rattle.nbt_core.specs.Value.{Nbt, leaf, list, Items, no_items, item, field, items_of, listed}
use Rattle.nbt_core.specs.Value as values
use Rattle.cave_base.specs.Box.{Point, cell_count}
use Rattle.scan_core.specs.Scan.{Structure, Entry, point_value, last_state, IsEntryState, IsEntryOf, AreEach, IsListOf}
use Rattle.scan_core.specs.Scan.{IsScanOf}
use Rattle.scan_core.specs.declared.state.BlockState.{BlockState}
use Rattle.cave_base.proofs.CellLemmas.{point_is}
use Rattle.scan_core.proofs.ScanLemmas.{listed-items_of}

-- two values that are there and equal
pub same_some : {X : Type 0} (a b : X) → ◌≡◌ {A = Option X} (Some a) (Some b) → a ≡ b
same_some a b e = cc

-- equal Strings have equal bytes
same_text : (a b : List ℕ) → leaf (values.text a) ≡ leaf (values.text b) → a ≡ b
same_text a b e = cc

-- equal lists have equal items
same_items : (a b : Items) → list a ≡ list b → a ≡ b
same_items a b e = cc

-- a list has one list of values
pub same_list : (a b : List Nbt) → list (items_of a) ≡ list (items_of b) → a ≡ b
same_list a b e = sym (listed-items_of a) ∙ ap listed (same_items (items_of a) (items_of b) e) ∙ listed-items_of b

-- equal Ints have equal numbers
same_int : (a b : ℕ) → leaf (values.int (pos a)) ≡ leaf (values.int (pos b)) → a ≡ b
same_int a b e = cc

-- lists of three Ints that spell two points spell one
same_point : (a b : Point) → point_value a ≡ point_value b → a ≡ b
same_point a b e =
    let x : a.x ≡ b.x = cc in
    let y : a.y ≡ b.y = cc in
    let z : a.z ≡ b.z = cc in
    point_is a.x a.y a.z b.x b.y b.z x y z

-- block states with equal parts are equal
state_is : (n n' : List ℕ) (p p' : List (List ℕ × List ℕ)) → n ≡ n' → p ≡ p'
    → ◌≡◌ {A = BlockState} (record { name = n; props = p }) (record { name = n'; props = p' })
state_is n n' p p' e f = cc

-- a compound tells at most one block state
same_state : (t : Nbt) (a b : BlockState) → IsEntryState t a → IsEntryState t b → a ≡ b
same_state t a b p q = state_is a.name b.name a.props b.props
    (same_text a.name b.name (same_some _ _ (sym p.named ∙ q.named))) (p.told ∙ sym q.told)

-- entries with equal parts are equal
entry_is : (a a' : Point) (s s' : ℕ) → a ≡ a' → s ≡ s'
    → ◌≡◌ {A = Entry} (record { at = a; state = s }) (record { at = a'; state = s' })
entry_is a a' s s' e f = cc

-- a compound tells at most one entry of the blocks
same_entry : (t : Nbt) (a b : Entry) → IsEntryOf t a → IsEntryOf t b → a ≡ b
same_entry t a b p q = entry_is a.at b.at a.state b.state (same_point a.at b.at
    (same_some _ _ (sym p.placed ∙ q.placed))) (same_int a.state b.state (same_some _ _ (sym p.indexed ∙ q.indexed)))

-- lists with equal parts are equal
cons_is : {X : Type 0} (x y : X) (xs ys : List X) → x ≡ y → xs ≡ ys → x ∷ xs ≡ y ∷ ys
cons_is x y xs ys e f = cc

-- values that each tell at most one thing tell at most one list of them
same_each : {X : Type 0} (Is : Nbt → X → Type 0) → ((t : Nbt) (x y : X) → Is t x → Is t y → x ≡ y)
    → (ts : List Nbt) (xs ys : List X) → AreEach Is ts xs → AreEach Is ts ys → xs ≡ ys
same_each Is h [] [] [] p q = refl
same_each Is h [] [] (y ∷ ys) p q = absurd q
same_each Is h [] (x ∷ xs) ys p q = absurd p
same_each Is h (t ∷ ts) [] ys p q = absurd p
same_each Is h (t ∷ ts) (x ∷ xs) [] p q = absurd q
same_each Is h (t ∷ ts) (x ∷ xs) (y ∷ ys) p q = cons_is x y xs ys (h t x y p.0 q.0) (same_each Is h ts xs ys p.1 q.1)

-- a field whose values each tell at most one thing tells at most one list
same_values : {X : Type 0} (Is : Nbt → X → Type 0) → ((t : Nbt) (x y : X) → Is t x → Is t y → x ≡ y)
    → (found : Option Nbt) (xs ys : List X) → IsListOf Is found xs → IsListOf Is found ys → xs ≡ ys
same_values Is h found xs ys p q = same_each Is h p.0 xs ys p.2
    (subst (λ (ts : List Nbt). AreEach Is ts ys) (sym (same_list p.0 q.0 (same_some _ _ (sym p.1 ∙ q.1)))) q.2)

-- structures with equal parts are equal
structure_is : (s s' : Point) (p p' : List BlockState) (c c' : List (Option ℕ)) → s ≡ s' → p ≡ p' → c ≡ c'
    → ◌≡◌ {A = Structure} (record { size = s; palette = p; cells = c }) (record { size = s'; palette = p'; cells = c' })
structure_is s s' p p' c c' e f g = cc

-- a root tells at most one structure
pub one_structure : (root : Nbt) (a b : Structure) → IsScanOf root a → IsScanOf root b → a ≡ b
one_structure root a b p q =
    let size : a.size ≡ b.size = same_point a.size b.size (same_some _ _ (sym p.sized ∙ q.sized)) in
    let palette : a.palette ≡ b.palette = same_values IsEntryState same_state (field (codes "palette") root) a.palette
    b.palette p.states q.states in
    let entries : p.entries ≡ q.entries = same_values IsEntryOf same_entry (field (codes "blocks") root) p.entries
    q.entries p.listed q.listed in
    let lengths : length a.cells ≡ length b.cells = p.whole ∙ ap cell_count size ∙ sym q.whole in
    structure_is a.size b.size a.palette b.palette a.cells b.cells size palette
    (ext_get_or None a.cells b.cells lengths λ i h.
    (let ha : i < cell_count a.size = subst (λ (n : ℕ). i < n) p.whole h in
    let hb : i < cell_count b.size = subst (λ (size : Point). i < cell_count size) size ha in
    p.last i ha ∙ ap (λ (size : Point). last_state size i p.entries) size
    ∙ ap (λ (entries : List Entry). last_state b.size i entries) entries ∙ sym (q.last i hb)))
