-- What single values tell.
use Rattle.std.proofs.Common.{◌≡◌, ◌≢◌, ℤ, pos, negsuc, true, false, List, [], ◌∷◌, length, Option, Some, None}
use Rattle.std.proofs.Common.{refl, sym, ap, ◌∙◌, arith}
use Rattle.std.proofs.lemmas.List.{nil_from_length}
use Rattle.nbt_core.specs.Value.{Nbt, leaf, list, compound, items_of, listed}
use Rattle.nbt_core.specs.Value as values
use Rattle.nbt_views.specs.Parts.{items_in, are_compounds}
use Rattle.cave_base.specs.Box.{Point}
use Rattle.scan_core.specs.Judging.{on_triple, point_of}
use Rattle.scan_core.specs.Scan.{point_value, triple}
use Rattle.scan_core.specs.Told.{AreCompoundsOf, triple_value}
use Rattle.scan_core.proofs.ScanLemmas.{listed-items_of, items_of-listed}

-- the items of a list
pub list_of : (t : Nbt) (ts : List Nbt) → Some ts ≡ items_in t → t ≡ list (items_of ts)
list_of (list items) ts e =
    let same : ts ≡ listed items = cc in
    ap list (sym (ap items_of same ∙ items_of-listed items))
list_of (leaf v) ts e = absurd cc
list_of (compound ms) ts e = absurd cc

-- a value without items is no list
pub no_list : (t : Nbt) (items : values.Items) → ◌≡◌ {A = Option (List Nbt)} None (items_in t) → t ≢ list items
no_list t items e f =
    let some : items_in t ≡ Some (listed items) = ap items_in f in
    cc

-- the items of a list have no other items
pub items_same : (t : Nbt) (ts us : List Nbt) → Some ts ≡ items_in t → t ≡ list (items_of us) → ts ≡ us
items_same t ts us e f =
    let some : items_in t ≡ Some (listed (items_of us)) = ap items_in f in
    let same : ts ≡ listed (items_of us) = cc in
    same ∙ listed-items_of us

-- items that are compounds
pub compounds_read : (t : Nbt) (ts : List Nbt) → Some ts ≡ items_in t → are_compounds ts ≡ true
    → AreCompoundsOf t (Some ts)
compounds_read t ts e all = (list_of t ts e, all)

-- items of which some are none
pub compounds_not_read : (t : Nbt) (ts : List Nbt) → Some ts ≡ items_in t → are_compounds ts ≡ false
    → AreCompoundsOf t None
compounds_not_read t ts e some = λ us f. ap are_compounds (sym (items_same t ts us e f)) ∙ some

-- three items that are Ints are a list of three Ints
pub three_read : (t : Nbt) (ts rest1 rest2 rest3 : List Nbt) (i j k : ℤ) → Some ts ≡ items_in t → length ts ≡ 3
    → ts ≡ leaf (values.int i) ∷ rest1 → rest1 ≡ leaf (values.int j) ∷ rest2 → rest2 ≡ leaf (values.int k) ∷ rest3
    → t ≡ triple_value (i ∷ j ∷ k ∷ [])
three_read t ts rest1 rest2 rest3 i j k e len p q r =
    let none : rest3 ≡ [] = nil_from_length rest3 (omega (arith, len, ap length p, ap length q, ap length r)) in
    let all : ts ≡ leaf (values.int i) ∷ leaf (values.int j) ∷ leaf (values.int k) ∷ [] = cc in
    list_of t ts e ∙ ap (λ (us : List Nbt). list (items_of us)) all

-- the judgement of what is no list of three Ints
pub on_triple-wrong : {A : Type 0} (wrong : A) (right : Option Point → A) (t : Nbt)
    → ((ns : List ℤ) → t ≢ triple_value ns) → on_triple wrong right t ≡ wrong
on_triple-wrong wrong right (list (values.item (leaf (values.int x))
    (values.item (leaf (values.int y)) (values.item (leaf (values.int z)) values.no_items)))) other = absurd
    (other (x ∷ y ∷ z ∷ []) refl)
on_triple-wrong wrong right t other = refl

-- three numbers that are coordinates are those of the point
pub point_triple : (x y z : ℤ) (at : Point) → Some at ≡ point_of x y z → triple x y z ≡ point_value at
point_triple (pos x) (pos y) (pos z) at e =
    let same : at ≡ record { x = x; y = y; z = z } = cc in ap point_value (sym same)
point_triple (negsuc x) y z at e = absurd cc
point_triple (pos x) (negsuc y) z at e = absurd cc
point_triple (pos x) (pos y) (negsuc z) at e = absurd cc
