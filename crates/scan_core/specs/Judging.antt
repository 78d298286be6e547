-- The words of a judgement: each part of a root is judged for a fault, or for none, and the parts have an order.
use Rattle.std.specs.Prelude.{ℕ, suc, ℤ, pos, List, [], ◌∷◌, ◌++◌, Option, Some, None, if◌then◌else◌}
use Rattle.nbt_core.specs.Value.{Nbt, leaf, list, compound, no_items, item, listed}
use Rattle.nbt_core.specs.Value as values
use Rattle.nbt_views.specs.Parts.{are_compounds}
use Rattle.cave_base.specs.Box.{Point}
use Rattle.scan_core.specs.declared.fault.ScanFault.{ScanFault}

-- of what is judged in order, each none or a fault, the first fault
abbrev pub first_fault : List (Option ScanFault) → Option ScanFault
first_fault [] = None
first_fault (None ∷ others) = first_fault others
first_fault (Some fault ∷ others) = Some fault

-- the judgements of the values, from this index on
abbrev pub each_from : ℕ → (ℕ → Nbt → List (Option ScanFault)) → List Nbt → List (Option ScanFault)
each_from index judge [] = []
each_from index judge (t ∷ ts) = judge index t ++ each_from (suc index) judge ts

-- one answer where a field is missing, and one for its value
abbrev pub on_field : {A : Type 0} → Option Nbt → A → (Nbt → A) → A
on_field None missing present = missing
on_field (Some t) missing present = present t

-- the three numbers as coordinates, where none is negative
abbrev pub point_of : ℤ → ℤ → ℤ → Option Point
point_of (pos x) (pos y) (pos z) = Some (record { x = x; y = y; z = z })
point_of x y z = None

-- what three Ints give, or this where it is something else
abbrev pub on_triple : {A : Type 0} → A → (Option Point → A) → Nbt → A
on_triple wrong right (list (item (leaf (values.int x))
    (item (leaf (values.int y)) (item (leaf (values.int z)) no_items)))) = right (point_of x y z)
on_triple wrong right t = wrong

-- what the compounds of a list give, or this where it is something else
abbrev pub on_compounds : {A : Type 0} → A → (List Nbt → A) → Nbt → A
on_compounds wrong right (list ts) = if are_compounds (listed ts) then right (listed ts) else wrong
on_compounds wrong right t = wrong

-- one answer for a String, or this where it is something else
abbrev pub on_text : {A : Type 0} → A → A → Nbt → A
on_text wrong right (leaf (values.text t)) = right
on_text wrong right t = wrong

-- what an Int gives, or this where it is something else
abbrev pub on_int : {A : Type 0} → A → (ℤ → A) → Nbt → A
on_int wrong right (leaf (values.int n)) = right n
on_int wrong right t = wrong
