-- A field that is to be a list of compounds.
use Rattle.std.proofs.Common.{◌≡◌, ℕ, Bool, true, false, List, Option, Some, None, Result, Ok, Err, inl, inr, refl}
use Rattle.std.proofs.Common.{sym, ap, ◌∙◌}
use Rattle.std.specs.Prelude.{if◌then◌else◌}
use Rattle.nbt_core.specs.Value.{Nbt, leaf, list, compound, listed}
use Rattle.scan_core.specs.Faults.{list_fault}
use Rattle.nbt_views.specs.Parts.{are_compounds}
use Rattle.scan_core.specs.Judging.{first_fault, on_compounds, each_from}
use Rattle.scan_core.specs.Answer.{TellsInRoom}
use Rattle.scan_core.specs.Scan.{AreEach, IsListOf}
use Rattle.scan_core.specs.Told.{AreCompoundsOf}
use Rattle.scan_core.specs.declared.fault.Field.{Field}
use Rattle.scan_core.specs.declared.fault.ScanFault.{ScanFault}
use Rattle.scan_core.specs.declared.fault.ScanFault.TheVariants as faults
use Rattle.scan_core.proofs.ScanLemmas.{on_is, on_all, items_of-listed}

-- a choice by a condition that fails is the second
unchosen : {A : Type 0} (b : Bool) (x y : A) → b ≡ false → (if b then x else y) ≡ y
unchosen true x y e = absurd (cc)
unchosen false x y e = refl

-- the judgement of what is no list of compounds
on_compounds-wrong : {A : Type 0} (wrong : A) (right : List Nbt → A) (t : Nbt) → AreCompoundsOf t None
    → on_compounds wrong right t ≡ wrong
on_compounds-wrong wrong right (leaf v) other = refl
on_compounds-wrong wrong right (list items) other =
    unchosen (are_compounds (listed items)) (right (listed items)) wrong
    (other (listed items) (ap list (sym (items_of-listed items))))
on_compounds-wrong wrong right (compound ms) other = refl

-- a field that is there and holds no list of compounds is of the wrong type
pub list_wrong : (of : Field) (judge : ℕ → Nbt → List (Option ScanFault)) (found : Option Nbt) (t : Nbt)
    → Some t ≡ found → AreCompoundsOf t None → list_fault of judge found ≡ Some (faults.WrongType of)
list_wrong of judge found t e other =
    on_is found t _ _ (sym e)
    ∙ on_compounds-wrong (Some (faults.WrongType of)) (λ (ts : List Nbt). first_fault (each_from 0 judge ts)) t other

-- a field that holds a list of compounds is judged as its items are
pub list_told : (of : Field) (judge : ℕ → Nbt → List (Option ScanFault)) (found : Option Nbt) (t : Nbt) (ts : List Nbt)
    → Some t ≡ found → AreCompoundsOf t (Some ts) → list_fault of judge found ≡ first_fault (each_from 0 judge ts)
list_told of judge found t ts e all =
    let each = λ (us : List Nbt). first_fault (each_from 0 judge us) in
    on_is found t _ _ (sym e)
    ∙ ap (on_compounds (Some (faults.WrongType of)) each) all.0
    ∙ on_all ts (Some (faults.WrongType of)) each all.1

-- another word for what is told, and for its judgement
pub tells_as : {X : Type 0} (P Q : X → Type 0) (judged judged' : Option ScanFault) (r : Result X ScanFault)
    → judged' ≡ judged → ((x : X) → P x → Q x) → TellsInRoom r P judged → TellsInRoom r Q judged'
tells_as P Q judged judged' (Ok x) e h t = (h x t.0, e ∙ t.1)
tells_as P Q judged judged' (Err fault) e h (inl p) = inl (e ∙ p)
tells_as P Q judged judged' (Err fault) e h (inr p) = inr p

-- what is told of the items of a field's list is told of the field
pub tells_list : {X V : Type 0} (Is : Nbt → X → Type 0) (items : V → List X) (of : Field)
    (judge : ℕ → Nbt → List (Option ScanFault)) (found : Option Nbt) (t : Nbt) (ts : List Nbt) (r : Result V ScanFault)
    → Some t ≡ found → AreCompoundsOf t (Some ts)
    → TellsInRoom r (λ v. AreEach Is ts (items v)) (first_fault (each_from 0 judge ts))
    → TellsInRoom r (λ v. IsListOf Is found (items v)) (list_fault of judge found)
tells_list {X} {V} Is items of judge found t ts r e all told =
    tells_as (λ (v : V). AreEach Is ts (items v)) (λ (v : V). IsListOf Is found (items v))
    (first_fault (each_from 0 judge ts)) (list_fault of judge found) r
    (list_told of judge found t ts e all)
    (λ v each. (ts, sym e ∙ ap (λ (u : Nbt). Some u) all.0, each))
    told
