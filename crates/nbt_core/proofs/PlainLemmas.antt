-- Entries that are an Int or a list of Ints.
use Rattle.std.proofs.Common.{◌≡◌, ℕ, ◌*◌, List, Some, Result, Ok, Err, IfOk, refl, ap, subst, ◌∙◌}
use Rattle.std.specs.Result.{result_ok}
use Rattle.nbt_core.specs.declared.fault.NbtFault.{NbtFault}
use Rattle.nbt_core.specs.declared.kind.Kind.TheVariants as kinds
use Rattle.nbt_core.specs.declared.kind.LeafKind.TheVariants as leaves
use Rattle.nbt_core.specs.Value.{list}
use Rattle.nbt_core.specs.Reading.{Reads, Gives, run_at}
use Rattle.nbt_core.specs.TreeReading.{items_at, value_at}
use Rattle.nbt_core.specs.Skipping.{AreInts, IsRead}
use Rattle.nbt_core.proofs.Steps.{value_list}
use Rattle.nbt_core.proofs.ListLemmas.{list_full}
use Rattle.nbt_core.proofs.FixedItems.{fixed_items, fixed_skips, fixed_value}

-- four bytes are an Int
pub int_skipped : (end room : ℕ) (bytes left : List ℕ) → IsRead (run_at end 4 bytes) left
    → IsRead (value_at end room (kinds.Leaf leaves.Int) bytes) left
int_skipped end room bytes left s = fixed_skips {X = ℕ} end 4 (value_at end room (kinds.Leaf leaves.Int)) (Ok 0)
    bytes left (fixed_value end room (kinds.Leaf leaves.Int) 4 refl) s

-- four bytes for each are the Ints of a list
pub ints_skipped : (end room count : ℕ) (bytes items left : List ℕ) → AreInts end room count bytes items
    → IsRead (run_at end (4 * count) items) left → IsRead (value_at end room kinds.List bytes) left
ints_skipped end room count bytes items left a run =
    let one = fixed_value end a.less (kinds.Leaf leaves.Int) 4 refl in
    let s = fixed_skips {X = ℕ} end (4 * count) (items_at (value_at end a.less (kinds.Leaf leaves.Int)) count) (Ok 0)
    items left (fixed_items end 4 (value_at end a.less (kinds.Leaf leaves.Int)) one count) run in
    record {
      value = list s.value;
      is = value_list end bytes room a.less a.deep ∙ list_full end (value_at end a.less) bytes
          (kinds.Leaf leaves.Int) a.after_kind count items s.value left a.kinded a.counted s.is;
    }

-- a value that a reader returned is what reading gives
pub given : {X Y : Type 0} (view : X → Y) (r : Result X NbtFault) (x : X) (left : List ℕ) (read : Reads Y)
    → result_ok r ≡ Some x → Gives view r left read → read ≡ Ok (view x, left)
given view (Ok y) x left read e g = let same : y ≡ x = cc in g ∙ ap (λ z. Ok (view z, left)) same
given view (Err f) x left read e g = absurd cc

-- what holds of each value that is returned holds of this one
pub holds : {X : Type 0} (Is : X → Type 0) (r : Result X NbtFault) (x : X) → result_ok r ≡ Some x → IfOk r Is → Is x
holds Is (Ok y) x e is = let same : y ≡ x = cc in subst Is same is
holds Is (Err f) x e is = absurd cc
