-- Items that are Ints, one after another.
use Rattle.std.proofs.Common.{◌≡◌, ◌≢◌, ℕ, zero, suc, ◌<◌, ℤ, Bool, false, List, [], ◌∷◌, Ok, IsTrue, sym, ap, ◌∙◌}
use Rattle.std.proofs.Common.{arith}
use Rattle.std.specs.Prelude.{◌↔◌}
use Rattle.nbt_core.specs.declared.kind.Kind.{Kind}
use Rattle.nbt_core.specs.declared.kind.Kind.TheVariants as kinds
use Rattle.nbt_core.specs.declared.kind.LeafKind.TheVariants as leaves
use Rattle.nbt_core.specs.Value.{Nbt, leaf, Items, no_items, listed}
use Rattle.nbt_core.specs.Value as values
use Rattle.nbt_core.specs.Reading.{Reads, mapped, int_at}
use Rattle.nbt_core.specs.LeafReading.{leaf_at}
use Rattle.nbt_core.specs.TreeReading.{value_at}
use Rattle.nbt_core.proofs.Steps.{value_leaf}
use Rattle.nbt_views.specs.Borrowed.{read_or, item_values, ArePayloads}
use Rattle.nbt_views.proofs.KindLemmas.{kind_of, kind_read, differ}
use Rattle.nbt_views.proofs.ItemLemmas.{first_item}

-- an Int that is read is passed over as a payload
pub int_passed : (end room : ℕ) (kind : Kind) (bytes : List ℕ) (n : ℤ) (left : List ℕ)
    → kind ≡ kinds.Leaf leaves.Int → int_at end bytes ≡ Ok (n, left)
    → value_at end room kind bytes ≡ Ok (leaf (values.int n), left)
unfolding leaf_at
int_passed end room kind bytes n left k h =
    ap (λ (k : Kind). value_at end room k bytes) k ∙ value_leaf end bytes room leaves.Int
    ∙ ap (λ (r : Reads ℤ). mapped leaf (mapped values.int r)) h

-- a list without items has no first Int
pub no_first_int : (all : List Nbt) → all ≡ [] → (n : ℤ) (others : List Nbt) → all ≢ leaf (values.int n) ∷ others
no_first_int all none n others e = cc

-- the first item of another kind is no Int
pub other_first : (end room : ℕ) (kind : Kind) (count : ℕ) (bytes : List ℕ) (same : Bool)
    → ArePayloads end room kind count bytes → 0 < count → (IsTrue same ↔ (kind ≡ kinds.Leaf leaves.Int))
    → same ≡ false → (all : List Nbt) → item_values end room kind count bytes ≡ all
    → (n : ℤ) (others : List Nbt) → all ≢ leaf (values.int n) ∷ others
other_first end room kind zero bytes same p some iff failed all v n others e = absurd (omega (arith, some))
other_first end room kind (suc m) bytes same p some iff failed all v n others e =
    let x : Items × List ℕ = (p.whole.whole.value, p.whole.left) in
    let f = first_item (value_at end room kind) m bytes x p.whole.whole.is in
    let told : all ≡ listed x.0 =
    sym v ∙ ap (λ (r : Reads Items). listed (read_or no_items r)) p.whole.whole.is in
    let parts : listed x.0 ≡ f.0.0 ∷ listed f.1.0 = ap (λ (y : Items × List ℕ). listed y.0) (sym f.4) in
    let first : f.0.0 ≡ leaf (values.int n) = cc in
    differ same kind (kinds.Leaf leaves.Int) iff failed
    (kind_read end room kind bytes f.0 p.shallow f.2 ∙ ap kind_of first)
