-- Payloads of one kind that are read without a fault, one after another.
use Rattle.std.proofs.Common.{◌≡◌, ◌≢◌, ℕ, zero, suc, ◌-◌, ◌<◌, ◌≤◌, Bool, true, false, ◌&&◌, List, [], ◌∷◌, length}
use Rattle.std.proofs.Common.{Ok, IsTrue, refl, sym, ap, ◌∙◌, arith}
use Rattle.std.specs.Prelude.{◌↔◌}
use Rattle.nbt_core.specs.declared.fault.NbtFault.{NbtFault}
use Rattle.nbt_core.specs.declared.fault.NbtFault.TheVariants.{OutOfMemory}
use Rattle.nbt_core.specs.declared.kind.Kind.{Kind}
use Rattle.nbt_core.specs.declared.kind.Kind.TheVariants as kinds
use Rattle.nbt_core.specs.Value.{Nbt, Items, no_items, item, listed}
use Rattle.nbt_core.specs.Reading.{Reads, mapped, Fails}
use Rattle.nbt_core.specs.TreeReading.{items_at, value_at}
use Rattle.nbt_core.proofs.Results.{bind_ok, mapped_ok, ok_is}
use Rattle.nbt_core.proofs.Steps.{fails_too}
use Rattle.nbt_views.specs.Borrowed.{IsReadable, read_or, item_values, ArePayloads}
use Rattle.nbt_views.specs.Parts.{are_compounds}
use Rattle.nbt_views.proofs.KindLemmas.{never, kind_read, compound_kind, other_compound, differ}

-- after an item, the others
pub record ItemNext (one : List ℕ → Reads Nbt) (count : ℕ) (bytes : List ℕ) (t : Nbt) (left : List ℕ) : Type 0 where
  pub whole : IsReadable (items_at one (count - 1) left)
  pub is : listed (read_or no_items (items_at one count bytes))
      ≡ t ∷ listed (read_or no_items (items_at one (count - 1) left))

module _ (one : List ℕ → Reads Nbt) where
  -- an item, and the others after it
  pub item_next : (count : ℕ) (bytes : List ℕ) (t : Nbt) (left : List ℕ) → 0 < count → one bytes ≡ Ok (t, left)
      → IsReadable (items_at one count bytes) → ItemNext one count bytes t left
  unfolding items_at
  item_next zero bytes t left lt h w = absurd (omega (arith, lt))
  item_next (suc n) bytes t left lt h w =
      let less : suc n - 1 ≡ n = omega arith in
      let read : items_at one (suc n) bytes ≡ mapped (item t) (items_at one n left) = rw h refl in
      let d = mapped_ok (item t) (items_at one n left) (w.whole.value, w.left) (sym read ∙ w.whole.is) in
      record {
        whole = rw less (let w : IsReadable (items_at one n left) =
            record { left = d.0.1; whole = record { value = d.0.0; is = d.1 } } in w);
        is = rw less (ap (λ (r : Reads Items). listed (read_or no_items r)) read
            ∙ ap (λ (r : Reads Items). listed (read_or no_items (mapped (item t) r))) d.1
            ∙ ap (λ (r : Reads Items). t ∷ listed (read_or no_items r)) (sym d.1));
      }

  -- an item is read without a fault
  pub item_read : (count : ℕ) (bytes : List ℕ) (e : NbtFault) → 0 < count
      → IsReadable (items_at one count bytes) → Fails e (one bytes) → e ≢ OutOfMemory → ⊥
  unfolding items_at
  item_read zero bytes e lt w fails other = omega (arith, lt)
  item_read (suc n) bytes e lt w fails other = never (items_at one (suc n) bytes) e w
      (fails_too e (one bytes) (items_at one (suc n) bytes) (λ h. rw h refl) fails) other

  -- the first of the items
  pub first_item : (n : ℕ) (bytes : List ℕ) (x : Items × List ℕ) → items_at one (suc n) bytes ≡ Ok x
      → (t : Nbt × List ℕ) × (y : Items × List ℕ) × (one bytes ≡ Ok t) × (items_at one n t.1 ≡ Ok y)
      × ((item t.0 y.0, y.1) ≡ x)
  unfolding items_at
  first_item n bytes x e =
      let a = bind_ok (one bytes) (λ first. mapped (item first.0) (items_at one n first.1)) x e in
      let d = mapped_ok (item a.0.0) (items_at one n a.0.1) x a.2 in
      (a.0, d.0, a.1, d.1, d.2)

-- items of the kind of compounds are compounds
all_compounds : (end room : ℕ) → room ≤ 512 → (n : ℕ) (bytes : List ℕ) (x : Items × List ℕ)
    → items_at (value_at end room kinds.Compound) n bytes ≡ Ok x → are_compounds (listed x.0) ≡ true
unfolding items_at
all_compounds end room shallow zero bytes x e = ap (λ (y : Items × List ℕ). are_compounds (listed y.0))
    (sym (ok_is (no_items, bytes) x e))
all_compounds end room shallow (suc n) bytes x e =
    let f = first_item (value_at end room kinds.Compound) n bytes x e in
    let here = compound_kind f.0.0 (kind_read end room kinds.Compound bytes f.0 shallow f.2) in
    let others = all_compounds end room shallow n f.0.1 f.1 f.3 in
    ap (λ (y : Items × List ℕ). are_compounds (listed y.0)) (sym f.4) ∙ both here others
  where
    both : {a b : Bool} → a ≡ true → b ≡ true → (a && b) ≡ true
    both p q = rw (p, q) refl

-- items of another kind are none, where there are some
not_compounds : (end room : ℕ) → room ≤ 512 → (kind : Kind) → kind ≢ kinds.Compound → (n : ℕ) → 0 < n
    → (bytes : List ℕ) (x : Items × List ℕ) → items_at (value_at end room kind) n bytes ≡ Ok x
    → are_compounds (listed x.0) ≡ false
not_compounds end room shallow kind other zero lt bytes x e = absurd (omega (arith, lt))
not_compounds end room shallow kind other (suc n) lt bytes x e =
    let f = first_item (value_at end room kind) n bytes x e in
    let here = other_compound f.0.0
    (λ e. other (kind_read end room kind bytes f.0 shallow f.2 ∙ e)) in
    ap (λ (y : Items × List ℕ). are_compounds (listed y.0)) (sym f.4) ∙ rw here refl

-- two tests that agree in both cases are one
by_test : (same found : Bool) → (same ≡ true → found ≡ true) → (same ≡ false → found ≡ false) → same ≡ found
by_test true found p q = sym (p refl)
by_test false found p q = sym (q refl)

-- whether items are compounds, as a test of their kind tells it
pub compounds_by_kind : (end room : ℕ) (kind : Kind) (count : ℕ) (bytes : List ℕ) (same : Bool)
    → ArePayloads end room kind count bytes → 0 < count → (IsTrue same ↔ (kind ≡ kinds.Compound))
    → same ≡ are_compounds (item_values end room kind count bytes)
compounds_by_kind end room kind count bytes same p lt iff =
    let x : Items × List ℕ = (p.whole.whole.value, p.whole.left) in
    let found = ap (λ (r : Reads Items). are_compounds (listed (read_or no_items r))) p.whole.whole.is in
    by_test same (are_compounds (item_values end room kind count bytes))
    (λ yes. found ∙ all_compounds end room p.shallow count bytes x
    (ap (λ (k : Kind). items_at (value_at end room k) count bytes) (sym (iff.0 yes)) ∙ p.whole.whole.is))
    (λ no. found ∙ not_compounds end room p.shallow kind (differ same kind kinds.Compound iff no) count lt bytes x
    p.whole.whole.is)

-- ---- how many there are

-- there are as many items as the count says
counted : (one : List ℕ → Reads Nbt) (n : ℕ) (bytes : List ℕ) (x : Items × List ℕ) → items_at one n bytes ≡ Ok x
    → n ≡ length (listed x.0)
unfolding items_at
counted one zero bytes x e = ap (λ (y : Items × List ℕ). length (listed y.0)) (ok_is (no_items, bytes) x e)
counted one (suc n) bytes x e =
    let f = first_item one n bytes x e in
    ap suc (counted one n f.0.1 f.1 f.3) ∙ ap (λ (y : Items × List ℕ). length (listed y.0)) f.4

-- the same of values that are still to come
pub items_counted : (end room : ℕ) (kind : Kind) (count : ℕ) (bytes : List ℕ)
    → ArePayloads end room kind count bytes → (all : List Nbt) → item_values end room kind count bytes ≡ all
    → count ≡ length all
items_counted end room kind count bytes p all v =
    counted (value_at end room kind) count bytes (p.whole.whole.value, p.whole.left) p.whole.whole.is
    ∙ sym (ap (λ (r : Reads Items). length (listed (read_or no_items r))) p.whole.whole.is) ∙ ap length v

-- payloads of which there are none
pub none_listed : (end room : ℕ) (kind : Kind) (bytes : List ℕ) → item_values end room kind 0 bytes ≡ []
unfolding items_at
none_listed end room kind bytes = refl

-- where there are none
pub items_none : (end room : ℕ) (kind : Kind) (count : ℕ) (bytes : List ℕ) (all : List Nbt)
    → item_values end room kind count bytes ≡ all → count ≡ 0 → all ≡ []
items_none end room kind count bytes all v none =
    sym v ∙ ap (λ (n : ℕ). item_values end room kind n bytes) none ∙ none_listed end room kind bytes
