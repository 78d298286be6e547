-- How a list and a compound are read, step by step.
use Rattle.std.proofs.Common.{◌≡◌, ◌≢◌, ℕ, ◌-◌, List, Bool, true, false, cond, length, Option, Some, None, Ok, Err}
use Rattle.std.proofs.Common.{refl}
use Rattle.std.proofs.lemmas.Bool.{eqb-true}
use Rattle.nbt_core.specs.declared.fault.NbtFault.{NbtFault}
use Rattle.nbt_core.specs.declared.fault.NbtFault.TheVariants.{BadLength}
use Rattle.nbt_core.specs.declared.kind.Kind.{Kind}
use Rattle.nbt_core.specs.Value.{Nbt, list, Items, no_items, Members, compound}
use Rattle.nbt_core.specs.Reading.{Reads, Fails, count_at, kind_at}
use Rattle.nbt_core.specs.TreeReading.{items_at, members_at, list_at, compound_at}
use Rattle.nbt_core.proofs.Steps.{fails_too}

second : {A : Type 0} (b : Bool) (x y : A) → b ≢ true → cond b x y ≡ y
second true x y h = absurd (h refl)
second false x y h = refl

module _ (end : ℕ) (inner : Kind → List ℕ → Reads Nbt) (bytes : List ℕ) where
  pub list_no_kind : (e : NbtFault) → Fails e (kind_at end bytes) → Fails e (list_at end inner bytes)
  unfolding list_at
  list_no_kind e fails = fails_too e (kind_at end bytes) (list_at end inner bytes) (λ h. rw h refl) fails

  pub list_no_count : (kind : Option Kind) (b1 : List ℕ) (e : NbtFault) → kind_at end bytes ≡ Ok (kind, b1)
      → Fails e (count_at end b1) → Fails e (list_at end inner bytes)
  unfolding list_at
  list_no_count kind b1 e h1 fails = fails_too e (count_at end b1) (list_at end inner bytes)
      (λ h. rw (h1, h) refl) fails

  pub list_no_items : (kind : Kind) (b1 : List ℕ) (count : ℕ) (b2 : List ℕ) (e : NbtFault)
      → kind_at end bytes ≡ Ok (Some kind, b1) → count_at end b1 ≡ Ok (count, b2)
      → Fails e (items_at (inner kind) count b2) → Fails e (list_at end inner bytes)
  unfolding list_at
  list_no_items kind b1 count b2 e h1 h2 fails = fails_too e (items_at (inner kind) count b2)
      (list_at end inner bytes) (λ h. rw (h1, h2, h) refl) fails

  pub list_full : (kind : Kind) (b1 : List ℕ) (count : ℕ) (b2 : List ℕ) (ts : Items) (b3 : List ℕ)
      → kind_at end bytes ≡ Ok (Some kind, b1) → count_at end b1 ≡ Ok (count, b2)
      → items_at (inner kind) count b2 ≡ Ok (ts, b3) → list_at end inner bytes ≡ Ok (list ts, b3)
  unfolding list_at
  list_full kind b1 count b2 ts b3 h1 h2 h3 = rw (h1, h2, h3) refl

  pub list_empty : (b1 : List ℕ) (count : ℕ) (b2 : List ℕ) → kind_at end bytes ≡ Ok (None, b1)
      → count_at end b1 ≡ Ok (count, b2) → count ≡ 0
      → list_at end inner bytes ≡ Ok (list no_items, b2)
  unfolding list_at
  list_empty b1 count b2 h1 h2 none = rw (h1, h2, none) refl

  pub list_bad : (b1 : List ℕ) (count : ℕ) (b2 : List ℕ) → kind_at end bytes ≡ Ok (None, b1)
      → count_at end b1 ≡ Ok (count, b2) → count ≢ 0
      → list_at end inner bytes ≡ Err (BadLength (end - length b1))
  unfolding list_at
  list_bad b1 count b2 h1 h2 some = rw (h1, h2) (second _ _ _ (λ e. some (eqb-true _ _ e)))

  pub compound_full : (ms : Members) (b1 : List ℕ) → members_at end inner (length bytes) bytes ≡ Ok (ms, b1)
      → compound_at end inner bytes ≡ Ok (compound ms, b1)
  unfolding compound_at
  compound_full ms b1 h = rw h refl

  pub compound_fails : (e : NbtFault) → Fails e (members_at end inner (length bytes) bytes)
      → Fails e (compound_at end inner bytes)
  unfolding compound_at
  compound_fails e fails = fails_too e (members_at end inner (length bytes) bytes) (compound_at end inner bytes)
      (λ h. rw h refl) fails
