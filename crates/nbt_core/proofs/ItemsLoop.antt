-- Reading the items of a list one after the other, as a loop does.
use Rattle.std.proofs.Common.{◌≡◌, ℕ, suc, ◌+◌, ◌-◌, ◌≤◌, ◌<◌, List, [], ◌∷◌, ◌++◌, Ok, Err, refl, sym, ap, ◌∙◌, arith}
use Rattle.std.proofs.lemmas.List.{map_push}
use Rattle.nbt_core.specs.declared.fault.NbtFault.{NbtFault}
use Rattle.nbt_core.specs.declared.tag.Tag.{Tag}
use Rattle.nbt_core.specs.Value.{Nbt, Items, no_items, item, items_of}
use Rattle.nbt_core.specs.View.{nbt, nbts}
use Rattle.nbt_core.specs.Reading.{Reads, mapped, Fails}
use Rattle.nbt_core.specs.TreeReading.{items_at}
use Rattle.nbt_core.proofs.Steps.{fails_too}

-- the items of one list, and then those of another
abbrev pub join_items : Items → Items → Items
join_items no_items ts = ts
join_items (item t front) ts = item t (join_items front ts)

join_items-none : (front : Items) → join_items front no_items ≡ front
join_items-none no_items = refl
join_items-none (item t ts) = ap (item t) (join_items-none ts)

join_items-assoc : (a b c : Items) → join_items (join_items a b) c ≡ join_items a (join_items b c)
join_items-assoc no_items b c = refl
join_items-assoc (item t a) b c = ap (item t) (join_items-assoc a b c)

items_of-push : (ts : List Nbt) (t : Nbt) → items_of (ts ++ t ∷ []) ≡ join_items (items_of ts) (item t no_items)
items_of-push [] t = refl
items_of-push (x ∷ ts) t = ap (item x) (items_of-push ts t)

pub items-push : (ts : List Tag) (t : Tag) → items_of (nbts (ts ++ t ∷ [])) ≡ join_items (items_of (nbts ts))
    (item (nbt t) no_items)
items-push ts t = ap items_of (map_push nbt ts t) ∙ items_of-push (nbts ts) (nbt t)

-- what was read before, and what is still read
abbrev pub with_items : Items → Reads Items → Reads Items
with_items front read = mapped (join_items front) read

regroup : (front : Items) (t : Nbt) (read : Reads Items) → with_items front (mapped (item t) read) ≡ with_items
    (join_items front (item t no_items)) read
regroup front t (Ok x) = ap (λ (ts : Items). Ok (ts, x.1)) (sym (join_items-assoc front (item t no_items) x.0))
regroup front t (Err f) = refl

pub items_start : (read : Reads Items) → with_items no_items read ≡ read
items_start (Ok x) = refl
items_start (Err f) = refl

module _ (one : List ℕ → Reads Nbt) (front : Items) (count i : ℕ) (bytes : List ℕ) (total : Reads Items)
    (so_far : with_items front (items_at one (count - i) bytes) ≡ total) where
  pub items_go_on : (t : Nbt) (after : List ℕ) → i < count → one bytes ≡ Ok (t, after)
      → with_items (join_items front (item t no_items)) (items_at one (count - (i + 1)) after) ≡ total
  unfolding items_at
  items_go_on t after lt h =
      let k : count - i ≡ suc (count - (i + 1)) = omega arith in
      let step : with_items front (items_at one (count - i) bytes) ≡ with_items (join_items front (item t no_items))
      (items_at one (count - (i + 1)) after) = rw (k, h)
      (regroup front t (items_at one (count - (i + 1)) after)) in
      sym step ∙ so_far

  pub items_end : (e : NbtFault) → i < count → Fails e (one bytes) → Fails e total
  unfolding items_at
  items_end e lt fails =
      let k : count - i ≡ suc (count - (i + 1)) = omega arith in
      fails_too e (one bytes) total (λ h. sym so_far ∙ rw (k, h) refl) fails

  pub items_done : count ≤ i → total ≡ Ok (front, bytes)
  unfolding items_at
  items_done le =
      let k : count - i ≡ 0 = omega arith in
      let done : with_items front (items_at one (count - i) bytes) ≡ Ok (front, bytes) =
      rw k (ap (λ (ts : Items). Ok (ts, bytes)) (join_items-none front)) in
      sym so_far ∙ done
