-- What a list or a compound holds weighs less than it, as the models of `Tags` and `Entries` need it.
use Rattle.std.specs.Prelude.{◌≡◌, ℕ, suc, ◌+◌, ◌≤◌, max, List, [], ◌∷◌, refl}
use Rattle.std.proofs.Common.{arith, ap}
use denote.Param.Weighed.{most}
use Rattle.nbt_core.specs.Value.{Nbt, items_of, members_of}
use Rattle.nbt_core.specs.Weight.{weight, items_weight, members_weight, weight_of_list, weight_of_entries}
use Rattle.nbt_core.specs.View.{nbt, nbts, entries_of}
use Rattle.nbt_core.specs.declared.tag.Tag.{Tag}
use Rattle.nbt_core.specs.declared.tag.Tag.TheVariants as tags
use Rattle.nbt_core.specs.declared.tag.Entries.TheDeep.{deep-Tag}

-- the weight of a list's items, of which it is made
pub items_weight-items_of : (ts : List Nbt) → items_weight (items_of ts) ≡ weight_of_list ts
items_weight-items_of [] = refl
items_weight-items_of (t ∷ ts) = ap (λ (n : ℕ). suc (weight t) + n) (items_weight-items_of ts)

-- the weight of a compound's members, of which it is made
pub members_weight-members_of : (ms : List (List ℕ × Nbt)) → members_weight (members_of ms) ≡ weight_of_entries ms
members_weight-members_of [] = refl
members_weight-members_of (m ∷ ms) = ap (λ (n : ℕ). suc (weight m.1) + n) (members_weight-members_of ms)

-- a tag's measure, as its type has it, is at most one more than its weight
pub tag_falls : (t : Tag) → deep-Tag t ≤ suc (weight (nbt t))
tag_falls (tags.List ts) = omega (arith, items_weight-items_of ts)
tag_falls (tags.Compound ms) = omega (arith, members_weight-members_of ms)
tag_falls t = omega arith

-- no tag of a list measures more than the list weighs
pub tags_fall : (ts : List Tag) → most (λ t. deep-Tag t) ts ≤ weight_of_list (nbts ts)
tags_fall [] = omega arith
tags_fall (t ∷ ts) = omega (arith, tag_falls t, tags_fall ts)

-- no entry of a compound measures more than the entries weigh
pub entries_fall : (ms : List (List ℕ × Tag))
    → most (λ m. max 0 (max (deep-Tag m.1) 0)) ms ≤ weight_of_entries (entries_of ms)
entries_fall [] = omega arith
entries_fall (m ∷ ms) = omega (arith, tag_falls m.1, entries_fall ms)
