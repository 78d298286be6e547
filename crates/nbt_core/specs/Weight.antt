-- A number that falls from a value to what it holds.
use Rattle.std.specs.Prelude.{ℕ, suc, ◌+◌, List, [], ◌∷◌}
use Rattle.nbt_core.specs.Value.{Nbt, leaf, list, compound, Items, no_items, item, Members, no_members, member}

abbrev mutual
  -- one more than what it holds weighs
  pub weight : Nbt → ℕ
  weight (leaf v) = 1
  weight (list ts) = suc (items_weight ts)
  weight (compound ms) = suc (members_weight ms)

  -- the weights of its items, and one for each
  pub items_weight : Items → ℕ
  items_weight no_items = 0
  items_weight (item t ts) = suc (weight t) + items_weight ts

  -- the weights of its members, and one for each
  pub members_weight : Members → ℕ
  members_weight no_members = 0
  members_weight (member name t ms) = suc (weight t) + members_weight ms

-- the weights of values, and one for each
abbrev pub weight_of_list : List Nbt → ℕ
weight_of_list [] = 0
weight_of_list (t ∷ ts) = suc (weight t) + weight_of_list ts

-- the weights of named values, and one for each
abbrev pub weight_of_entries : List (List ℕ × Nbt) → ℕ
weight_of_entries [] = 0
weight_of_entries (m ∷ ms) = suc (weight m.1) + weight_of_entries ms
