-- Which id names which kind, and the kinds of a fixed size.
-- Source: Minecraft Wiki, "NBT format".
use Rattle.std.specs.Prelude.{ℕ, List, [], ◌∷◌, Option, Some, None, ◌==◌, if◌then◌else◌}
use Rattle.nbt_core.specs.declared.kind.Kind.{Kind}
use Rattle.nbt_core.specs.declared.kind.Kind.TheVariants as kinds
use Rattle.nbt_core.specs.declared.kind.LeafKind.{LeafKind}
use Rattle.nbt_core.specs.declared.kind.LeafKind.TheVariants as leaves

-- the id of a kind whose values hold no other values
abbrev pub id_of_leaf : LeafKind → ℕ
id_of_leaf leaves.Byte = 1
id_of_leaf leaves.Short = 2
id_of_leaf leaves.Int = 3
id_of_leaf leaves.Long = 4
id_of_leaf leaves.Float = 5
id_of_leaf leaves.Double = 6
id_of_leaf leaves.ByteArray = 7
id_of_leaf leaves.Text = 8
id_of_leaf leaves.IntArray = 11
id_of_leaf leaves.LongArray = 12

-- the id of a kind
abbrev pub id_of : Kind → ℕ
id_of (kinds.Leaf kind) = id_of_leaf kind
id_of kinds.List = 9
id_of kinds.Compound = 10

-- the id of a list's items, where none is End's
abbrev pub id_of_items : Option Kind → ℕ
id_of_items None = 0
id_of_items (Some kind) = id_of kind

-- all that an id may name, End as none of the kinds
abbrev pub all_kinds : List (Option Kind)
all_kinds = None
    ∷ (Some (kinds.Leaf leaves.Byte)
    ∷ (Some (kinds.Leaf leaves.Short)
    ∷ (Some (kinds.Leaf leaves.Int)
    ∷ (Some (kinds.Leaf leaves.Long)
    ∷ (Some (kinds.Leaf leaves.Float)
    ∷ (Some (kinds.Leaf leaves.Double)
    ∷ (Some (kinds.Leaf leaves.ByteArray)
    ∷ (Some (kinds.Leaf leaves.Text)
    ∷ (Some kinds.List
    ∷ (Some kinds.Compound
    ∷ (Some (kinds.Leaf leaves.IntArray)
    ∷ (Some (kinds.Leaf leaves.LongArray)
    ∷ []))))))))))))

-- the first of these with this id
abbrev pub kind_among : ℕ → List (Option Kind) → Option (Option Kind)
kind_among id [] = None
kind_among id (kind ∷ others) = if id == id_of_items kind then Some kind else kind_among id others

-- what an id names, if anything
unfoldable pub kind_named : ℕ → Option (Option Kind)
kind_named id = kind_among id all_kinds

-- how many bytes each payload of a kind takes, where all take as many
abbrev pub fixed_size : Kind → Option ℕ
fixed_size (kinds.Leaf leaves.Byte) = Some 1
fixed_size (kinds.Leaf leaves.Short) = Some 2
fixed_size (kinds.Leaf leaves.Int) = Some 4
fixed_size (kinds.Leaf leaves.Long) = Some 8
fixed_size (kinds.Leaf leaves.Float) = Some 4
fixed_size (kinds.Leaf leaves.Double) = Some 8
fixed_size kind = None
