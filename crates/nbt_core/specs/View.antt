-- The value that a `Tag` stands for, apart from where it lies in memory.
use Rattle.std.specs.Prelude.{ℕ, List, map}
use Rattle.nbt_core.specs.Value.{byte, short, int, long, float, double, byte_array, text, int_array, long_array, Nbt}
use Rattle.nbt_core.specs.Value.{leaf, list, compound, items_of, members_of}
use Rattle.nbt_core.specs.declared.tag.Tag.{Tag}
use Rattle.nbt_core.specs.declared.tag.Tag.TheVariants as tags

-- the value of a tag, its lists and compounds seen as what they hold
abbrev pub nbt : Tag → Nbt
nbt (tags.Byte n) = leaf (byte n)
nbt (tags.Short n) = leaf (short n)
nbt (tags.Int n) = leaf (int n)
nbt (tags.Long n) = leaf (long n)
nbt (tags.Float run) = leaf (float run)
nbt (tags.Double run) = leaf (double run)
nbt (tags.Bytes ns) = leaf (byte_array ns)
nbt (tags.Text t) = leaf (text t)
nbt (tags.List ts) = list (items_of ts)
nbt (tags.Compound ms) = compound (members_of ms)
nbt (tags.Ints ns) = leaf (int_array ns)
nbt (tags.Longs ns) = leaf (long_array ns)

-- the values of tags
abbrev pub nbts : List Tag → List Nbt
nbts ts = map nbt ts

-- names with the values of their tags
abbrev pub entries_of : List (List ℕ × Tag) → List (List ℕ × Nbt)
entries_of ms = map (λ m. (m.0, nbt m.1)) ms
