-- The columns of a row of the user's table, as the members of a TOML table tell them. They are this project's own.
use Rattle.std.specs.Prelude.{ℕ, ℤ, pos, Bool, true, false, ◌&&◌, nat_le, List, [], ◌∷◌, codes, bytes_eq, Option}
use Rattle.std.specs.Prelude.{Some, None, unwrap_or, option_map, option_and_then, if◌then◌else◌}
use Rattle.std.specs.List.{list_any}
use Rattle.toml.specs.Data.{Data, Members, no_members, member, get_member, as_str, as_integer, as_bool, as_table}
use Rattle.cave_base.specs.declared.class.Class.{Class}
use Rattle.block_rows.specs.declared.row.Row.{Row}

-- each key of the members is one of these
abbrev pub has_only : List (List ℕ) → Members → Bool
has_only keys no_members = true
has_only keys (member key d ms) = list_any (bytes_eq key) keys && has_only keys ms

-- how a column is read that may be absent: this where it is
abbrev pub in_column : {A : Type 0} → A → (Data → Option A) → Option Data → Option A
in_column absent read None = Some absent
in_column absent read (Some d) = read d

-- the number, where it is from 0 to 15
abbrev pub small : ℤ → Option ℕ
small (pos n) = if nat_le n 15 then Some n else None
small n = None

-- a level of light: a number from 0 to 15
abbrev pub level_of : Data → Option ℕ
level_of d = option_and_then small (as_integer d)

-- properties, each with its value, where each value is a text
abbrev pub texts_of : Members → Option (List (List ℕ × List ℕ))
texts_of no_members = Some []
texts_of (member property d ms) =
    option_and_then (λ value. option_map (λ others. (property, value) ∷ others) (texts_of ms)) (as_str d)

-- the properties that a table asks for
abbrev pub conditions_of : Data → Option (List (List ℕ × List ℕ))
conditions_of d = option_and_then texts_of (as_table d)

-- the name, or none where it is absent or no text
abbrev pub name_in : Members → Option (List ℕ)
name_in ms = option_and_then as_str (get_member (codes "name") ms)

-- what the row asks for, which may be absent, or none where it is no table of texts
abbrev pub when_in : Members → Option (List (List ℕ × List ℕ))
when_in ms = in_column [] conditions_of (get_member (codes "when") ms)

-- the opacity, or none where it is absent or no level
abbrev pub opacity_in : Members → Option ℕ
opacity_in ms = option_and_then level_of (get_member (codes "opacity") ms)

-- the emission, 0 where it is absent, or none where it is no level
abbrev pub emission_in : Members → Option ℕ
emission_in ms = in_column 0 level_of (get_member (codes "emission") ms)

-- a truth value, false where it is absent, or none where it is none
abbrev pub flag_in : List ℕ → Members → Option Bool
flag_in column ms = in_column false as_bool (get_member column ms)

-- the class that the columns tell
abbrev pub class_in : Members → Class
class_in ms = record {
  opacity = unwrap_or (opacity_in ms) 0;
  emission = unwrap_or (emission_in ms) 0;
  free = unwrap_or (flag_in (codes "free") ms) false;
  stand = unwrap_or (flag_in (codes "stand") ms) false;
  put = unwrap_or (flag_in (codes "put") ms) false;
  top = unwrap_or (flag_in (codes "top") ms) false;
  side = unwrap_or (flag_in (codes "side") ms) false;
}

-- the row that the columns tell
abbrev pub row_in : Members → Row
row_in ms = record { name = unwrap_or (name_in ms) []; when = unwrap_or (when_in ms) []; class = class_in ms }
