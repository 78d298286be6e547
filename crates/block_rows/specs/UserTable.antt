-- The user's table: a TOML document with an array of tables under `row`, and its first fault.
-- What a text means is the word of the crate `toml`; the rest is this project's own.
use Rattle.std.specs.Prelude.{◌≡◌, ℕ, ◌<◌, ◌⊎◌, Bool, true, false, not, ◌&&◌, ◌||◌, List, [], ◌∷◌, ◌++◌, codes}
use Rattle.std.specs.Prelude.{IsUtf8, Option, Some, None, is_some, is_none, unwrap_or, option_map, option_and_then}
use Rattle.std.specs.Prelude.{option_to_list, if◌then◌else◌}
use Rattle.toml.specs.Data.{Data, Items, no_items, item, Members, get_item, get_member, as_array, as_table}
use Rattle.toml.specs.Parse.{parse_document}
use Rattle.cave_base.specs.Class.{gives_way_as_air}
use Rattle.block_rows.specs.declared.row.Row.{Row}
use Rattle.block_rows.specs.declared.fault.RowFault.{RowFault}
use Rattle.block_rows.specs.declared.fault.RowFault.TheVariants.{Shape, UnknownKey, BadName, BadWhen, BadNumber}
use Rattle.block_rows.specs.declared.fault.RowFault.TheVariants.{BadFlag, PutNotPlain}
use Rattle.block_rows.specs.declared.fault.RowsFault.{RowsFault}
use Rattle.block_rows.specs.declared.fault.RowsFault.TheVariants.{Toml, BadRow}
use Rattle.block_rows.specs.Columns.{has_only, in_column, name_in, when_in, opacity_in, emission_in, flag_in}
use Rattle.block_rows.specs.Columns.{class_in, row_in}
use Rattle.block_rows.specs.Rows.{Table}
use Rattle.block_rows.specs.Shipped.{shipped_rows}

-- the text is a TOML document with these members
pub record IsDocument (text : List ℕ) (document : Members) : Type 0 where
  pub utf8 : IsUtf8 text
  pub means : parse_document text ≡ Some document

-- ---- one row

-- of tests in order, each with the fault that it shows, the first that is met
abbrev pub first_met : List (Bool × RowFault) → Option RowFault
first_met [] = None
first_met (test ∷ tests) = if test.0 then Some test.1 else first_met tests

-- the columns that a row may have
abbrev pub row_columns : List (List ℕ)
row_columns = codes "name" ∷ codes "when" ∷ codes "opacity" ∷ codes "emission" ∷ codes "free" ∷ codes "stand"
    ∷ codes "put" ∷ codes "top" ∷ codes "side" ∷ []

-- each truth value is one
abbrev pub has_flags : Members → Bool
has_flags ms = is_some (flag_in (codes "free") ms) && is_some (flag_in (codes "stand") ms)
    && is_some (flag_in (codes "put") ms) && is_some (flag_in (codes "top") ms) && is_some (flag_in (codes "side") ms)

-- the first fault of a row
abbrev pub row_fault : Members → Option RowFault
row_fault ms = first_met ((not (has_only row_columns ms), UnknownKey)
    ∷ (is_none (name_in ms), BadName)
    ∷ (is_none (when_in ms), BadWhen)
    ∷ (is_none (opacity_in ms) || is_none (emission_in ms), BadNumber)
    ∷ (not (has_flags ms), BadFlag)
    ∷ (not (gives_way_as_air (class_in ms)), PutNotPlain)
    ∷ [])

-- each column of the members tells what the row has
pub record IsWholeRow (ms : Members) (row : Row) : Type 0 where
  pub named : name_in ms ≡ Some row.name
  pub asks : when_in ms ≡ Some row.when
  pub opaque : opacity_in ms ≡ Some row.class.opacity
  pub glows : emission_in ms ≡ Some row.class.emission
  pub free : flag_in (codes "free") ms ≡ Some row.class.free
  pub stand : flag_in (codes "stand") ms ≡ Some row.class.stand
  pub put : flag_in (codes "put") ms ≡ Some row.class.put
  pub top : flag_in (codes "top") ms ≡ Some row.class.top
  pub side : flag_in (codes "side") ms ≡ Some row.class.side

-- an element of the array that is no table is of the wrong shape
abbrev pub element_fault : Data → Option RowFault
element_fault d = unwrap_or (option_map row_fault (as_table d)) (Some Shape)

-- ---- the whole table

-- the array under `row`, which may be absent
abbrev pub elements_in : Members → Option Items
elements_in document = in_column no_items as_array (get_member (codes "row") document)

-- the top has no other key than `row`, and an array there
abbrev pub has_shape : Members → Bool
has_shape document = has_only (codes "row" ∷ []) document && is_some (elements_in document)

-- the elements of that array
abbrev pub elements_of : Members → Items
elements_of document = unwrap_or (elements_in document) no_items

-- the fault of the element at this index
abbrev pub fault_at : Items → ℕ → Option RowFault
fault_at elements index = option_and_then element_fault (get_item index elements)

-- the fault is that of the least index with one
pub record IsFirstFault (elements : Items) (fault : RowsFault) : Type 0 where
  pub index : ℕ
  pub kind : RowFault
  pub found : fault_at elements index ≡ Some kind
  pub least : (before : ℕ) → before < index → fault_at elements before ≡ None
  pub told : fault ≡ BadRow index kind

-- the first fault of a document: its shape is judged before any row
abbrev pub IsDocumentFault : Members → RowsFault → Type 0
IsDocumentFault document fault = ((has_shape document ≡ false) × (fault ≡ BadRow 0 Shape))
    ⊎ ((has_shape document ≡ true) × IsFirstFault (elements_of document) fault)

-- the rows of the elements that are tables
abbrev pub rows_of : Items → List Row
rows_of no_items = []
rows_of (item d ds) = option_to_list (option_map row_in (as_table d)) ++ rows_of ds

-- a document without a fault, and its rows
pub record TellsRows (document : Members) (rows : List Row) : Type 0 where
  pub shaped : has_shape document ≡ true
  pub faultless : (index : ℕ) → fault_at (elements_of document) index ≡ None
  pub told : rows ≡ rows_of (elements_of document)

-- the rows of the text's document before the shipped ones
pub record IsTableOf (text : List ℕ) (table : Table) : Type 0 where
  pub document : Members
  pub read : IsDocument text document
  pub user : TellsRows document table.user
  pub shipped : table.shipped ≡ shipped_rows

-- the first fault of a text
abbrev pub IsRowsFaultOf : List ℕ → RowsFault → Type 0
IsRowsFaultOf text fault = (((document : Members) → ¬ IsDocument text document) × (fault ≡ Toml))
    ⊎ ((document : Members) × IsDocument text document × IsDocumentFault document fault)
