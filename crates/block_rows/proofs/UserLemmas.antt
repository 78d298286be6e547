-- The rows of a user's table without a fault are whole and sound.
use Rattle.std.proofs.Common.{◌≡◌, ℕ, suc, ℤ, pos, negsuc, ◌≤◌, Bool, true, false, not, ◌||◌, cond, nat_le, []}
use Rattle.std.proofs.Common.{Option, Some, None, is_some, is_none, unwrap_or, option_map, refl, arith}
use Rattle.std.specs.Prelude.{List, option_and_then, option_to_list, codes}
use Rattle.std.proofs.lemmas.Bool.{leb-true}
use Rattle.std.proofs.lemmas.List.Elements.{All-nil, All-cons, All-append}
use Rattle.toml.specs.Data.{Data, Items, no_items, item, Members, get_member, as_integer, as_table}
use Rattle.block_rows.specs.declared.row.Row.{Row}
use Rattle.block_rows.specs.declared.fault.RowFault.{RowFault}
use Rattle.block_rows.specs.declared.fault.RowFault.TheVariants.{Shape, UnknownKey, BadName, BadWhen, BadNumber}
use Rattle.block_rows.specs.declared.fault.RowFault.TheVariants.{BadFlag, PutNotPlain}
use Rattle.cave_base.specs.Class.{IsSoundClass, gives_way_as_air}
use Rattle.block_rows.specs.Columns.{has_only, in_column, small, level_of, name_in, when_in, opacity_in, emission_in}
use Rattle.block_rows.specs.Columns.{flag_in, class_in, row_in}
use Rattle.block_rows.specs.Rows.{AreSoundRows}
use Rattle.block_rows.specs.UserTable.{row_columns, has_flags, row_fault, IsWholeRow, fault_at, elements_of, TellsRows}
use Rattle.block_rows.specs.UserTable.{rows_of}
use Rattle.cave_base.proofs.CellLemmas.{both_true}
use Rattle.cave_base.proofs.ClassLemmas.{sound_class}

-- ---- levels

-- a number that is taken is at most 15
taken : (n : ℕ) (b : Bool) → nat_le n 15 ≡ b → unwrap_or (cond b (Some n) None) 0 ≤ 15
taken n true e = leb-true n 15 e
taken n false e = omega arith

-- a small number fits
small_fits : (n : ℤ) → unwrap_or (small n) 0 ≤ 15
small_fits (pos n) = taken n (nat_le n 15) refl
small_fits (negsuc n) = omega arith

-- a number that is small fits
number_fits : (o : Option ℤ) → unwrap_or (option_and_then small o) 0 ≤ 15
number_fits None = omega arith
number_fits (Some n) = small_fits n

-- an opacity that is read fits
opacity_fits : (o : Option Data) → unwrap_or (option_and_then level_of o) 0 ≤ 15
opacity_fits None = omega arith
opacity_fits (Some d) = number_fits (as_integer d)

-- an emission that is read fits, and one left out is zero
emission_fits : (o : Option Data) → unwrap_or (in_column 0 level_of o) 0 ≤ 15
emission_fits None = omega arith
emission_fits (Some d) = number_fits (as_integer d)

-- ---- a row

-- where no fault is met the first isn't, nor the rest
unmet : (b : Bool) (fault : RowFault) (rest : Option RowFault) → cond b (Some fault) rest ≡ None
    → (b ≡ false) × (rest ≡ None)
unmet true fault rest e = absurd (cc)
unmet false fault rest e = (refl, e)

-- what isn't false is so
not_false : (b : Bool) → not b ≡ false → b ≡ true
not_false true e = refl
not_false false e = absurd (cc)

-- what it means that none of the tests is met
record IsFaultless (ms : Members) : Type 0 where
  named : is_none (name_in ms) ≡ false
  asks : is_none (when_in ms) ≡ false
  numbers : (is_none (opacity_in ms) || is_none (emission_in ms)) ≡ false
  flags : has_flags ms ≡ true
  as_air : gives_way_as_air (class_in ms) ≡ true

-- a row with no fault meets none of the tests
faultless : (ms : Members) → row_fault ms ≡ None → IsFaultless ms
faultless ms e =
    let a = unmet (not (has_only row_columns ms)) UnknownKey _ e in
    let b = unmet (is_none (name_in ms)) BadName _ a.1 in
    let c = unmet (is_none (when_in ms)) BadWhen _ b.1 in
    let d = unmet (is_none (opacity_in ms) || is_none (emission_in ms)) BadNumber _ c.1 in
    let f = unmet (not (has_flags ms)) BadFlag _ d.1 in
    let g = unmet (not (gives_way_as_air (class_in ms))) PutNotPlain None f.1 in
    record {
      named = b.0;
      asks = c.0;
      numbers = d.0;
      flags = not_false (has_flags ms) f.0;
      as_air = not_false (gives_way_as_air (class_in ms)) g.0;
    }

-- a row with no fault has a sound class
faultless_sound : (ms : Members) → row_fault ms ≡ None → IsSoundClass (class_in ms)
faultless_sound ms e = sound_class (class_in ms) (opacity_fits (get_member (codes "opacity") ms))
    (emission_fits (get_member (codes "emission") ms)) (faultless ms e).as_air

-- ---- its columns

-- an option that isn't none holds what it unwraps to
there : {X : Type 0} (o : Option X) (d : X) → is_none o ≡ false → o ≡ Some (unwrap_or o d)
there None d e = absurd (cc)
there (Some x) d e = refl

-- and so does one that is there
some : {X : Type 0} (o : Option X) (d : X) → is_some o ≡ true → o ≡ Some (unwrap_or o d)
some None d e = absurd (cc)
some (Some x) d e = refl

-- where not one of two holds neither does
neither : (a b : Bool) → (a || b) ≡ false → (a ≡ false) × (b ≡ false)
neither true b e = absurd (cc)
neither false b e = (refl, e)

-- a row with no fault is whole
pub whole : (ms : Members) → row_fault ms ≡ None → IsWholeRow ms (row_in ms)
whole ms e =
    let is = faultless ms e in
    let numbers = neither (is_none (opacity_in ms)) (is_none (emission_in ms)) is.numbers in
    let a = both_true _ (is_some (flag_in (codes "side") ms)) is.flags in
    let b = both_true _ (is_some (flag_in (codes "top") ms)) a.0 in
    let c = both_true _ (is_some (flag_in (codes "put") ms)) b.0 in
    let d = both_true (is_some (flag_in (codes "free") ms)) (is_some (flag_in (codes "stand") ms)) c.0 in
    record {
      named = there (name_in ms) [] is.named;
      asks = there (when_in ms) [] is.asks;
      opaque = there (opacity_in ms) 0 numbers.0;
      glows = there (emission_in ms) 0 numbers.1;
      free = some (flag_in (codes "free") ms) false d.0;
      stand = some (flag_in (codes "stand") ms) false d.1;
      put = some (flag_in (codes "put") ms) false c.1;
      top = some (flag_in (codes "top") ms) false b.1;
      side = some (flag_in (codes "side") ms) false a.1;
    }

-- ---- all rows

-- an element with no fault gives a sound row
element_sound : (o : Option Members) → unwrap_or (option_map row_fault o) (Some Shape) ≡ None
    → AreSoundRows (option_to_list (option_map row_in o))
element_sound None e = absurd (cc)
element_sound (Some ms) e = All-cons (λ (row : Row). IsSoundClass row.class) (row_in ms) [] (faultless_sound ms e)
    (All-nil (λ (row : Row). IsSoundClass row.class))

-- elements with no fault give sound rows
rows_sound : (elements : Items) → ((index : ℕ) → fault_at elements index ≡ None) → AreSoundRows (rows_of elements)
rows_sound no_items e = All-nil (λ (row : Row). IsSoundClass row.class)
rows_sound (item d ds) e = All-append (λ (row : Row). IsSoundClass row.class)
    (option_to_list (option_map row_in (as_table d))) (rows_of ds)
    (element_sound (as_table d) (e 0)) (rows_sound ds (λ index. e (suc index)))

-- the rows of a document that tells them are sound
pub user_sound : (document : Members) (rows : List Row) → TellsRows document rows
    → AreSoundRows (rows_of (elements_of document))
user_sound document rows tells = rows_sound (elements_of document) tells.faultless
