-- What bytes tell keeps what every world keeps.
use Rattle.std.proofs.Common.{◌≡◌, ℕ, ◌≤◌, List, ◌++◌, Option, Some, None, sym, ap, subst, ◌∙◌, inl, inr}
use Rattle.std.proofs.Common.{option_and_then, IsTrue}
use Rattle.std.specs.Prelude.{slice_get, slice_index_or, find}
use Rattle.std.specs.Option.{option_or}
use Rattle.std.proofs.lemmas.Bool.{cases_lt}
use Rattle.std.proofs.lemmas.List.{get_or_past}
use Rattle.std.proofs.lemmas.List.Elements.{All-nil, All-append}
use Rattle.cave_base.specs.Box.{Point, cell_count, is_small}
use Rattle.cave_base.specs.declared.class.Class.{Class}
use Rattle.cave_base.specs.Class.{IsSoundClass, void}
use Rattle.scan_core.specs.declared.state.BlockState.{BlockState}
use Rattle.block_rows.specs.declared.row.Row.{Row}
use Rattle.block_rows.specs.Rows.{Table, IsSoundTable, AreSoundRows, row_for, fits, fits_as_wildcard}
use Rattle.block_rows.proofs.LookUpLemmas.{found_all}
use Rattle.block_rows.proofs.ShippedLemmas.{shipped_sound}
use Rattle.block_rows.proofs.UserLemmas.{user_sound}
use Rattle.cave_model.specs.Rule.{Rule, IsRule}
use Rattle.cave_model.specs.Cave.{Cave, class_at, IsWorld}
use Rattle.cave_reading.specs.World.{IsClassOf}
use Rattle.cave_reading.specs.Bytes.{IsCaveOfBytes, IsTableFor}
use Rattle.cave_reading.proofs.CaveLemmas.{void_sound, needs_light}

-- the rows of a run have sound classes
table_sound : (table : Option (List ℕ)) (rows : Table) → IsTableFor table rows → IsSoundTable rows
table_sound None rows told = subst IsSoundTable (sym told) (record {
  user_sound = All-nil (λ (row : Row). IsSoundClass row.class);
  shipped_sound = shipped_sound;
})
table_sound (Some text) rows told = record {
  user_sound = subst AreSoundRows (sym told.user.told) (user_sound told.document rows.user told.user);
  shipped_sound = subst AreSoundRows (sym told.shipped) shipped_sound;
}

-- what holds of whatever either finds holds of what the first finds, else the second
either : (P : Row → Type 0) (first second : Option Row) (row : Row) → ((r : Row) → first ≡ Some r → P r)
    → ((r : Row) → second ≡ Some r → P r) → option_or first second ≡ Some row → P row
either P None second row one other e = other row e
either P (Some found) second row one other e = one row e

-- the row of a state has a sound class
row_sound : (rows : Table) (state : BlockState) (row : Row) → IsSoundTable rows → row_for rows state ≡ Some row
    → IsSoundClass row.class
row_sound rows state row sound e =
    either (λ (r : Row). IsSoundClass r.class) (find (fits state) (rows.user ++ rows.shipped))
    (find (fits_as_wildcard state) rows.user) row
    (λ r f. found_all (λ (x : Row). IsSoundClass x.class) (fits state) (rows.user ++ rows.shipped) r
    (All-append (λ (x : Row). IsSoundClass x.class) rows.user rows.shipped sound.user_sound sound.shipped_sound) f)
    (λ r f. found_all (λ (x : Row). IsSoundClass x.class) (fits_as_wildcard state) rows.user r sound.user_sound f) e

-- the row of an index has one
index_sound : (rows : Table) (found : Option BlockState) (row : Row) → IsSoundTable rows
    → option_and_then (row_for rows) found ≡ Some row → IsSoundClass row.class
index_sound rows None row sound e = absurd (cc)
index_sound rows (Some state) row sound e = row_sound rows state row sound e

-- the class that a cell is told is sound
class_sound : (rows : Table) (palette : List BlockState) (index : Option ℕ) (class : Class) → IsSoundTable rows
    → IsClassOf rows palette index class → IsSoundClass class
class_sound rows palette None class sound is = subst IsSoundClass (sym is) void_sound
class_sound rows palette (Some index) class sound is =
    subst IsSoundClass (sym is.2) (index_sound rows (slice_get palette index) is.0 sound is.1)

-- the cave that bytes tell is a world
pub told_sound : (bytes : List ℕ) (table : Option (List ℕ)) (rule : Rule) (cave : Cave) → IsRule rule
    → IsCaveOfBytes bytes table rule cave → IsWorld cave
told_sound bytes table rule cave rules is =
    let built = is.built in
    let rows = table_sound table is.rows is.told in
    record {
      sound = record {
        whole = built.whole ∙ ap cell_count (sym built.sized);
        classed = λ cell. elim (cases_lt cell (cell_count is.scan.size)) [
          | inl lt ↦ class_sound is.rows is.scan.palette (slice_index_or is.scan.cells cell None) (class_at cave cell)
              rows (built.classed cell lt)
          | inr le ↦ subst IsSoundClass (sym (get_or_past cave.classes cell void
              (subst (λ (n : ℕ). n ≤ cell) (sym built.whole) le))) void_sound
        ];
        needed = needs_light cave.rule.need (subst IsRule (sym built.ruled) rules).needed;
      };
      small = subst (λ (size : Point). IsTrue (is_small size)) (sym built.sized) is.scans.2.small;
      ruled = subst IsRule (sym built.ruled) rules;
    }
