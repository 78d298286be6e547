-- Which block states the cells name, and the class of each.
use Rattle.std.proofs.Common.{◌≡◌, ℕ, ◌+◌, ◌<◌, Bool, true, false, Option, Some, None, IfSome, List, [], ◌∷◌, ◌++◌}
use Rattle.std.proofs.Common.{length, take, get_or, set, option_and_then, All, Contains, refl, sym, ap, subst, ◌∙◌}
use Rattle.std.proofs.Common.{arith, inl, inr, length-set, get_or-set_same, get_or-set_other}
use Rattle.std.proofs.lemmas.Bool.{cases_lt, cases_eq}
use Rattle.std.proofs.lemmas.List.{take_more, length_push, get_or_push, get_or_append_left, get_or_default}
use Rattle.std.proofs.lemmas.List.Elements.{All-push, Contains-append_left, Contains-push, Contains-push_cases}
use Rattle.std.proofs.lemmas.Option.{slice_get-get_or}
use Rattle.scan_core.specs.Scan.{Structure}
use Rattle.scan_core.specs.declared.state.BlockState.{BlockState}
use Rattle.cave_base.specs.declared.class.Class.{Class}
use Rattle.block_rows.specs.declared.row.Row.{Row}
use Rattle.cave_base.specs.Class.{IsSoundClass, void}
use Rattle.block_rows.specs.Rows.{Table, row_for}
use Rattle.cave_reading.specs.World.{palette_row, IsClassOf, IsUnknown, IsUnknownBlock}
use Rattle.cave_reading.specs.declared.fault.BuildFault.{BuildFault}
use Rattle.cave_reading.specs.declared.fault.BuildFault.TheVariants.{UnknownBlock}
use Rattle.cave_reading.specs.Building.{AreUsed, AreClassesOf}

-- ---- which states are used

-- a cell with a state more marks it as used
used_some : (cells : List (Option ℕ)) (states index : ℕ) (used : List Bool) → index < states → AreUsed cells states used
    → AreUsed (cells ++ Some index ∷ []) states (set used index true)
used_some cells states index used lt a =
    let within : index < length used = omega (arith, a.whole) in
    record {
      whole = length-set used index true ∙ a.whole;
      exact = λ other. (
        (λ t. elim (cases_eq other index) [
          | inl e ↦ subst (λ (n : ℕ). Contains (cells ++ Some index ∷ []) (Some n)) (sym e)
              (Contains-push cells (Some index))
          | inr ne ↦ Contains-append_left cells (Some index ∷ []) (Some other)
              ((a.exact other).0 (sym (get_or-set_other used index other true false ne) ∙ t))
        ]),
        (λ c. elim (cases_eq other index) [
          | inl e ↦ ap (λ (n : ℕ). get_or (set used index true) n false) e
              ∙ get_or-set_same used index true false within
          | inr ne ↦ elim (Contains-push_cases cells (Some index) (Some other) c) [
            | inl before ↦ get_or-set_other used index other true false ne ∙ (a.exact other).1 before
            | inr last ↦ (let same : other ≡ index = cc in absurd (ne same))
          ]
        ]),
      );
    }

-- a cell without one marks none
used_none : (cells : List (Option ℕ)) (states : ℕ) (used : List Bool) → AreUsed cells states used
    → AreUsed (cells ++ None ∷ []) states used
used_none cells states used a = record {
  whole = a.whole;
  exact = λ index. (
    (λ t. Contains-append_left cells (None ∷ []) (Some index) ((a.exact index).0 t)),
    (λ c. elim (Contains-push_cases cells None (Some index) c) [
      | inl before ↦ (a.exact index).1 before
      | inr last ↦ absurd (cc)
    ]),
  );
}

-- the cells up to the next are those before and the cell
one_more : (cells : List (Option ℕ)) (i states : ℕ) (used : List Bool) (cell : Option ℕ) → i < length cells
    → get_or cells i None ≡ cell → AreUsed (take i cells ++ cell ∷ []) states used
    → AreUsed (take (i + 1) cells) states used
one_more cells i states used cell lt e a =
    subst (λ (cs : List (Option ℕ)). AreUsed cs states used)
    (sym (take_more cells i None lt ∙ ap (λ (o : Option ℕ). take i cells ++ o ∷ []) e)) a

-- the next cell's state is marked as used
pub used_more_some : (cells : List (Option ℕ)) (i states index : ℕ) (used : List Bool) → i < length cells
    → get_or cells i None ≡ Some index → index < states → AreUsed (take i cells) states used
    → AreUsed (take (i + 1) cells) states (set used index true)
used_more_some cells i states index used lt e small a =
    one_more cells i states (set used index true) (Some index) lt e (used_some (take i cells) states index used small a)

-- an option that is nothing in particular is none
is_none : (o : Option ℕ) → ((x : ℕ) → ¬ o ≡ Some x) → o ≡ None
is_none None h = refl
is_none (Some x) h = absurd (h x refl)

-- a next cell without a state marks none
pub used_more_none : (cells : List (Option ℕ)) (i states : ℕ) (used : List Bool) → i < length cells
    → ((x : ℕ) → ¬ get_or cells i None ≡ Some x) → AreUsed (take i cells) states used
    → AreUsed (take (i + 1) cells) states used
used_more_none cells i states used lt h a =
    one_more cells i states used None lt (is_none (get_or cells i None) h) (used_none (take i cells) states used a)

-- a cell's index is one of the palette's
pub known_at : (cells : List (Option ℕ)) (i index states : ℕ)
    → All (λ cell. IfSome cell (λ index. index < states)) cells → i < length cells → get_or cells i None ≡ Some index
    → index < states
known_at cells i index states known lt e = subst (λ (o : Option ℕ). IfSome o (λ index. index < states)) e
    (known i None lt)

-- a state that stands at some cell is one of the cells'
pub contains_at : (cells : List (Option ℕ)) (i index : ℕ) → i < length cells → get_or cells i None ≡ Some index
    → Contains cells (Some index)
contains_at cells i index lt e = (i, lt, get_or_default cells i (Some index) None lt ∙ e)

-- ---- the class of each

-- the next state's class is known
pub classes_push : (cells : List (Option ℕ)) (palette : List BlockState) (rows : Table) (states : ℕ)
    (classes : List Class) (class : Class) → IsSoundClass class
    → (Contains cells (Some states) → IsClassOf rows palette (Some states) class)
    → AreClassesOf cells palette rows states classes
    → AreClassesOf cells palette rows (states + 1) (classes ++ class ∷ [])
classes_push cells palette rows states classes class sound is a = record {
  whole = omega (arith, length_push classes class, a.whole);
  sound = All-push IsSoundClass classes class a.sound sound;
  classed = λ index lt c. elim (cases_eq index states) [
    | inl e ↦ subst (λ (n : ℕ). IsClassOf rows palette (Some n) (get_or (classes ++ class ∷ []) n void)) (sym e)
        (subst (IsClassOf rows palette (Some states)) (sym (get_or_push classes class void states a.whole))
        (is (subst (λ (n : ℕ). Contains cells (Some n)) e c)))
    | inr ne ↦
        (let before : index < states = omega arith in
        let within : index < length classes = omega (arith, a.whole) in
        subst (IsClassOf rows palette (Some index)) (sym (get_or_append_left classes (class ∷ []) void index within))
        (a.classed index before c))
  ];
}

-- the row of a state that the palette has
pub palette_row-get_or : (rows : Table) (palette : List BlockState) (index : ℕ) (state : BlockState)
    → index < length palette
    → state ≡ get_or palette index state → palette_row rows palette index ≡ row_for rows state
palette_row-get_or rows palette index state lt e = ap (option_and_then (row_for rows))
    (slice_get-get_or palette index state lt) ∙ ap (row_for rows) (sym e)

-- an option isn't both none and there
none_some : (row : Row) (o : Option Row) → o ≡ None → o ≡ Some row → ⊥
none_some row o e f = absurd (cc)

-- a state without a row, where each one before it that the cells name has a row
pub unknown_here : (scan : Structure) (rows : Table) (index : ℕ) (classes : List Class)
    → AreClassesOf scan.cells scan.palette rows index classes → Contains scan.cells (Some index)
    → palette_row rows scan.palette index ≡ None → IsUnknown scan rows index
unknown_here scan rows index classes a c e = record {
  used = c;
  rowless = e;
  first = λ other used rowless. elim (cases_lt other index) [
    | inl lt ↦ (let is = a.classed other lt used in
        absurd (none_some is.0 (palette_row rows scan.palette other) rowless is.1))
    | inr le ↦ le
  ];
}

-- the class of the row that is found is that of the state
pub found_class : (rows : Table) (palette : List BlockState) (index : ℕ) (state : BlockState) (row : Row)
    (class : Class) → index < length palette → state ≡ get_or palette index state → Some row ≡ row_for rows state
    → class ≡ row.class → IsClassOf rows palette (Some index) class
found_class rows palette index state row class lt e f g =
    (row, palette_row-get_or rows palette index state lt e ∙ sym f, g)

-- the fault of such a state
pub fault_here : (scan : Structure) (rows : Table) (index : ℕ) (classes : List Class) (state : BlockState)
    (fault : BuildFault) → AreClassesOf scan.cells scan.palette rows index classes → Contains scan.cells (Some index)
    → index < length scan.palette → state ≡ get_or scan.palette index state → None ≡ row_for rows state
    → fault ≡ UnknownBlock index state.name → IsUnknownBlock scan rows fault
fault_here scan rows index classes state fault a c lt e none is =
    let named : state ≡ get_or scan.palette index (record { name = []; props = [] }) = e
    ∙ get_or_default scan.palette index state (record { name = []; props = [] }) lt in (
      index,
      unknown_here scan rows index classes a c (palette_row-get_or rows scan.palette index state lt e ∙ sym none),
      is
          ∙ ap (λ (s : BlockState). UnknownBlock index s.name) named,
    )
