-- What a structure tells: a sound cave, and one alone, or an unknown block, and one alone.
use Rattle.std.proofs.Common.{◌≡◌, ◌≢◌, ℕ, zero, suc, ◌<◌, Option, Some, None, IfSome, List, length, map, get_or, All}
use Rattle.std.proofs.Common.{refl, sym, ap, subst, ◌∙◌, arith, inl, inr, IsTrue}
use Rattle.std.proofs.lemmas.Bool.{cases_lt}
use Rattle.std.proofs.lemmas.List.{ext_get_or, get_or_default, get_or_past, length-map}
use Rattle.std.proofs.Math.ListN.{get_or-map}
use Rattle.cave_base.specs.Box.{Point, cell_count, is_small}
use Rattle.scan_core.specs.Scan.{Structure}
use Rattle.scan_core.specs.declared.state.BlockState.{BlockState}
use Rattle.cave_base.specs.declared.class.Class.{Class}
use Rattle.block_rows.specs.declared.row.Row.{Row}
use Rattle.cave_base.specs.Class.{IsSoundClass, void}
use Rattle.block_rows.specs.Rows.{Table}
use Rattle.cave_reading.specs.Building.{AreClassesOf, class_by}
use Rattle.cave_model.specs.Rule.{Rule, IsRule, is_need}
use Rattle.cave_model.specs.Cave.{Cave, class_at, IsWorld}
use Rattle.cave_reading.specs.World.{palette_row, IsCaveOf, IsClassOf, IsUnknownBlock}
use Rattle.cave_reading.specs.declared.fault.BuildFault.{BuildFault}
use Rattle.cave_reading.specs.declared.fault.BuildFault.TheVariants.{UnknownBlock, OutOfMemory}
use Rattle.cave_reading.proofs.StateLemmas.{known_at, contains_at}

-- ---- the cave that is built

-- what a scan keeps, as its readers tell it
pub record IsTold (scan : Structure) : Type 0 where
  pub small : IsTrue (is_small scan.size)
  pub whole : length scan.cells ≡ cell_count scan.size
  pub known : All (λ cell. IfSome cell (λ index. index < length scan.palette)) scan.cells

-- the cave of these classes
abbrev pub cave_by : Structure → Rule → List Class → Cave
cave_by scan rule states = record { size = scan.size; classes = map (class_by states) scan.cells; rule = rule }

-- caves with equal parts are equal
cave_parts : (size size' : Point) (classes classes' : List Class) (rule rule' : Rule) → size ≡ size'
    → classes ≡ classes' → rule ≡ rule'
    → ◌≡◌ {A = Cave} (record { size = size; classes = classes; rule = rule })
    (record { size = size'; classes = classes'; rule = rule' })
cave_parts size size' classes classes' rule rule' p q r = cc

-- a cave built of the classes by state is the scan's
pub built : (scan : Structure) (rule : Rule) (states : List Class) (size : Point) (classes : List Class)
    → size ≡ scan.size → classes ≡ map (class_by states) scan.cells
    → ◌≡◌ {A = Cave} (record { size = size; classes = classes; rule = rule }) (cave_by scan rule states)
built scan rule states size classes p q = cave_parts size scan.size classes (map (class_by states) scan.cells) rule
    rule p q refl

-- the class by a cell's state is the class of the cell
class_in : (scan : Structure) (rows : Table) (states : List Class) → IsTold scan
    → AreClassesOf scan.cells scan.palette rows (length scan.palette) states → (cell : ℕ) → cell < length scan.cells
    → (o : Option ℕ) → get_or scan.cells cell None ≡ o → IsClassOf rows scan.palette o (class_by states o)
class_in scan rows states told a cell lt None e = refl
class_in scan rows states told a cell lt (Some index) e =
    a.classed index (known_at scan.cells cell index (length scan.palette) told.known lt e)
    (contains_at scan.cells cell index lt e)

-- a cave built of the classes of all states is the scan's by these rows
pub cave_is : (scan : Structure) (rows : Table) (rule : Rule) (states : List Class) → IsTold scan
    → AreClassesOf scan.cells scan.palette rows (length scan.palette) states
    → IsCaveOf scan rows rule (cave_by scan rule states)
cave_is scan rows rule states told a = record {
  sized = refl;
  ruled = refl;
  whole = length-map scan.cells (class_by states) ∙ told.whole;
  classed = λ cell lt.
      subst (IsClassOf rows scan.palette (get_or scan.cells cell None))
      (sym (get_or-map (class_by states) scan.cells cell None))
      (class_in scan rows states told a cell (subst (λ (n : ℕ). cell < n) (sym told.whole) lt)
      (get_or scan.cells cell None) refl);
}

-- the class of the void is sound
pub void_sound : IsSoundClass void
void_sound = record {
  thin = omega arith;
  faint = omega arith;
  clear = λ p. absurd (cc);
  unlit = λ p. refl;
  roomy = λ p. absurd (cc);
  no_ground = λ p. refl;
  no_top = λ p. refl;
  no_side = λ p. refl;
}

-- each of sound classes, or the void past their end
at_sound : (classes : List Class) (n : ℕ) → All IsSoundClass classes → IsSoundClass (get_or classes n void)
at_sound classes n all = elim (cases_lt n (length classes)) [
  | inl lt ↦ all n void lt
  | inr le ↦ subst IsSoundClass (sym (get_or_past classes n void le)) void_sound
]

-- where all classes are sound, that of a cell is
by_sound : (states : List Class) (o : Option ℕ) → All IsSoundClass states → IsSoundClass (class_by states o)
by_sound states None all = void_sound
by_sound states (Some index) all = at_sound states index all

-- a rule needs some light
pub needs_light : (need : ℕ) → IsTrue (is_need need) → 0 < need
needs_light zero is = absurd (cc)
needs_light (suc n) is = omega arith

-- a cave built of sound classes is sound
pub cave_sound : (scan : Structure) (rule : Rule) (states : List Class) → IsTold scan → All IsSoundClass states
    → IsRule rule → IsWorld (cave_by scan rule states)
cave_sound scan rule states told all fits = record {
  sound = record {
    whole = length-map scan.cells (class_by states) ∙ told.whole;
    classed = λ cell. subst IsSoundClass (sym (get_or-map (class_by states) scan.cells cell None))
        (by_sound states (get_or scan.cells cell None) all);
    needed = needs_light rule.need fits.needed;
  };
  small = told.small;
  ruled = fits;
}

-- ---- one answer alone

-- one row is found
some_row : (a b : Row) (o : Option Row) → o ≡ Some a → o ≡ Some b → a ≡ b
some_row a b o e f = cc

-- a cell has one class
one_class : (rows : Table) (palette : List BlockState) (o : Option ℕ) (a b : Class) → IsClassOf rows palette o a
    → IsClassOf rows palette o b → a ≡ b
one_class rows palette None a b p q = p ∙ sym q
one_class rows palette (Some index) a b p q = p.2 ∙ ap (λ (row : Row). row.class)
    (some_row p.0 q.0 (palette_row rows palette index) p.1 q.1) ∙ sym q.2

-- caves with equal size, classes and rule are equal
same_cave : (a b : Cave) → a.size ≡ b.size → a.classes ≡ b.classes → a.rule ≡ b.rule → a ≡ b
same_cave a b p q r = cave_parts a.size b.size a.classes b.classes a.rule b.rule p q r

-- a scan has one cave
pub one_cave : (scan : Structure) (rows : Table) (rule : Rule) (a b : Cave) → IsCaveOf scan rows rule a
    → IsCaveOf scan rows rule b → a ≡ b
one_cave scan rows rule a b p q = same_cave a b (p.sized ∙ sym q.sized)
    (ext_get_or void a.classes b.classes (p.whole ∙ sym q.whole) (λ cell lt.
    (let within : cell < cell_count scan.size = subst (λ (n : ℕ). cell < n) p.whole lt in
    one_class rows scan.palette (get_or scan.cells cell None) (class_at a cell) (class_at b cell)
    (p.classed cell within) (q.classed cell within))))
    (p.ruled ∙ sym q.ruled)

-- where no row is found none is there
row_missing : (row : Row) (o : Option Row) → o ≡ None → o ≡ Some row → ⊥
row_missing row o e f = absurd (cc)

-- a structure that tells a cave has no unknown block
pub no_unknown : (scan : Structure) (rows : Table) (rule : Rule) (cave : Cave) (e : BuildFault)
    → length scan.cells ≡ cell_count scan.size → IsCaveOf scan rows rule cave → IsUnknownBlock scan rows e → ⊥
no_unknown scan rows rule cave e whole is (index, u, f) =
    let at : get_or scan.cells u.used.0 None ≡ Some index = get_or_default scan.cells u.used.0 None
    (Some index) u.used.1 ∙ u.used.2 in
    let class = subst (λ (o : Option ℕ). IsClassOf rows scan.palette o (class_at cave u.used.0)) at
    (is.classed u.used.0 (subst (λ (n : ℕ). u.used.0 < n) whole u.used.1)) in
    row_missing class.0 (palette_row rows scan.palette index) u.rowless class.1

-- a fault that is none of memory's own names an unknown block; so where there is a cave, memory ran out
pub only_memory : (scan : Structure) (rows : Table) (rule : Rule) (cave : Cave) (e : BuildFault)
    → length scan.cells ≡ cell_count scan.size → IsCaveOf scan rows rule cave
    → (e ≢ OutOfMemory → IsUnknownBlock scan rows e) → e ≡ OutOfMemory
only_memory scan rows rule cave OutOfMemory whole is h = refl
only_memory scan rows rule cave (UnknownBlock index name) whole is h =
    absurd (no_unknown scan rows rule cave (UnknownBlock index name) whole is (h (λ e. absurd (cc))))
