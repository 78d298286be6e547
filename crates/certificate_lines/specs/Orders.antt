-- Where the lines of a region's dark cells stand. This is this project's own.
use Rattle.std.specs.Prelude.{◌≡◌, Bool, true, false, List, [], ◌∷◌}
use Rattle.certificate_lines.specs.Said.{Said}
use Rattle.certificate_lines.specs.declared.kind.LineKind.{LineKind}
use Rattle.certificate_lines.specs.declared.kind.LineKind.TheVariants as kind
use Rattle.certificate_lines.specs.declared.stage.Stage.{Stage}
use Rattle.certificate_lines.specs.declared.stage.Stage.TheVariants as stage

-- whether a line is that of a region's dark cells
abbrev pub is_dark : LineKind → Bool
is_dark kind.Dark = true
is_dark k = false

-- whether it is a region's first line
abbrev pub is_region : LineKind → Bool
is_region kind.Region = true
is_region k = false

-- whether a region's dark cells are to come
abbrev pub awaits_dark : Stage → Bool
awaits_dark (stage.Dark version count to_come n t) = true
awaits_dark s = false

-- after a line of this kind: a line is that of dark cells just where it comes after a region's first line
abbrev pub IsOrdered : LineKind → List Said → Type 0
IsOrdered before [] = Unit {0}
IsOrdered before (s ∷ all) = (is_dark s.kind ≡ is_region before) × IsOrdered s.kind all

-- the kind of the last of the lines, or this one where there are none
abbrev pub last_kind : LineKind → List Said → LineKind
last_kind before [] = before
last_kind before (s ∷ all) = last_kind s.kind all

-- they stand so, and dark cells are to come just where the last of them is a region's first line
pub record AreInOrder (s : Stage) (all : List Said) : Type 0 where
  pub ordered : IsOrdered kind.End all
  pub last : awaits_dark s ≡ is_region (last_kind kind.End all)
