-- What a desk that is after a size knows. This is this project's own.
use Rattle.std.specs.Prelude.{ℕ}
use Rattle.search_traits.specs.Alone.{Alone}
use Rattle.search_traits.specs.Desks.{DeskState}

-- as the desk beneath, but for the size that it showed
abbrev pub aimed_state : ℕ → Alone → DeskState
aimed_state shown desk = record {
  shown = shown;
  accepted = desk.accepted;
  granted = desk.granted;
  limit = desk.limit;
  region = desk.cover.region;
}
