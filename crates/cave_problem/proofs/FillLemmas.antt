-- Lists are filled, one block of cells after another.
use Rattle.std.proofs.Common.{◌≡◌, ◌↔◌, ℕ, ◌+◌, ◌*◌, ◌/◌, ◌%◌, ◌<◌, ◌≤◌, List, [], length, slice_index}
use Rattle.std.proofs.Common.{sym, ap, subst, ◌∙◌, arith, inl, inr, set, length-set, get_or-set_same}
use Rattle.std.proofs.Common.{get_or-set_other}
use Rattle.std.proofs.lemmas.Bool.{cases_lt, cases_eq}
use Rattle.std.proofs.lemmas.List.{get_or_past}
use Rattle.std.proofs.lemmas.List.Elements.{Contains-get_or}
use Rattle.cave_model.specs.Cave.{Cave, IsSound}
use Rattle.cave_model.specs.Light.{entering_cost}
use Rattle.cave_model.specs.Torches.{ArePlaces}
use Rattle.cave_model.proofs.ListingLemmas.{ListsBelow}
use Rattle.set_cover.specs.Bits.{Has}
use Rattle.set_cover.specs.Buckets.{bucket}
use Rattle.set_cover.proofs.BitLemmas.{one_if, has_if}
use Rattle.set_cover.proofs.BucketLemmas.{Grouping, grouping_all}
use Rattle.cave_problem.specs.Blocks.{Reaches, IsSet}
use Rattle.cave_problem.specs.Filling.{LightsBy, IsFilling}
use Rattle.cave_problem.specs.Storing.{IsBlock, IsSourceOf, IsStored}
use Rattle.cave_problem.proofs.LightingLemmas.{place_cost, lights_back}
use Rattle.cave_problem.proofs.MoreLemmas.{lists_start, lists_more}

-- those of the first `count` cells that some place lights
pub record AreReached (cave : Cave) (cells places : List ℕ) (width count : ℕ) (covered : List ℕ) : Type 0 where
  pub whole : length covered ≡ width
  pub exact : (cell : ℕ) → Has covered cell ↔ ((cell < count) × (place : ℕ) × LightsBy cave cells places place cell)

-- lists and row have the first `count` cells
pub record Filling (cave : Cave) (cells places : List ℕ) (width count : ℕ) (lit : List (List ℕ)) (covered : List ℕ)
    : Type 0 where
  pub lists : Grouping (LightsBy cave cells places) (length places) count lit
  pub row : AreReached cave cells places width count covered

-- after the last cell
pub filling_all : (cave : Cave) (cells places : List ℕ) (width count : ℕ) (lit : List (List ℕ)) (covered : List ℕ)
    → length cells ≤ count → Filling cave cells places width count lit covered
    → IsFilling cave cells places lit covered
filling_all cave cells places width count lit covered last s = record {
  lists = grouping_all (LightsBy cave cells places) (length places) count lit
      (λ place cell by. omega (arith, by.inside)) s.lists;
  row = record {
    exact = λ cell. (
      λ has. (let b = (s.row.exact cell).0 has in (b.1, b.2)),
      λ by. (s.row.exact cell).1 (omega (arith, by.1.inside), by.0, by.1),
    );
  };
}

module _ (cave : Cave) (cells places sources : List ℕ) (block : ℕ) (sound : IsSound cave)
    (legal : ArePlaces cave places) (is : IsBlock cells block sources) where
  -- a place of the list costs 1 to enter
  listed_cost : (place : ℕ) → place < length places → entering_cost cave (slice_index places place) ≡ 1
  listed_cost place h = place_cost cave (slice_index places place) sound
      ((legal.exact (slice_index places place)).0 (Contains-get_or places place 0 h))

  -- a source brings what is needed to a place exactly where the place lights it
  lights_source : (place bit : ℕ) → place < length places → bit < 64
      → ((bit < length sources) × Reaches cave (slice_index sources bit) cave.rule.need (slice_index places place))
      ↔ LightsBy cave cells places place (64 * block + bit)
  lights_source place bit h lt = (
    λ r. record {
      listed = h;
      inside = (is.exact bit lt).0 r.0;
      lights = (lights_back cave (slice_index places place) (slice_index cells (64 * block + bit))
          (listed_cost place h)).0
          (subst (λ (s : ℕ). Reaches cave s cave.rule.need (slice_index places place)) (is.same bit r.0) r.1);
    },
    λ by. (let source = (is.exact bit lt).1 by.inside in (
      source,
      subst (λ (s : ℕ). Reaches cave s cave.rule.need (slice_index places place)) (sym (is.same bit source))
          ((lights_back cave (slice_index places place) (slice_index cells (64 * block + bit))
          (listed_cost place h)).1 by.lights),
    )),
  )

  -- the same for a cell of the block
  lights_cell : (place cell : ℕ) → place < length places → cell / 64 ≡ block
      → ((cell % 64 < length sources)
      × Reaches cave (slice_index sources (cell % 64)) cave.rule.need (slice_index places place))
      ↔ LightsBy cave cells places place cell
  lights_cell place cell h e =
      let at : 64 * block + cell % 64 ≡ cell = omega arith in
      subst (λ (c : ℕ). ((cell % 64 < length sources)
      × Reaches cave (slice_index sources (cell % 64)) cave.rule.need (slice_index places place))
      ↔ LightsBy cave cells places place c) at (lights_source place (cell % 64) h (omega arith))

  -- the block's sources that reach a place are the cells of the block that it lights
  sources_are : (place cell : ℕ) → place < length places → IsSourceOf cave sources block (slice_index places place) cell
      ↔ ((64 * block ≤ cell) × (cell < 64 * (block + 1)) × LightsBy cave cells places place cell)
  sources_are place cell h = (
    λ of. (
      omega (arith, of.here),
      omega (arith, of.here),
      (lights_cell place cell h of.here).0 (of.source, of.reaches),
    ),
    λ b.
        (let here : cell / 64 ≡ block = omega (arith, b.0, b.1) in
        let r = (lights_cell place cell h here).1 b.2 in
        record { here = here; source = r.0; reaches = r.1 }),
  )

  -- the lists have the next block's cells
  lists_next : (old new : List (List ℕ)) (all : ℕ) → IsStored cave sources places block old new all
      → Grouping (LightsBy cave cells places) (length places) (64 * block) old
      → Grouping (LightsBy cave cells places) (length places) (64 * (block + 1)) new
  lists_next old new all stored s = record {
    whole = stored.whole ∙ s.whole;
    each = λ place. elim (cases_lt place (length places)) [
      | inl lt ↦ lists_more (LightsBy cave cells places place)
          (IsSourceOf cave sources block (slice_index places place)) (64 * block) (64 * (block + 1))
          (bucket old place) (bucket new place) (omega arith) (λ cell. sources_are place cell lt) (s.each place)
          (stored.each place lt)
      | inr past ↦ subst (ListsBelow (LightsBy cave cells places place) (64 * (block + 1)))
          (sym (get_or_past new place [] (omega (arith, past, stored.whole, s.whole))))
          (lists_start (LightsBy cave cells places place) (64 * (block + 1))
          (λ cell lt by. absurd (omega (arith, past, by.listed))))
    ];
  }

  -- the row has what some place lights of these cells
  row_next : (width : ℕ) (old new : List (List ℕ)) (covered : List ℕ) (all : ℕ) → block < width
      → IsStored cave sources places block old new all
      → AreReached cave cells places width (64 * block) covered
      → AreReached cave cells places width (64 * (block + 1)) (set covered block all)
  row_next width old new covered all narrow stored s = record {
    whole = length-set covered block all ∙ s.whole;
    exact = λ cell. elim (cases_eq (cell / 64) block) [
      | inl e ↦ (let same : slice_index (set covered block all) (cell / 64) ≡ all =
          ap (slice_index (set covered block all)) e ∙ get_or-set_same covered block all 0 (omega (arith, s.whole)) in (
            λ has. (let by = (stored.lit (cell % 64) (omega arith)).0 (subst (λ (word : ℕ). IsSet word (cell % 64)) same
                (one_if (set covered block all) cell has)) in (
                  omega arith,
                  by.place,
                  (lights_cell by.place cell by.inside e).0 (by.source, by.reaches),
                )),
            λ b. has_if (set covered block all) cell (subst (λ (word : ℕ). IsSet word (cell % 64)) (sym same)
                ((stored.lit (cell % 64) (omega arith)).1 (let r = (lights_cell b.1 cell b.2.listed e).1 b.2 in
                record { place = b.1; inside = b.2.listed; source = r.0; reaches = r.1 }))),
          ))
      | inr ne ↦ (let same : slice_index (set covered block all) (cell / 64) ≡ slice_index covered (cell / 64) =
          get_or-set_other covered block (cell / 64) all 0 ne in (
            λ has. (let b = (s.exact cell).0 (has_if covered cell (subst (λ (word : ℕ). IsSet word (cell % 64)) same
                (one_if (set covered block all) cell has))) in (omega (arith, b.0), b.1, b.2)),
            λ b. has_if (set covered block all) cell (subst (λ (word : ℕ). IsSet word (cell % 64)) (sym same)
                (one_if covered cell ((s.exact cell).1 (omega (arith, b.0, ne), b.1, b.2)))),
          ))
    ];
  }

  -- lists and row have the next block's cells
  pub filling_next : (width : ℕ) (old new : List (List ℕ)) (covered : List ℕ) (all : ℕ) → block < width
      → IsStored cave sources places block old new all
      → Filling cave cells places width (64 * block) old covered
      → Filling cave cells places width (64 * (block + 1)) new (set covered block all)
  filling_next width old new covered all narrow stored s = record {
    lists = lists_next old new all stored s.lists;
    row = row_next width old new covered all narrow stored s.row;
  }
