use Rattle.std.proofs.Common.{ℕ, List, length, drop, Option, Some, inl, sym, ap, ◌∙◌, subst}
use Rattle.std.proofs.lemmas.List.{take_at}
use Rattle.std.proofs.lemmas.Result.{err_from_is_err_and}
use Rattle.nbt_core.specs.Value.{Nbt}
use Rattle.cave_base.specs.Box as grid
use Rattle.scan_core.specs.Cells.{ShowEntries}
use Rattle.scan_core.specs.Faults.{entry_faults}
use Rattle.scan_core.specs.declared.fault.Field.TheVariants as fields
use Rattle.scan_core.proofs.ListLemmas.{list_wrong, list_told}
use Rattle.scan_core.proofs.block.cells_of.Goals as goal

pub returns-in_default-compounds : goal.returns-in_default-compounds
returns-in_default-compounds c =
    inl (list_wrong fields.BlocksField (entry_faults (grid.point c.args.size) c.args.states)
    c.args.found c.in-Some.value (sym c.in-Some.is) c.in_default-compounds.ensures)

pub returns-in_err-fill : goal.returns-in_err-fill
returns-in_err-fill c =
    let judge = entry_faults (grid.point c.args.size) c.args.states in
    let same = list_told fields.BlocksField judge c.args.found c.in-Some.value
    c.in-Some-compounds.entries (sym c.in-Some.is) c.in-Some-compounds.ensures in
    let p = err_from_is_err_and c.from_residual-in_err-fill.result c.from_residual-in_err-fill.ensures.1 in
    rw (p.1, p.2) (inl (same ∙ c.in_err-fill.ensures))

pub returns : goal.returns
returns c =
    let judge = entry_faults (grid.point c.args.size) c.args.states in
    let same = list_told fields.BlocksField judge c.args.found c.in-Some.value
    c.in-Some-compounds.entries (sym c.in-Some.is) c.in-Some-compounds.ensures in
    let shown = c.in_ok-fill.ensures in
    let whole = take_at c.fill.new.cells (drop (length c.fill.new.cells) c.in_ok-cells.cells.items)
    c.in_ok-cells.cells.len (shown.0.whole ∙ sym c.in_ok-cells.ensures.len) in (
      record {
        values = c.in-Some-compounds.entries;
        listed = c.in-Some.is ∙ ap (λ (t : Nbt). Some t) c.in-Some-compounds.ensures.0;
        shown = subst (λ (cells : List (Option ℕ)). ShowEntries c.in-Some-compounds.entries (grid.point c.args.size)
            c.args.states cells) (sym whole) shown.0;
      },
      same ∙ shown.1,
    )
