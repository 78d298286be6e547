use Rattle.std.proofs.Common.{inl, inr, ⊎_elim, ap, ◌∙◌, Option}
use Rattle.std.proofs.lemmas.Result.{err_from_is_err_and}
use Rattle.nbt_core.specs.Value.{Nbt}
use Rattle.cave_base.specs.Box.{point}
use Rattle.scan_core.specs.Scan.{structure}
use Rattle.scan_core.proofs.ReadLemmas.{told_scan, fault_of-blocks}
use Rattle.scan_core.proofs.ScanLemmas.{structure_clean}
use Rattle.scan_core.proofs.WholeLemmas.{scan_whole}
use Rattle.scan_core.proofs.read.scan_of.Goals as goal

-- the fields of four names
abbrev Four : Type 0
Four = Option Nbt × Option Nbt × Option Nbt × Option Nbt

pub returns-in_err-cells : goal.returns-in_err-cells
returns-in_err-cells c told found =
    let palettes = ap (λ (x : Four). x.1) found in
    let size = rw (ap (λ (x : Four). x.0) found) at c.in_ok-size.ensures in
    let palette = rw (ap (λ (x : Four). x.2) found) at c.in_ok-palette.ensures in
    let p = err_from_is_err_and c.from_residual-in_err-cells.result c.from_residual-in_err-cells.ensures.1 in
    rw (p.1, p.2) (⊎_elim
    (λ e. inl (fault_of-blocks told (point c.in_ok-size.size) c.in_ok-palette.palette.items
    _ c.is_some.result c.len.result c.in_err-cells.field-0.0 size.0 size.1 palettes
    c.is_some.ensures c.if-is_some.false palette.0 palette.1 (c.len.ensures ∙ c.in_ok-palette.palette.ok.0) e))
    (λ e. inr e)
    (rw (ap (λ (x : Four). x.3) found) at c.in_err-cells.ensures))

pub new-requires : goal.new-requires
new-requires c =
    let root = c.requires.0 in
    let found = c.requires.1 in
    let size = rw (ap (λ (x : Four). x.0) found) at c.in_ok-size.ensures in
    let palettes = ap (λ (x : Four). x.1) found in
    let told = rw (ap (λ (x : Four). x.2) found) at c.in_ok-palette.ensures in
    let shown = rw (ap (λ (x : Four). x.3) found) at c.in_ok-cells.ensures in
    let palette = c.in_ok-palette.palette.items in
    let cells = c.in_ok-cells.cells.items in
    scan_whole root (structure c.in_ok-size.size palette cells)
    (told_scan root (point c.in_ok-size.size) palette cells _ c.is_some.result c.len.result
    size.0 palettes c.is_some.ensures c.if-is_some.false told.0
    (c.len.ensures ∙ c.in_ok-palette.palette.ok.0) shown.0)

pub returns : goal.returns
returns c root found =
    let size = rw (ap (λ (x : Four). x.0) found) at c.in_ok-size.ensures in
    let palettes = ap (λ (x : Four). x.1) found in
    let told = rw (ap (λ (x : Four). x.2) found) at c.in_ok-palette.ensures in
    let shown = rw (ap (λ (x : Four). x.3) found) at c.in_ok-cells.ensures in
    let palette = c.in_ok-palette.palette.items in
    let cells = c.in_ok-cells.cells.items in
    let is = told_scan root (point c.in_ok-size.size) palette cells _ c.is_some.result
    c.len.result size.0 palettes c.is_some.ensures c.if-is_some.false
    told.0 (c.len.ensures ∙ c.in_ok-palette.palette.ok.0) shown.0 in
    rw c.new.ensures (is, structure_clean root (structure c.in_ok-size.size palette cells) is)
