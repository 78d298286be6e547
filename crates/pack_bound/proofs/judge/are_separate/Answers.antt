use Rattle.std.proofs.Common.{◌≤◌, ℕ, List, length, take, take_all, slice_index, refl, sym, subst, ◌∙◌, arith}
use Rattle.std.proofs.lemmas.Bool.{true≢false, false≢true}
use Rattle.std.proofs.lemmas.List.{take_more}
use Rattle.set_cover.specs.Bits.{IsApart, IsWithApart}
use Rattle.set_cover.proofs.OrderLemmas.{element_of}
use Rattle.pack_bound.specs.Judged.{AreSeparate}
use Rattle.pack_bound.proofs.JudgeLemmas.{AreLitApart, apart_begin, apart_more, apart_only, unlit_inside}
use Rattle.pack_bound.proofs.judge.are_separate.Goals as goal

pub loop-cell-init : goal.loop-cell-init
loop-cell-init c = apart_begin c.args.region.now c.args.node.now.barred c.args.lighting.now c.requires.whole
    c.requires.none

pub column-requires : goal.column-requires
column-requires c =
    let cells = c.args.cells.now in
    let cell = slice_index cells c.loop-cell.cell-index in
    record {
      inside = unlit_inside c.args.region.now c.args.node.now cell c.requires.state
          (c.requires.marked.each cell (element_of cells cell c.loop-cell.cell-index c.loop-cell-test.true refl));
    }

pub loop-cell-preserved : goal.loop-cell-preserved
loop-cell-preserved c =
    let cells = c.args.cells.now in
    let i = c.loop-cell.cell-index in
    subst (λ (l : List ℕ). AreLitApart c.args.region.now c.args.node.now.barred l c.add_apart.new.words)
    (sym (take_more cells i 0 c.loop-cell-test.true))
    (apart_more c.args.region.now c.args.node.now.barred (take i cells) c.loop-cell.lighting c.column.result.now
    c.add_apart.new.words (slice_index cells i) c.loop-cell.invariant c.column.ensures.column
    (subst (λ (row : List ℕ). IsWithApart c.loop-cell.lighting c.column.result.now row c.add_apart.new.words)
    c.barred.ensures (c.add_apart.ensures.grown c.if-not-add_apart.false)))

pub returns-then-not-add_apart : goal.returns-then-not-add_apart
returns-then-not-add_apart c =
    let cells = c.args.cells.now in let barred = c.args.node.now.barred in let column = c.column.result.now in (
      λ t. absurd (false≢true t),
      λ a. absurd (true≢false (sym (c.add_apart.ensures.apart.1
          (subst (IsApart c.loop-cell.lighting column) (sym c.barred.ensures)
          (apart_only c.args.region.now barred cells c.loop-cell.lighting column c.loop-cell.cell-index
          c.requires.marked.distinct c.loop-cell-test.true c.loop-cell.invariant c.column.ensures.column a)))
          ∙ c.if-not-add_apart.true)),
    )

pub returns : goal.returns
returns c =
    let all : length c.args.cells.now ≤ c.loop-cell.cell-index = omega arith in (
      λ t. subst (AreSeparate c.args.region.now c.args.node.now.barred)
          (take_all c.loop-cell.cell-index c.args.cells.now all) c.loop-cell.invariant.apart,
      λ a. refl,
    )
