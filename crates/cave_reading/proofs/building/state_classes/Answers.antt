use Rattle.std.proofs.Common.{◌≡◌, ℕ, ◌<◌, length, ap, sym, subst, ◌∙◌, arith, true≢false, option_copied}
use Rattle.cave_reading.specs.Building.{AreClassesOf}
use Rattle.cave_reading.proofs.CaveLemmas.{void_sound}
use Rattle.cave_reading.proofs.StateLemmas.{classes_push, found_class, fault_here}
use Rattle.cave_reading.proofs.building.state_classes.Goals.{then-used-index+in-Some, else-used-index}
use Rattle.cave_reading.proofs.building.state_classes.Goals as goal

pub returns-in-None-clause-fault : goal.returns-in-None-clause-fault
returns-in-None-clause-fault c = λ ne.
    let scan = c.args.scan.now in
    let index = c.loop-index.index in
    let state = c.index-palette-index.result in
    let inv = rw c.palette-palette.ensures.palette at c.loop-index.invariant in
    let at = rw c.palette-palette.ensures.palette at c.index-palette-index.is in
    let lt : index < length scan.palette = omega (arith, ap length c.palette-palette.ensures.palette) in
    fault_here scan c.args.rows.now index c.loop-index.classes.items state c.unknown_block.result
    inv ((c.requires.exact index).0 c.if-used-index.true) lt at
    (ap option_copied (sym c.in-None.is) ∙ c.row_of.ensures.row) (c.unknown_block.ensures ne)

pub loop-index-preserved : goal.loop-index-preserved
loop-index-preserved c =
    let scan = c.args.scan.now in
    let palette = c.palette-palette.result.now in
    let index = c.loop-index.index in
    let rows = c.args.rows.now in
    let class = c.if-used-index.class in
    let pushed = classes_push scan.cells palette rows index c.loop-index.classes.items class in
    elim c.if-used-index.branch [
      | then-used-index+in-Some w ↦ rw c.in_ok-push.ensures.items (pushed
          (rw w.class-is (rw w.in-Some.is at w.row_of.ensures.sound))
          (λ used. found_class rows palette index c.index-palette-index.result w.in-Some.row.now class
          c.loop-index-test.true c.index-palette-index.is (ap option_copied (sym w.in-Some.is)
          ∙ w.row_of.ensures.row) w.class-is)
          c.loop-index.invariant)
      | else-used-index w ↦ rw c.in_ok-push.ensures.items (pushed
          (rw w.class-is void_sound)
          (λ used. absurd (true≢false (sym ((c.requires.exact index).1 used) ∙ w.if-used-index.false)))
          c.loop-index.invariant)
    ]

pub returns-clause-found : goal.returns-clause-found
returns-clause-found c =
    let scan = c.args.scan.now in
    let inv = rw c.palette-palette.ensures.palette at c.loop-index.invariant in
    let end : c.loop-index.index ≡ length scan.palette = omega (arith, ap length c.palette-palette.ensures.palette) in
    subst (λ (n : ℕ). AreClassesOf scan.cells scan.palette c.args.rows.now n c.loop-index.classes.items) end inv
