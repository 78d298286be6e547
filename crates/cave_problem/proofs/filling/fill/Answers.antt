use Rattle.std.proofs.Common.{◌≡◌, ◌*◌, ◌≤◌, ℕ, List, length, drop, take_at, refl, sym, subst, ap}
use Rattle.std.proofs.Common.{arith}
use Rattle.cave_base.specs.Box.{cell_count}
use Rattle.set_cover.proofs.OrderLemmas.{few_below}
use Rattle.cave_problem.specs.BlockFlood.{IsReady}
use Rattle.cave_problem.specs.Blocks.{HasRoom}
use Rattle.cave_problem.specs.Filling.{IsFilling}
use Rattle.cave_problem.specs.Storing.{IsStored, Stores}
use Rattle.cave_problem.proofs.FillLemmas.{filling_next, filling_all}
use Rattle.cave_problem.proofs.FloodLemmas.{spread_room}
use Rattle.cave_problem.proofs.StoreLemmas.{block_inside, block_once}
use Rattle.cave_problem.proofs.filling.fill.Goals.{After-store, After-as_mut_slice-covered}
use Rattle.cave_problem.proofs.filling.fill.Goals as goal

stored : (c : After-store) (all : ℕ) → Stores c.args.world.now c.as_slice-reach.result.now c.as_slice-near.result.now
    c.as_slice-levels.result.now c.args.places.now (length c.block_of-sources.result.now) c.in_ok-count.count
    c.loop-block.block c.loop-block.lit c.store.new.lit all
    → IsStored c.args.world.now c.block_of-sources.result.now c.args.places.now c.loop-block.block c.loop-block.lit
    c.store.new.lit all
stored c all is =
    let spread = c.in_ok-count.ensures in
    let stores : Stores c.args.world.now c.spread.new.self.reach.items c.spread.new.self.near.items
    c.spread.new.self.levels.items c.args.places.now (length c.block_of-sources.result.now) c.in_ok-count.count
    c.loop-block.block c.loop-block.lit c.store.new.lit all =
    subst (λ (l : List ℕ). Stores c.args.world.now c.spread.new.self.reach.items c.spread.new.self.near.items l
    c.args.places.now (length c.block_of-sources.result.now) c.in_ok-count.count
    c.loop-block.block c.loop-block.lit c.store.new.lit all)
    c.as_slice-levels.ensures.value
    (subst (λ (l : List ℕ). Stores c.args.world.now c.spread.new.self.reach.items l c.as_slice-levels.result.now
    c.args.places.now (length c.block_of-sources.result.now) c.in_ok-count.count
    c.loop-block.block c.loop-block.lit c.store.new.lit all)
    c.as_slice-near.ensures.value
    (subst (λ (l : List ℕ). Stores c.args.world.now l c.as_slice-near.result.now c.as_slice-levels.result.now
    c.args.places.now (length c.block_of-sources.result.now) c.in_ok-count.count
    c.loop-block.block c.loop-block.lit c.store.new.lit all)
    c.as_slice-reach.ensures.value is)) in
    stores.stored c.block_of-sources.result.now refl spread.linked spread.there spread.complete

pub loop-block-preserved : goal.loop-block-preserved
loop-block-preserved c = (let after = (goal.at.loop-block-preserved c).After-store in record {
  filled = filling_next c.args.world.now c.args.cells.now c.args.places.now c.block_of-sources.result.now
      c.loop-block.block c.cell_count-box_size.ensures.sound c.requires.places.legal c.block_of-sources.ensures
      (length c.as_mut_slice-covered.result.now) c.loop-block.lit c.store.new.lit c.loop-block.covered
      c.in_ok-covered.field-0 c.loop-block-test.true (stored after c.in_ok-covered.field-0 c.in_ok-covered.ensures)
      c.loop-block.invariant.filled;
  ready = subst (λ (n : ℕ). IsReady n c.clear.new.self) c.in_ok-count.ensures.left.wide.numbers c.clear.ensures;
})

pub spread-requires-clause-sources : goal.spread-requires-clause-sources
spread-requires-clause-sources c = record {
  few = c.block_of-sources.ensures.few;
  inside = block_inside c.args.cells.now c.block_of-sources.result.now c.loop-block.block
      (cell_count c.args.world.now.size) c.block_of-sources.ensures c.requires.cells.inside;
  once = block_once c.args.cells.now c.block_of-sources.result.now c.loop-block.block c.block_of-sources.ensures
      c.requires.cells.ascending;
}

pub store-requires-clause-room : goal.store-requires-clause-room
store-requires-clause-room c =
    subst (λ (l : List ℕ). HasRoom c.args.world.now l c.as_slice-near.result.now c.as_slice-levels.result.now
    (length c.block_of-sources.result.now) c.in_ok-count.count) (sym c.as_slice-reach.ensures.value)
    (subst (λ (l : List ℕ). HasRoom c.args.world.now c.spread.new.self.reach.items l c.as_slice-levels.result.now
    (length c.block_of-sources.result.now) c.in_ok-count.count) (sym c.as_slice-near.ensures.value)
    (subst (λ (l : List ℕ). HasRoom c.args.world.now c.spread.new.self.reach.items c.spread.new.self.near.items l
    (length c.block_of-sources.result.now) c.in_ok-count.count) (sym c.as_slice-levels.ensures.value)
    (spread_room c.args.world.now c.block_of-sources.result.now c.spread.new.self c.in_ok-count.count
    c.block_of-sources.ensures.few c.in_ok-count.ensures)))

-- there are as many words as the cells take
words : (c : After-as_mut_slice-covered) → length c.as_mut_slice-covered.result.now
    ≡ length c.args.lighting.now.covered.items
words c = ap length c.as_mut_slice-covered.ensures.value

pub store-requires-clause-small : goal.store-requires-clause-small
store-requires-clause-small c =
    let before = (goal.at.store-requires-clause-small c).After-as_mut_slice-covered in
    let few : length c.args.cells.now ≤ cell_count c.args.world.now.size =
    few_below c.args.cells.now (cell_count c.args.world.now.size) c.requires.cells.ascending c.requires.cells.inside in
    omega (
      arith,
      few,
      c.cell_count-box_size.ensures.few,
      c.cell_count-box_size.ensures.count,
      c.loop-block-test.true,
      c.requires.blank.wide,
      words before,
    )

pub returns-clause-filled : goal.returns-clause-filled
returns-clause-filled c =
    let before = (goal.at.returns-clause-filled c).After-as_mut_slice-covered in
    subst (IsFilling c.args.world.now c.args.cells.now c.args.places.now c.loop-block.lit)
    (sym (take_at c.loop-block.covered (drop (length c.loop-block.covered) c.args.lighting.now.covered.items)
    c.args.lighting.now.covered.len
    (omega (arith, c.as_mut_slice-covered.ensures.len, c.loop-block.auto.covered))))
    (filling_all c.args.world.now c.args.cells.now c.args.places.now (length c.as_mut_slice-covered.result.now)
    (64 * c.loop-block.block) c.loop-block.lit c.loop-block.covered
    (omega (arith, c.loop-block-test.false, c.requires.blank.wide, words before)) c.loop-block.invariant.filled)
