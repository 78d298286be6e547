use Rattle.std.proofs.Common.{◌≡◌, ◌+◌, ◌-◌, ℕ, List, length, drop, take_at, arith, refl, sym, ap}
use Rattle.std.proofs.Common.{subst}
use Rattle.cave_base.specs.Box.{cell_count}
use Rattle.cave_problem.specs.Blocks.{AreLevels, AreSized, AreWidened, HasRoom, Settles}
use Rattle.cave_problem.specs.BlockFlood.{AreWide}
use Rattle.cave_problem.specs.Reach.{AreInside}
use Rattle.cave_problem.proofs.NumberedLemmas.{reach_few}
use Rattle.cave_problem.proofs.SideLemmas.{sides_within}
use Rattle.cave_problem.proofs.FloodLemmas.{IsSpread, Spreading, spreading_none, spreading_next, spreading_all}
use Rattle.cave_problem.proofs.FloodLemmas.{blank_ready, spread_same, reach_sized}
use Rattle.cave_problem.proofs.FloodLemmas.{grown_linked, grown_complete, grown_levels, levels_widened}
use Rattle.cave_problem.proofs.block_flood.BlockFlood.spread.Goals.{After-as_slice}
use Rattle.cave_problem.proofs.block_flood.BlockFlood.spread.Goals as goal

pub loop-level-init : goal.loop-level-init
loop-level-init c = spreading_none c.args.world.now c.args.sources.now c.args.sides.now c.begin.new.local
    c.begin.new.reach.items c.as_mut_slice-near.result.now c.args.self.now.levels.items
    c.in_ok-begin.ensures.same c.in_ok-begin.ensures.reach
    (blank_ready c.args.self.now.reach.items c.args.self.now.levels.items c.requires.ready.none
    c.requires.ready.left.others)

pub grow-requires-clause-sides : goal.grow-requires-clause-sides
grow-requires-clause-sides c =
    let boxed : cell_count c.args.world.now.size ≡ length c.loop-level.local =
    omega (
      arith,
      c.requires.ready.left.wide.numbers,
      ap length c.as_mut_slice-local.ensures.value,
      c.begin.auto.local,
      c.loop-level.auto.local,
    ) in
    record {
      few = omega (arith, boxed, c.requires.ready.left.wide.small);
      inside = subst (λ (n : ℕ). AreInside n c.args.sides.now) boxed
          (sides_within c.args.world.now c.args.sides.now c.requires.sides);
      room = omega (
        arith,
        boxed,
        c.requires.ready.left.wide.sides,
        ap length c.as_mut_slice-near.ensures.value,
        c.loop-level.auto.near,
      );
    }

pub grow-requires-2-clause-sides : goal.grow-requires-2-clause-sides
grow-requires-2-clause-sides c =
    let boxed : cell_count c.args.world.now.size ≡ length c.loop-level.local =
    omega (
      arith,
      c.requires.ready.left.wide.numbers,
      ap length c.as_mut_slice-local.ensures.value,
      c.begin.auto.local,
      c.loop-level.auto.local,
    ) in
    record {
      few = omega (arith, boxed, c.requires.ready.left.wide.small);
      inside = subst (λ (n : ℕ). AreInside n c.args.sides.now) boxed
          (sides_within c.args.world.now c.args.sides.now c.requires.sides);
      room = omega (
        arith,
        boxed,
        c.requires.ready.left.wide.sides,
        ap length c.as_mut_slice-near.ensures.value,
        c.loop-level.auto.near,
      );
    }

pub widen-requires : goal.widen-requires
widen-requires c = record {
  small = omega (
    arith,
    c.len.ensures,
    reach_few c.grow.new.local c.grow.new.reach.items c.in_ok-grow.ensures.reach.found,
    c.requires.ready.left.wide.small,
    c.requires.ready.left.wide.numbers,
    ap length c.as_mut_slice-local.ensures.value,
    c.begin.auto.local,
    c.loop-level.auto.local,
    c.grow.auto.local,
  );
}

pub widen-requires-2 : goal.widen-requires-2
widen-requires-2 c = record {
  small = omega (
    arith,
    c.len-2.ensures,
    reach_few c.grow-2.new.local c.grow-2.new.reach.items c.in_ok-grow-2.ensures.reach.found,
    c.requires.ready.left.wide.small,
    c.requires.ready.left.wide.numbers,
    ap length c.as_mut_slice-local.ensures.value,
    c.begin.auto.local,
    c.loop-level.auto.local,
    c.grow-2.auto.local,
  );
}

wide : (c : After-as_slice) → AreWide (cell_count c.args.world.now.size) c.grow.new.local c.grow.new.near
wide c = record {
  small = c.requires.ready.left.wide.small;
  numbers = omega (
    arith,
    c.requires.ready.left.wide.numbers,
    ap length c.as_mut_slice-local.ensures.value,
    c.begin.auto.local,
    c.loop-level.auto.local,
    c.grow.auto.local,
  );
  sides = omega (
    arith,
    c.requires.ready.left.wide.sides,
    ap length c.as_mut_slice-near.ensures.value,
    c.loop-level.auto.near,
    c.grow.auto.near,
  );
}

-- the words have room for the reach
words : (c : After-as_slice) → AreWidened (length c.grow.new.reach.items) c.loop-level.levels.items
    c.widen.new.levels.items
words c = subst (λ (n : ℕ). AreWidened n c.loop-level.levels.items c.widen.new.levels.items)
    (sym (reach_long c)) c.in_ok-widen.ensures
  where
    reach_long : (c : After-as_slice) → length c.grow.new.reach.items ≡ c.len.result
    reach_long c = omega (arith, c.len.ensures)

count : (c : After-as_slice) → length c.loop-level.reach.items ≡ c.len-count.result
count c = omega (arith, c.len-count.ensures)

sized : (c : After-as_slice) → AreSized (length c.grow.new.reach.items) c.grow.new.near c.widen.new.levels.items
    (length c.loop-level.reach.items)
sized c = reach_sized c.args.sides.now c.grow.new.local c.grow.new.reach.items c.grow.new.near
    c.widen.new.levels.items (length c.loop-level.reach.items) (cell_count c.args.world.now.size)
    c.in_ok-grow.ensures.reach.found (wide c) c.in_ok-grow.ensures.reach.linked c.in_ok-grow.ensures.kept.longer
    (words c).long

pub settle-requires-clause-room : goal.settle-requires-clause-room
settle-requires-clause-room c =
    let after = (goal.at.settle-requires-clause-room c).After-as_slice in
    let few = reach_few c.grow.new.local c.grow.new.reach.items c.in_ok-grow.ensures.reach.found in
    let boxed = (wide after).numbers in
    subst (λ (n : ℕ). HasRoom c.args.world.now c.as_slice.result.now c.grow.new.near c.as_mut_slice.result.now
    (length c.args.sources.now) n) (count after)
    (subst (λ (l : List ℕ). HasRoom c.args.world.now l c.grow.new.near c.as_mut_slice.result.now
    (length c.args.sources.now) (length c.loop-level.reach.items)) (sym c.as_slice.ensures.value)
    (subst (λ (l : List ℕ). HasRoom c.args.world.now c.grow.new.reach.items c.grow.new.near l
    (length c.args.sources.now) (length c.loop-level.reach.items)) (sym c.as_mut_slice.ensures.value) (record {
      inside = λ k d h. omega (arith, c.in_ok-grow.ensures.reach.found.inside k d h, boxed);
      sized = sized after;
      small = omega (arith, few, boxed, c.requires.ready.left.wide.small);
      few = c.requires.sources.few;
    })))

pub loop-level-preserved : goal.loop-level-preserved
loop-level-preserved c =
    let after = (goal.at.loop-level-preserved c).After-as_slice in
    let boxed = (wide after).numbers in
    let settles : Settles c.args.world.now c.grow.new.reach.items c.grow.new.near (length c.args.sources.now)
    (length c.loop-level.reach.items) (c.loop-level.level - 1) c.widen.new.levels.items c.settle.new.levels =
    subst (λ (n : ℕ). Settles c.args.world.now c.grow.new.reach.items c.grow.new.near (length c.args.sources.now) n
    (c.loop-level.level - 1) c.widen.new.levels.items c.settle.new.levels) (sym (count after))
    (subst (λ (l : List ℕ). Settles c.args.world.now l c.grow.new.near (length c.args.sources.now) c.len-count.result
    (c.loop-level.level - 1) c.widen.new.levels.items c.settle.new.levels) c.as_slice.ensures.value
    (subst (λ (l : List ℕ). Settles c.args.world.now c.as_slice.result.now c.grow.new.near
    (length c.args.sources.now) c.len-count.result (c.loop-level.level - 1) l c.settle.new.levels)
    c.as_mut_slice.ensures.value c.settle.ensures)) in
    let up : c.loop-level.level ≡ c.loop-level.level - 1 + 1 = omega arith in
    let linked = grown_linked c.args.world.now c.args.sources.now c.args.sides.now c.loop-level.local
    c.loop-level.reach.items c.loop-level.near c.loop-level.levels.items c.loop-level.from c.loop-level.level
    c.loop-level.invariant c.requires.sides c.grow.new.local c.grow.new.reach.items c.grow.new.near
    c.in_ok-grow.ensures.reach.found boxed c.in_ok-grow.ensures.kept c.in_ok-grow.ensures.reach.linked in
    let complete = grown_complete c.args.world.now c.args.sources.now c.args.sides.now c.loop-level.local
    c.loop-level.reach.items c.loop-level.near c.loop-level.levels.items c.loop-level.from c.loop-level.level
    c.loop-level.invariant c.requires.sides c.grow.new.local c.grow.new.reach.items c.grow.new.near
    c.in_ok-grow.ensures.reach.found boxed c.in_ok-grow.ensures.kept c.in_ok-grow.ensures.reach.linked in
    let levels = grown_levels c.args.world.now c.args.sources.now c.args.sides.now c.loop-level.local
    c.loop-level.reach.items c.loop-level.near c.loop-level.levels.items c.loop-level.from c.loop-level.level
    c.loop-level.invariant c.requires.sides c.grow.new.local c.grow.new.reach.items c.grow.new.near
    c.in_ok-grow.ensures.reach.found boxed c.in_ok-grow.ensures.kept c.in_ok-grow.ensures.reach.linked in
    subst (λ (l : List ℕ). Spreading c.args.world.now c.args.sources.now c.args.sides.now c.grow.new.local
    c.grow.new.reach.items c.grow.new.near l c.len-count.result (c.loop-level.level - 1))
    (sym (take_at c.settle.new.levels (drop (length c.settle.new.levels) c.widen.new.levels.items)
    c.widen.new.levels.len (omega (arith, c.as_mut_slice.ensures.len, c.settle.auto.levels))))
    (subst (λ (n : ℕ). Spreading c.args.world.now c.args.sources.now c.args.sides.now c.grow.new.local
    c.grow.new.reach.items c.grow.new.near c.settle.new.levels n (c.loop-level.level - 1)) (count after)
    (spreading_next c.args.world.now c.args.sources.now c.args.sides.now c.loop-level.local
    c.loop-level.reach.items c.loop-level.near c.loop-level.levels.items c.loop-level.from c.loop-level.level
    c.loop-level.invariant c.requires.sides c.grow.new.local c.grow.new.reach.items c.grow.new.near
    c.in_ok-grow.ensures.reach.found boxed c.in_ok-grow.ensures.kept c.in_ok-grow.ensures.reach.linked
    c.settle.new.levels (omega arith) (settles.settled c.args.sources.now refl linked complete
    (subst (λ (n : ℕ). AreLevels c.args.world.now c.args.sources.now c.grow.new.reach.items n
    c.widen.new.levels.items) up (levels_widened c.args.world.now c.args.sources.now c.grow.new.reach.items
    c.loop-level.levels.items c.widen.new.levels.items c.loop-level.level (words after) levels)))))

pub returns : goal.returns
returns c =
    let count : length c.loop-level.reach.items ≡ c.len-count-2.result = omega (arith, c.len-count-2.ensures) in
    let long : length c.grow-2.new.reach.items ≡ c.len-2.result = omega (arith, c.len-2.ensures) in
    let boxed : length c.grow-2.new.local ≡ cell_count c.args.world.now.size =
    omega (
      arith,
      c.requires.ready.left.wide.numbers,
      ap length c.as_mut_slice-local.ensures.value,
      c.begin.auto.local,
      c.loop-level.auto.local,
      c.grow-2.auto.local,
    ) in
    let all = spread_same c.args.world.now c.args.sources.now c.grow-2.new.local c.grow-2.new.reach.items
    c.grow-2.new.near c.widen-2.new.levels.items _ _ c.len-count-2.result
    (sym (take_at c.grow-2.new.local (drop (length c.grow-2.new.local) c.args.self.now.local.items)
    c.args.self.now.local.len (omega (
      arith,
      c.as_mut_slice-local.ensures.len,
      c.begin.auto.local,
      c.loop-level.auto.local,
      c.grow-2.auto.local,
    ))))
    (sym (take_at c.grow-2.new.near (drop (length c.grow-2.new.near) c.args.self.now.near.items)
    c.args.self.now.near.len (omega (
      arith,
      c.as_mut_slice-near.ensures.len,
      c.loop-level.auto.near,
      c.grow-2.auto.near,
    ))))
    (subst (λ (n : ℕ). IsSpread c.args.world.now c.args.sources.now c.grow-2.new.local c.grow-2.new.reach.items
    c.grow-2.new.near c.widen-2.new.levels.items (cell_count c.args.world.now.size) n) count
    (spreading_all c.args.world.now c.args.sources.now c.args.sides.now c.loop-level.local
    c.loop-level.reach.items c.loop-level.near c.loop-level.levels.items c.loop-level.from c.loop-level.level
    c.loop-level.invariant c.requires.sides c.grow-2.new.local c.grow-2.new.reach.items c.grow-2.new.near
    c.in_ok-grow-2.ensures.reach.found boxed c.in_ok-grow-2.ensures.kept c.in_ok-grow-2.ensures.reach.linked
    (cell_count c.args.world.now.size) c.widen-2.new.levels.items (record {
      small = c.requires.ready.left.wide.small;
      numbers = boxed;
      sides = omega (
        arith,
        c.requires.ready.left.wide.sides,
        ap length c.as_mut_slice-near.ensures.value,
        c.loop-level.auto.near,
        c.grow-2.auto.near,
      );
    }) (subst (λ (n : ℕ). AreWidened n c.loop-level.levels.items c.widen-2.new.levels.items) (sym long)
    c.in_ok-widen-2.ensures)
    (omega (arith, c.loop-level-test.false, c.need-level-start.ensures.need, c.need-level-start.ensures.level)))) in
    record {
      left = record { wide = all.wide; found = all.found; others = all.others };
      sized = all.sized;
      linked = all.linked;
      there = all.there;
      complete = all.complete;
    }
