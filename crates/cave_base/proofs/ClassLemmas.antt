-- When a class is sound.
use Rattle.std.proofs.Common.{◌≡◌, ◌≤◌, Bool, true, false, not, ◌||◌, nat_eq, IsTrue, refl}
use Rattle.std.proofs.lemmas.Bool.{eqb-true}
use Rattle.cave_base.specs.declared.class.Class.{Class}
use Rattle.cave_base.specs.Class.{IsSoundClass, gives_way_as_air}
use Rattle.cave_base.proofs.CellLemmas.{both_true}

-- what follows from what holds, holds
then_true : (a b : Bool) → (not a || b) ≡ true → IsTrue a → b ≡ true
then_true true b e h = e
then_true false b e h = absurd (cc)

-- what isn't so is false
not_true : (a : Bool) → not a ≡ true → a ≡ false
not_true true e = absurd (cc)
not_true false e = refl

-- as air
record IsAsAir (class : Class) : Type 0 where
  clear : class.opacity ≡ 0
  unlit : class.emission ≡ 0
  roomy : class.free ≡ true
  no_ground : class.stand ≡ false
  no_top : class.top ≡ false
  no_side : class.side ≡ false

-- a class that gives way to torches is as air
as_air : (class : Class) → gives_way_as_air class ≡ true → IsTrue class.put → IsAsAir class
as_air class e put =
    let all = then_true class.put _ e put in
    let a = both_true _ (not class.side) all in
    let b = both_true _ (not class.top) a.0 in
    let c = both_true _ (not class.stand) b.0 in
    let d = both_true _ class.free c.0 in
    let f = both_true (nat_eq class.opacity 0) (nat_eq class.emission 0) d.0 in
    record {
      clear = eqb-true class.opacity 0 f.0;
      unlit = eqb-true class.emission 0 f.1;
      roomy = d.1;
      no_ground = not_true class.stand c.1;
      no_top = not_true class.top b.1;
      no_side = not_true class.side a.1;
    }

-- levels of at most 15, and giving way as air alone, make a class sound
pub sound_class : (class : Class) → class.opacity ≤ 15 → class.emission ≤ 15 → gives_way_as_air class ≡ true
    → IsSoundClass class
sound_class class thin faint e = record {
  thin = thin;
  faint = faint;
  clear = λ put. (as_air class e put).clear;
  unlit = λ put. (as_air class e put).unlit;
  roomy = λ put. (as_air class e put).roomy;
  no_ground = λ put. (as_air class e put).no_ground;
  no_top = λ put. (as_air class e put).no_top;
  no_side = λ put. (as_air class e put).no_side;
}
