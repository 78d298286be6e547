use Rattle.std.proofs.Common.{refl, arith}
use Rattle.std.proofs.lemmas.Bool.{false≢true}
use Rattle.set_cover.proofs.WordLemmas.{apart_none, apart_more, apart_all, meet_here}
use Rattle.set_cover.proofs.look.share_bits.Goals as goal

pub loop-index-init : goal.loop-index-init
loop-index-init c = apart_none c.args.one.now c.args.two.now

pub loop-index-preserved : goal.loop-index-preserved
loop-index-preserved c = apart_more c.args.one.now c.args.two.now c.loop-index.index
    (omega (arith, c.if-one-index-ne0.false)) c.loop-index.invariant

pub returns-then-one-index-ne0 : goal.returns-then-one-index-ne0
returns-then-one-index-ne0 c = (
  λ t. meet_here c.args.one.now c.args.two.now c.loop-index.index (c.type_inv.one c.loop-index.index).fits
      (omega (arith, c.if-one-index-ne0.true)),
  λ m. refl,
)

pub returns : goal.returns
returns c = (
  λ t. absurd (false≢true t),
  λ m. absurd (apart_all c.args.one.now c.args.two.now c.loop-index.index (omega arith)
      c.loop-index.invariant m.0 m.1 m.2),
)
