use Rattle.std.proofs.Common.{arith}
use Rattle.light_flood.proofs.SpreadLemmas.{raised_flood}
use Rattle.light_flood.proofs.spreading.Flood.seed.Goals as goal

pub returns-in_ok-push-clause-flood : goal.returns-in_ok-push-clause-flood
returns-in_ok-push-clause-flood g c = record {
  whole = omega (arith, c.requires.flood.whole, c.in_ok-raise.ensures.cells);
  flood = raised_flood c.args.world.now (g.S.Store.levels c.args.self.now.store)
      (g.S.Store.levels c.raise.new.self) c.args.self.now.waiting c.push.new.self 16 16 c.args.cell c.args.emission
      c.requires.unlit.inside c.requires.flood.flood (omega (arith, c.requires.unlit.most)) c.requires.unlit.most
      (omega (arith, c.requires.unlit.unlit)) c.in_ok-raise.ensures.raised c.in_ok-push.ensures;
}
