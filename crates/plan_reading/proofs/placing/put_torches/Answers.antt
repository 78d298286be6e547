use Rattle.std.proofs.Common.{List, [], subst, sym, take}
use Rattle.std.proofs.lemmas.List.{take_more}
use Rattle.plan_reading.specs.Placed.{torch_at}
use Rattle.plan_reading.specs.Putting.{ArePut}
use Rattle.plan_reading.specs.declared.torch.ToldTorch.{ToldTorch}
use Rattle.plan_reading.proofs.PutLemmas.{first_illegal, put_length, puts_more}
use Rattle.plan_reading.proofs.placing.put_torches.Goals as goal

pub put_torch-requires : goal.put_torch-requires
put_torch-requires c = put_length c.args.world.now (take c.loop-torch.torch-index c.args.torches.now)
    c.loop-torch.classes.items c.requires.sound c.loop-torch.invariant

pub returns-then-not-put_torch : goal.returns-then-not-put_torch
returns-then-not-put_torch c = first_illegal c.args.world.now c.args.torches.now c.loop-torch.torch-index
    c.loop-torch.classes.items c.loop-torch-test.true c.loop-torch.invariant c.if-not-put_torch.ensures

pub loop-torch-preserved : goal.loop-torch-preserved
loop-torch-preserved c = subst (λ (ts : List ToldTorch). ArePut c.args.world.now ts c.put_torch.new.classes.items)
    (sym (take_more c.args.torches.now c.loop-torch.torch-index (torch_at [] 0) c.loop-torch-test.true))
    (puts_more c.args.world.now (take c.loop-torch.torch-index c.args.torches.now)
    (torch_at c.args.torches.now c.loop-torch.torch-index) c.loop-torch.classes.items c.put_torch.new.classes.items
    c.loop-torch.invariant c.if-not-put_torch.ensures)
