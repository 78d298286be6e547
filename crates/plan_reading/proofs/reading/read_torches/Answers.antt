use Rattle.std.proofs.Common.{Vec, Global, Err, refl}
use Rattle.plan_reading.specs.declared.fault.TorchesFault.TheVariants as faults
use Rattle.plan_reading.specs.declared.torch.ToldTorch.{ToldTorch}
use Rattle.plan_reading.proofs.ReadLemmas.{answers_fault, answers_told}
use Rattle.plan_reading.proofs.reading.read_torches.Goals as goal

pub returns-in-Ok-clause-only : goal.returns-in-Ok-clause-only
returns-in-Ok-clause-only c = answers_told (λ (v : Vec ToldTorch Global). v.items) c.args.text.now
    c.take_torches.result c.take_torches.ensures.found c.take_torches.ensures.fault

pub returns-in-Ok-clause-refused : goal.returns-in-Ok-clause-refused
returns-in-Ok-clause-refused c = answers_fault (λ (v : Vec ToldTorch Global). v.items) c.args.text.now
    c.take_torches.result c.take_torches.ensures.found c.take_torches.ensures.fault

pub returns-in-Err-clause-only : goal.returns-in-Err-clause-only
returns-in-Err-clause-only c = answers_told (λ (v : Vec ToldTorch Global). v.items) c.args.text.now
    (Err (faults.Syntax c.in-Err.line)) tt (λ other. (c.in-Err.line, c.in-Err.ensures, refl))

pub returns-in-Err-clause-refused : goal.returns-in-Err-clause-refused
returns-in-Err-clause-refused c = answers_fault (λ (v : Vec ToldTorch Global). v.items) c.args.text.now
    (Err (faults.Syntax c.in-Err.line)) tt (λ other. (c.in-Err.line, c.in-Err.ensures, refl))
