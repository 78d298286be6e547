use Rattle.std.proofs.Common.{◌≡◌, ℕ, List, Option, Some, None, Vec, Global, refl, map, subst}
use Rattle.std.specs.Prelude.{option_map, string_bytes}
use Rattle.cave_runs.specs.Streams.{stream}
use Rattle.torch_plan.specs.Answers.{Answers}
use Rattle.torch_plan.specs.Kept.{held_by}
use Rattle.torch_plan.specs.Memory.{sources_of}
use Rattle.torch_plan.proofs.MemoryLemmas.{answered_in_memory}
use Rattle.torch_plan.proofs.memory.answer_in_memory.Goals as goal

-- a file in memory holds its bytes
held_as : (file : Option (Vec ℕ Global)) → held_by (λ v. Some v.items) file ≡ option_map (λ v. v.items) file
held_as None = refl
held_as (Some v) = refl

pub returns-clause-does : goal.returns-clause-does
returns-clause-does g c =
    let run = c.answer-status in let known = sources_of c.args.files.now c.args.input.now in
    let words = map (λ word. string_bytes word) c.args.words.now in
    answered_in_memory c.args.files.now c.args.input.now words run.result.0 run.new.output.items
    (option_map (λ v. v.items) run.result.1)
    (subst (λ (old : List ℕ). Answers known words (stream (Some old) (Some run.new.output.items))
    (option_map (λ v. v.items) run.result.1) run.result.0) c.new-output.ensures.items
    (subst (λ (kept : Option (List ℕ)). Answers known words
    (stream (Some c.new-output.result.items) (Some run.new.output.items)) kept run.result.0) (held_as run.result.1)
    run.ensures.does))
