use Rattle.std.proofs.Common.{◌≡◌, ◌⊎◌, ℕ, List, inl, inr, map, refl, subst}
use Rattle.std.proofs.KnownBytes.{Keeps-refl}
use Rattle.std.specs.Prelude.{string_bytes}
use Rattle.clap.specs.Words.{Text, kind_of}
use Rattle.clap.specs.declared.error.kind.ErrorKind.{ErrorKind}
use Rattle.clap.specs.declared.error.kind.ErrorKind.TheVariants.{OutOfMemory}
use Rattle.command_words.specs.Mistakes.{AreExplainedBy}
use Rattle.run_system.specs.Status.{IsRefused}
use Rattle.torch_plan.specs.Usage.{IsExplained, explained_status}
use Rattle.torch_plan.proofs.StatusLemmas.{check_silent, text_silent, plan_silent}
use Rattle.torch_plan.proofs.answering.answer.Goals as goal

-- the status of words that were explained
is_explained : (words : List Text) (kind : ErrorKind) (code : ℕ) → (kind ≡ OutOfMemory → code ≡ 7)
    → (code ≡ 7) ⊎ (code ≡ 6) ⊎ (code ≡ explained_status kind)
    → (kind ≡ OutOfMemory) ⊎ AreExplainedBy words kind → IsExplained words code
is_explained words kind code memory told (inl refused) = inl (memory refused)
is_explained words kind code memory (inl seven) (inr why) = inl seven
is_explained words kind code memory (inr (inl six)) (inr why) = inr (kind, why, inr six)
is_explained words kind code memory (inr (inr usual)) (inr why) = inr (kind, why, inl usual)

pub returns-in-Err-clause-does : goal.returns-in-Err-clause-does
returns-in-Err-clause-does g c = inr (
  Keeps-refl (g.W.Write.contents c.args.output.now),
  is_explained (map (λ word. string_bytes word) c.args.words.now) (kind_of c.in-Err.error) c.explained.result
      c.explained.ensures.memory c.explained.ensures.status c.in-Err.ensures.refused,
)

pub returns-in-Dark-clause-does : goal.returns-in-Dark-clause-does
returns-in-Dark-clause-does g c = inl (
  c.in-Ok.ensures.formed,
  c.in-Ok.request,
  c.in-Ok.ensures.asked,
  rw c.in-Dark.is (c.answer_dark-ended.result, c.status_of_text.ensures, c.answer_dark-ended.ensures),
)

pub returns-in-Dark-clause-silent : goal.returns-in-Dark-clause-silent
returns-in-Dark-clause-silent g c = λ refused. text_silent (g.W.Write.contents c.args.output.now)
    (g.W.Write.contents c.answer_dark-ended.new.output) c.answer_dark-ended.result c.answer_dark-ended.ensures.left
    (subst IsRefused c.status_of_text.ensures refused)

pub returns-then-is_overwriting-clause-does : goal.returns-then-is_overwriting-clause-does
returns-then-is_overwriting-clause-does g c = inl (
  c.in-Ok.ensures.formed,
  c.in-Ok.request,
  c.in-Ok.ensures.asked,
  rw c.in-Plan.is (inl (
    c.is_overwriting.ensures.over c.if-is_overwriting.true,
    refl,
    Keeps-refl (g.W.Write.contents c.args.output.now),
  )),
)

pub returns-else-is_overwriting-clause-does : goal.returns-else-is_overwriting-clause-does
returns-else-is_overwriting-clause-does g c = inl (
  c.in-Ok.ensures.formed,
  c.in-Ok.request,
  c.in-Ok.ensures.asked,
  rw c.in-Plan.is (inr (
    c.is_overwriting.ensures.apart c.if-is_overwriting.false,
    (c.answer_plan-ended.result.0, c.status_of_plan.ensures, c.answer_plan-ended.ensures),
  )),
)

pub returns-else-is_overwriting-clause-silent : goal.returns-else-is_overwriting-clause-silent
returns-else-is_overwriting-clause-silent g c = λ refused. plan_silent (g.W.Write.contents c.args.output.now)
    (g.W.Write.contents c.answer_plan-ended.new.output) c.answer_plan-ended.result.0 c.answer_plan-ended.ensures.left
    (subst IsRefused c.status_of_plan.ensures refused)

pub returns-in-Check-clause-does : goal.returns-in-Check-clause-does
returns-in-Check-clause-does g c = inl (
  c.in-Ok.ensures.formed,
  c.in-Ok.request,
  c.in-Ok.ensures.asked,
  rw c.in-Check.is (c.answer_check-ended.result, c.status_of_check.ensures, c.answer_check-ended.ensures),
)

pub returns-in-Check-clause-silent : goal.returns-in-Check-clause-silent
returns-in-Check-clause-silent g c = λ refused. check_silent (g.W.Write.contents c.args.output.now)
    (g.W.Write.contents c.answer_check-ended.new.output) c.answer_check-ended.result c.answer_check-ended.ensures.left
    (subst IsRefused c.status_of_check.ensures refused)

pub returns-in-Levels-clause-does : goal.returns-in-Levels-clause-does
returns-in-Levels-clause-does g c = inl (
  c.in-Ok.ensures.formed,
  c.in-Ok.request,
  c.in-Ok.ensures.asked,
  rw c.in-Levels.is (c.answer_levels-ended.result, c.status_of_text-in-Levels.ensures, c.answer_levels-ended.ensures),
)

pub returns-in-Levels-clause-silent : goal.returns-in-Levels-clause-silent
returns-in-Levels-clause-silent g c = λ refused. text_silent (g.W.Write.contents c.args.output.now)
    (g.W.Write.contents c.answer_levels-ended.new.output) c.answer_levels-ended.result
    c.answer_levels-ended.ensures.left (subst IsRefused c.status_of_text-in-Levels.ensures refused)

pub returns-in-Rows-clause-does : goal.returns-in-Rows-clause-does
returns-in-Rows-clause-does g c = inl (
  c.in-Ok.ensures.formed,
  c.in-Ok.request,
  c.in-Ok.ensures.asked,
  rw c.in-Rows.is (c.answer_rows-ended.result, c.status_of_text-in-Rows.ensures, c.answer_rows-ended.ensures),
)

pub returns-in-Rows-clause-silent : goal.returns-in-Rows-clause-silent
returns-in-Rows-clause-silent g c = λ refused. text_silent (g.W.Write.contents c.args.output.now)
    (g.W.Write.contents c.answer_rows-ended.new.output) c.answer_rows-ended.result
    c.answer_rows-ended.ensures.left (subst IsRefused c.status_of_text-in-Rows.ensures refused)
