use Rattle.std.proofs.Common.{sym, ◌∙◌}
use Rattle.cave_plan.proofs.laws.one_text_a_certificate.Goals as goal

pub returns : goal.returns
returns c = λ certificate one other is_one is_other. is_one.text ∙ sym is_other.text
