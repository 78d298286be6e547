use Rattle.std.proofs.Common.{replicate, ◌≡◌, ◌∙◌, ap, slice_index, arith, inl, inr, List, ℕ, rules}
use Rattle.std.proofs.lemmas.Bool.{cases_lt}
use Rattle.std.proofs.lemmas.List.{get_or_past, get_or-replicate}
use Rattle.set_cover.proofs.BitLemmas.{row_none}
use Rattle.set_cover.proofs.change.empty.Goals as goal

pub returns-clause-none : goal.returns-clause-none
returns-clause-none c =
    let zeros : c.in_ok-row.row.items ≡ replicate c.args.words 0 = search rules in
    row_none c.in_ok-row.row.items (λ k. elim (cases_lt k c.args.words) [
      | inl lt ↦ ap (λ (l : List ℕ). slice_index l k) zeros ∙ get_or-replicate c.args.words k 0 0 lt
      | inr past ↦ get_or_past c.in_ok-row.row.items k 0 (omega (arith, c.in_ok-row.ensures.len))
    ])
