use Rattle.std.proofs.Common.{◌≡◌, ◌<◌, ◌≤◌, ◌+◌, ◌-◌, ℕ, List, length, take, drop, slice_index, rules, sym, ap, ◌∙◌}
use Rattle.std.proofs.Common.{arith}
use Rattle.std.proofs.lemmas.Grind.{get_or_default_zero}
use Rattle.cave_model.proofs.PassageLemmas.{part_there, part_past}
use Rattle.lit_lists.specs.Lists.{row_at}
use Rattle.lit_lists.proofs.cell_lists.CellLists.row.Goals as goal

pub returns-then-row-len : goal.returns-then-row-len
returns-then-row-len c =
    let starts = c.self.inside.starts.items in
    let numbers = c.self.inside.numbers.items in
    let more : c.args.cell + 1 < length starts = search rules in
    let there = part_there starts numbers c.args.cell more in
    let from : c.index.result.now ≡ slice_index starts c.args.cell = c.index.ensures
    ∙ get_or_default_zero starts c.args.cell c.index.result.now (omega arith) in
    let to : c.index-then-row-len.result.now ≡ slice_index starts (c.args.cell + 1) =
    c.index-then-row-len.ensures
    ∙ get_or_default_zero starts (c.args.cell + 1) c.index-then-row-len.result.now more in
    ap (λ (n : ℕ). take (n - c.index.result.now) (drop c.index.result.now c.deref.result.now)) to
    ∙ ap (λ (n : ℕ). take (slice_index starts (c.args.cell + 1) - n) (drop n c.deref.result.now)) from
    ∙ ap (λ (l : List ℕ). take (slice_index starts (c.args.cell + 1) - slice_index starts c.args.cell)
    (drop (slice_index starts c.args.cell) l)) c.deref.ensures.value
    ∙ sym there ∙ ap (λ (rows : List (List ℕ)). row_at rows c.args.cell) c.self.view_is

pub returns-else-row-len : goal.returns-else-row-len
returns-else-row-len c =
    let past : length c.self.inside.starts.items ≤ c.args.cell + 1 = search rules in
    sym (part_past c.self.inside.starts.items c.self.inside.numbers.items c.args.cell past)
    ∙ ap (λ (rows : List (List ℕ)). row_at rows c.args.cell) c.self.view_is
