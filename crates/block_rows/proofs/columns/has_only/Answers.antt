use Rattle.std.proofs.Common.{◌≡◌, ℕ, List, ◌∷◌, ◌&&◌, Bool, map, bytes_eq, sym, ap, ◌∙◌, arith}
use Rattle.std.specs.List.{list_any}
use Rattle.std.proofs.lemmas.Grind.{common_steps}
use Rattle.toml.specs.View.{members_view}
use Rattle.toml.proofs.Views.{Entry}
use Rattle.block_rows.specs.Columns as columns
use Rattle.block_rows.proofs.ColumnLemmas.{has_only-cons}
use Rattle.block_rows.proofs.columns.has_only.Goals as goal

pub returns-then-not-is_one_of : goal.returns-then-not-is_one_of
returns-then-not-is_one_of c =
    let e : Entry = (c.in-Some.key.now, c.in-Some._value.now) in
    let keys = c.args.keys.now in
    let rest = c.next.new.self in
    let is : c.loop-key.key-iterator ≡ e ∷ rest = grind (arith, common_steps) in
    let told = c.is_one_of.ensures ∙ ap (λ (k : List ℕ). list_any (λ known. bytes_eq k known.now) keys)
    c.as_str.ensures.value in
    let step = has_only-cons keys e rest c.loop-key.key-iterator c.is_one_of.result is told in
    sym (step ∙ ap (λ (b : Bool). b && columns.has_only (map (λ key. key.now) keys) (members_view rest))
    c.if-not-is_one_of.true) ∙ c.loop-key.invariant

pub loop-key-preserved : goal.loop-key-preserved
loop-key-preserved c =
    let e : Entry = (c.in-Some.key.now, c.in-Some._value.now) in
    let keys = c.args.keys.now in
    let rest = c.next.new.self in
    let is : c.loop-key.key-iterator ≡ e ∷ rest = grind (arith, common_steps) in
    let told = c.is_one_of.ensures ∙ ap (λ (k : List ℕ). list_any (λ known. bytes_eq k known.now) keys)
    c.as_str.ensures.value in
    let step = has_only-cons keys e rest c.loop-key.key-iterator c.is_one_of.result is told in
    sym (step ∙ ap (λ (b : Bool). b && columns.has_only (map (λ key. key.now) keys) (members_view rest))
    c.if-not-is_one_of.false) ∙ c.loop-key.invariant
