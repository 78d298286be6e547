use Rattle.std.proofs.Common.{◌≡◌, ℕ, List, [], ◌∷◌, ◌++◌, Some, option_map, option_copied, string_bytes, sym, ap}
use Rattle.std.proofs.Common.{◌∙◌, arith}
use Rattle.std.proofs.lemmas.Grind.{common_steps}
use Rattle.toml.specs.Data.{as_str}
use Rattle.toml.specs.View.{view, members_view}
use Rattle.toml.proofs.Views.{Entry}
use Rattle.block_rows.specs.Columns.{texts_of}
use Rattle.block_rows.proofs.ColumnLemmas.{texts_more}
use Rattle.block_rows.proofs.user.texts.Goals as goal

pub loop-property-preserved : goal.loop-property-preserved
loop-property-preserved c =
    let e : Entry = (c.in-Some.property.now, c.in-Some.value.now) in
    let rest = c.next.new.self in
    let done = c.loop-property.texts.items in
    let text = c.in-Some-as_str.text.now in
    let is : c.loop-property.property-iterator ≡ e ∷ rest = grind (arith, common_steps) in
    let said : as_str (view e.1) ≡ Some text = sym c.as_str.ensures ∙ ap option_copied c.in-Some-as_str.is in
    let first = c.in_ok-bytes_of-in-Some-as_str.ensures ∙ c.as_str-in-Some-as_str.ensures.value in
    let second = c.in_ok-bytes_of-in-Some-as_str-2.ensures in
    let items : c.push.new.self.items ≡ done ++ (string_bytes e.0, text) ∷ [] =
    c.in_ok-push-in-Some-as_str.ensures.items
    ∙ ap (λ (k : List ℕ). done ++ (k, c.in_ok-bytes_of-in-Some-as_str-2.field-0) ∷ []) first
    ∙ ap (λ (v : List ℕ). done ++ (string_bytes e.0, v) ∷ []) second in
    texts_more e rest c.loop-property.property-iterator done text (texts_of (members_view c.args.asked.now.entries)) is
    said c.loop-property.invariant
    ∙ ap (λ (all : List (List ℕ × List ℕ)). option_map (λ others. all ++ others) (texts_of (members_view rest)))
    (sym items)
