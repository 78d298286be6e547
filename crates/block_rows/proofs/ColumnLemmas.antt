-- The columns of a row, entry by entry of its table.
use Rattle.std.proofs.Common.{◌≡◌, ℕ, Bool, ◌&&◌, ◌||◌, List, [], ◌∷◌, ◌++◌, append_assoc, map, Option, Some, None}
use Rattle.std.proofs.Common.{option_map, bytes_eq, string_bytes, Bor, refl, sym, ap, ◌∙◌}
use Rattle.std.specs.Prelude.{option_and_then}
use Rattle.std.specs.List.{list_any}
use Rattle.toml.specs.View.{view, members_view}
use Rattle.toml.specs.Data.{as_str}
use Rattle.toml.proofs.Views.{Entry}
use Rattle.block_rows.specs.Columns.{has_only, texts_of}

-- a test of borrowed texts is a test of the texts
list_any-map : (test : List ℕ → Bool) (xs : List (Bor (List ℕ)))
    → list_any test (map (λ x. x.now) xs) ≡ list_any (λ x. test x.now) xs
list_any-map test [] = refl
list_any-map test (x ∷ xs) = ap (λ (b : Bool). test x.now || b) (list_any-map test xs)

-- one entry
pub has_only-cons : (keys : List (Bor (List ℕ))) (e : Entry) (es entries : List Entry) (known : Bool) → entries ≡ e ∷ es
    → known ≡ list_any (λ key. bytes_eq (string_bytes e.0) key.now) keys
    → has_only (map (λ key. key.now) keys)
    (members_view entries) ≡ (known && has_only (map (λ key. key.now) keys) (members_view es))
has_only-cons keys e es entries known is told =
    ap (λ (xs : List Entry). has_only (map (λ key. key.now) keys) (members_view xs)) is
    ∙ ap (λ (b : Bool). b && has_only (map (λ key. key.now) keys) (members_view es))
    (list_any-map (bytes_eq (string_bytes e.0)) keys ∙ sym told)

-- what was read, with one more and the others, is what was read and one more, with the others
maps : (done : List (List ℕ × List ℕ)) (asked : List ℕ × List ℕ) (others : Option (List (List ℕ × List ℕ)))
    → option_map (λ others. done ++ others) (option_map (λ others. asked ∷ others) others) ≡ option_map
    (λ others. (done ++ asked ∷ []) ++ others) others
maps done asked None = refl
maps done asked (Some others) = ap (λ (xs : List (List ℕ × List ℕ)). Some xs)
    (sym (append_assoc done (asked ∷ []) others))

-- one text more
pub texts_more : (e : Entry) (es entries : List Entry) (done : List (List ℕ × List ℕ)) (text : List ℕ)
    (all : Option (List (List ℕ × List ℕ))) → entries ≡ e ∷ es → as_str (view e.1) ≡ Some text
    → all ≡ option_map (λ others. done ++ others) (texts_of (members_view entries))
    → all ≡ option_map (λ others. (done ++ (string_bytes e.0, text) ∷ []) ++ others) (texts_of (members_view es))
texts_more e es entries done text all is said before =
    before
    ∙ ap (λ (xs : List Entry). option_map (λ others. done ++ others) (texts_of (members_view xs))) is
    ∙ ap (λ (o : Option (List ℕ)). option_map (λ others. done ++ others)
    (option_and_then (λ value. option_map (λ others. (string_bytes e.0, value) ∷ others)
    (texts_of (members_view es))) o)) said
    ∙ maps done (string_bytes e.0, text) (texts_of (members_view es))
