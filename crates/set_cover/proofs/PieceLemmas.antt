-- Rows of one length, one after another.
use Rattle.std.proofs.Common.{◌≡◌, ℕ, zero, suc, ◌+◌, ◌-◌, ◌*◌, ◌<◌, List, [], ◌∷◌, ◌++◌, length, take, drop, All}
use Rattle.std.proofs.Common.{slice_index_or, sym, ap, subst, ◌∙◌, arith, take_at}
use Rattle.std.specs.Prelude.{slice_range}
use Rattle.std.proofs.Math.Seq.{drop-append-add}
use Rattle.std.proofs.lemmas.List.{length-append, get_or_default, same_lists}
use Rattle.std.proofs.lemmas.List.Elements.{All-head, All-tail}
use Rattle.set_cover.specs.Rows.{words_of}

-- the row with this index
pub piece_at : (width : ℕ) (rows : List (List ℕ)) (i : ℕ) → All (λ row. length row ≡ width) rows → i < length rows
    → slice_range (words_of rows) (i * width) (i * width + width) ≡ slice_index_or rows i []
piece_at width [] i each lt = absurd (omega arith)
piece_at width (row ∷ rows) zero each lt =
    let size : 0 * width + width - 0 * width ≡ width = omega arith in
    let start : 0 * width ≡ 0 = omega arith in
    ap (λ (n : ℕ). take n (drop (0 * width) (row ++ words_of rows))) size
    ∙ ap (λ (n : ℕ). take width (drop n (row ++ words_of rows))) start
    ∙ take_at row (words_of rows) width (All-head (λ row. length row ≡ width) row rows each)
piece_at width (row ∷ rows) (suc i) each lt =
    let long = All-head (λ row. length row ≡ width) row rows each in
    let sizes : suc i * width + width - suc i * width ≡ i * width + width - i * width = omega arith in
    let behind : drop (width + i * width) (row ++ words_of rows) ≡ drop (i * width) (words_of rows)
    = subst (λ (w : ℕ). drop (w + i * width) (row ++ words_of rows) ≡ drop (i * width) (words_of rows)) long
    (drop-append-add row (words_of rows) (i * width)) in
    let start : suc i * width ≡ width + i * width = omega arith in
    ap (λ (n : ℕ). take n (drop (suc i * width) (row ++ words_of rows))) sizes
    ∙ ap (λ (n : ℕ). take (i * width + width - i * width) (drop n (row ++ words_of rows))) start
    ∙ ap (take (i * width + width - i * width)) behind
    ∙ piece_at width rows i (All-tail (λ row. length row ≡ width) row rows each) (omega arith)

-- how many words rows of one length have together
pub pieces_long : (width : ℕ) (rows : List (List ℕ)) → All (λ row. length row ≡ width) rows
    → length (words_of rows) ≡ length rows * width
pieces_long width [] each = omega arith
pieces_long width (row ∷ rows) each =
    let long = All-head (λ row. length row ≡ width) row rows each in
    let rest = pieces_long width rows (All-tail (λ row. length row ≡ width) row rows each) in
    omega (arith, length-append row (words_of rows), long, rest)

-- equal words are those of equal rows
pub pieces_same : (width : ℕ) (rows others : List (List ℕ)) → length rows ≡ length others
    → All (λ row. length row ≡ width) rows → All (λ row. length row ≡ width) others
    → words_of rows ≡ words_of others → rows ≡ others
pieces_same width rows others long each every same = same_lists rows others long (λ k d lt.
    get_or_default rows k d [] lt ∙ sym (piece_at width rows k each lt)
    ∙ ap (λ (words : List ℕ). slice_range words (k * width) (k * width + width)) same
    ∙ piece_at width others k every (omega (arith, long, lt))
    ∙ get_or_default others k [] d (omega (arith, long, lt)))
