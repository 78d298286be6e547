-- The numbers of a run, read one by one or all at once.
use Rattle.std.proofs.Common.{◌≡◌, ℕ, zero, suc, ◌+◌, ◌*◌, ◌≤◌, ℤ, List, [], ◌∷◌, ◌++◌, length, drop, take, map, refl}
use Rattle.std.proofs.Common.{sym, ap, ◌∙◌, arith, mul-suc, mul-zero}
use Rattle.std.proofs.lemmas.List.{drop-drop, take_at, take_all, drop_at, take-append-drop, length-take, length-drop}
use Rattle.std.proofs.lemmas.List.{length-append, nil_from_length}
use Rattle.std.specs.Int.{Width, w8, cast_signed}
use Rattle.byteorder.specs.Endian.{big_number, IsReadBy}
use Rattle.byteorder.specs.Numbers.{big_from-append}
use Rattle.nbt_core.specs.LeafReading.{numbers_in}
use Rattle.nbt_core.specs.Spelling.{AreSigned}

further : (size k : ℕ) (src : List ℕ) → drop (size * k) (drop size src) ≡ drop (size * suc k) src
further size k src = drop-drop (size * k) size src ∙ ap (λ (n : ℕ). drop n src)
    (let e : size + size * k ≡ size * suc k = omega (arith, mul-suc size k) in e)

-- numbers that were read from a run are the numbers of the run
pub numbers_in-read : (width : Width) (size n : ℕ) (src : List ℕ) (dst : List ℤ) → length dst ≡ n
    → IsReadBy (λ ys. cast_signed width (big_number size ys)) size src dst → dst ≡ numbers_in width size n src
unfolding numbers_in
numbers_in-read width size zero src [] len read = refl
numbers_in-read width size zero src (z ∷ dst) len read = absurd (omega (arith, len))
numbers_in-read width size (suc n) src [] len read = absurd (omega (arith, len))
numbers_in-read width size (suc n) src (z ∷ dst) len read =
    let value : List ℕ → ℤ = λ ys. cast_signed width (big_number size ys) in
    let head : z ≡ value src = read z 0 (omega arith) ∙ ap (λ (k : ℕ). value (drop k src)) (mul-zero size) in
    let tail : dst ≡ numbers_in width size n (drop size src) =
    numbers_in-read width size n (drop size src) dst (omega (arith, len))
    (λ d k lt. read d (suc k) (omega arith) ∙ ap value (sym (further size k src))) in
    cc (head, tail)

-- the same of numbers written over a vector of as many
pub numbers_in-written : (width : Width) (size n : ℕ) (src : List ℕ) (dst old : List ℤ) (len : ℕ)
    → len ≡ length dst → length dst ≡ n
    → IsReadBy (λ ys. cast_signed width (big_number size ys)) size src dst → take len
    (dst ++ drop (length dst) old) ≡ numbers_in width size n src
numbers_in-written width size n src dst old len whole count read = take_at dst (drop (length dst) old) len (sym whole)
    ∙ numbers_in-read width size n src dst count read

one_byte : (b : ℕ) (rest : List ℕ) → big_number 1 (b ∷ rest) ≡ b
one_byte b rest = omega arith

-- numbers of one byte are the bytes
pub numbers_in-bytes : (n : ℕ) (run : List ℕ) → length run ≡ n → numbers_in w8 1 n run ≡ map (cast_signed w8) run
unfolding numbers_in
numbers_in-bytes zero [] len = refl
numbers_in-bytes zero (b ∷ run) len = absurd (omega (arith, len))
numbers_in-bytes (suc n) [] len = absurd (omega (arith, len))
numbers_in-bytes (suc n) (b ∷ run) len =
    let head : cast_signed w8 (big_number 1 (b ∷ run)) ≡ cast_signed w8 b = ap (cast_signed w8) (one_byte b run) in
    let tail : numbers_in w8 1 n run ≡ map (cast_signed w8) run = numbers_in-bytes n run (omega (arith, len)) in
    cc (head, tail)

-- the same of a loop that has come to the end of the run
pub numbers_in-each : (n : ℕ) (run : List ℕ) (items : List ℤ) (i : ℕ) → length run ≡ 1 * n → length run ≤ i
    → items ≡ map (cast_signed w8) (take i run) → items ≡ numbers_in w8 1 n run
numbers_in-each n run items i len all each = each ∙ ap (map (cast_signed w8)) (take_all i run all)
    ∙ sym (numbers_in-bytes n run (omega (arith, len)))

-- ---- the numbers of a run, and the bytes that spell them

pub length-numbers_in : (width : Width) (size n : ℕ) (run : List ℕ) → length (numbers_in width size n run) ≡ n
unfolding numbers_in
length-numbers_in width size zero run = refl
length-numbers_in width size (suc n) run = ap suc (length-numbers_in width size n (drop size run))

pub numbers_in-spelled : (width : Width) (size n : ℕ) (run : List ℕ) → length run ≡ size * n
    → AreSigned width size (numbers_in width size n run) run
unfolding numbers_in
numbers_in-spelled width size zero run len = nil_from_length run (len ∙ mul-zero size)
numbers_in-spelled width size (suc n) run len =
    let whole : length run ≡ size * n + size = len ∙ mul-suc size n in
    let first : length (take size run) ≡ size = omega (arith, length-take size run) in
    let number : big_number size (take size run) ≡ big_number size run =
    sym (big_from-append size (take size run) (drop size run) (omega arith))
    ∙ ap (big_number size) (take-append-drop size run) in
    record {
      front = take size run;
      rest = drop size run;
      parts = sym (take-append-drop size run);
      first = (first, ap (cast_signed width) number);
      second = numbers_in-spelled width size n (drop size run) (omega (arith, length-drop size run));
    }

pub length-spelled : (width : Width) (size : ℕ) (ns : List ℤ) (run : List ℕ) → AreSigned width size ns run
    → length run ≡ size * length ns
length-spelled width size [] run is = ap length is ∙ sym (mul-zero size)
length-spelled width size (n ∷ ns) run is =
    omega (
      arith,
      ap length is.parts,
      length-append is.front is.rest,
      is.first.0,
      length-spelled width size ns is.rest is.second,
      mul-suc size (length ns),
    )

pub numbers_in-again : (width : Width) (size : ℕ) (ns : List ℤ) (run : List ℕ) → AreSigned width size ns run
    → numbers_in width size (length ns) run ≡ ns
unfolding numbers_in
numbers_in-again width size [] run is = refl
numbers_in-again width size (n ∷ ns) run is =
    let first : size ≤ length is.front = omega (arith, is.first.0) in
    let head : cast_signed width (big_number size run) ≡ n =
    ap (λ (x : List ℕ). cast_signed width (big_number size x)) is.parts
    ∙ ap (cast_signed width) (big_from-append size is.front is.rest first) ∙ is.first.1 in
    let tail : numbers_in width size (length ns) (drop size run) ≡ ns =
    ap (λ (x : List ℕ). numbers_in width size (length ns) x)
    (ap (drop size) is.parts ∙ drop_at is.front is.rest size is.first.0)
    ∙ numbers_in-again width size ns is.rest is.second in
    cc (head, tail)
