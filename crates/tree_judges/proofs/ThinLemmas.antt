-- The rows of some places make a region.
use Rattle.std.proofs.Common.{◌≡◌, ℕ, zero, suc, ◌+◌, ◌-◌, ◌*◌, ◌<◌, ◌≤◌, List, [], ◌∷◌, ◌++◌, length, take, drop}
use Rattle.std.proofs.Common.{map, slice_index, All, refl, sym, ap, subst, ◌∙◌, arith, take_at}
use Rattle.std.specs.Prelude.{slice_range, flat_map}
use Rattle.std.specs.List.Sorted.{IsStrictlyIncreasing}
use Rattle.std.proofs.Math.Nat.{mul-le-mul_left}
use Rattle.std.proofs.Math.Seq.{drop-append-add}
use Rattle.std.proofs.lemmas.List.{length-append, length-drop, length-map, length-take-le, get_or-map}
use Rattle.std.proofs.lemmas.List.Elements.{All-head, All-tail, All-from_get_or}
use Rattle.set_cover.specs.Bits.{Has}
use Rattle.set_cover.specs.Instance.{Instance, IsInstance, LightsAt, row_of}
use Rattle.set_cover.specs.Rows.{AreRows, words_of}
use Rattle.set_cover.proofs.OrderLemmas.{element_at, element_of, rises}
use Rattle.instance_regions.specs.Region.{IsRegion}
use Rattle.pack_bound.specs.Indices.{IsCoverAt}
use Rattle.tree_judges.specs.Thinning.{thinned}

-- of lists of one length, one after another, the one with this index
pub piece_at : (f : ℕ → List ℕ) (width : ℕ) (xs : List ℕ) (i : ℕ) → All (λ x. length (f x) ≡ width) xs → i < length xs
    → slice_range (flat_map f xs) (i * width) (i * width + width) ≡ f (slice_index xs i)
piece_at f width [] i each lt = absurd (omega arith)
piece_at f width (x ∷ xs) zero each lt =
    let size : 0 * width + width - 0 * width ≡ width = omega arith in
    let start : 0 * width ≡ 0 = omega arith in
    ap (λ (n : ℕ). take n (drop (0 * width) (f x ++ flat_map f xs))) size
    ∙ ap (λ (n : ℕ). take width (drop n (f x ++ flat_map f xs))) start
    ∙ take_at (f x) (flat_map f xs) width (All-head (λ x. length (f x) ≡ width) x xs each)
piece_at f width (x ∷ xs) (suc i) each lt =
    let long = All-head (λ x. length (f x) ≡ width) x xs each in
    let sizes : suc i * width + width - suc i * width ≡ i * width + width - i * width = omega arith in
    let behind : drop (width + i * width) (f x ++ flat_map f xs) ≡ drop (i * width) (flat_map f xs)
    = subst (λ (w : ℕ). drop (w + i * width) (f x ++ flat_map f xs) ≡ drop (i * width) (flat_map f xs)) long
    (drop-append-add (f x) (flat_map f xs) (i * width)) in
    let start : suc i * width ≡ width + i * width = omega arith in
    ap (λ (n : ℕ). take n (drop (suc i * width) (f x ++ flat_map f xs))) sizes
    ∙ ap (λ (n : ℕ). take (i * width + width - i * width) (drop n (f x ++ flat_map f xs))) start
    ∙ ap (take (i * width + width - i * width)) behind
    ∙ piece_at f width xs i (All-tail (λ x. length (f x) ≡ width) x xs each) (omega arith)

-- the words of these lists, one after another
pub words_map : (f : ℕ → List ℕ) (xs : List ℕ) → words_of (map f xs) ≡ flat_map f xs
words_map f [] = refl
words_map f (x ∷ xs) = ap (λ (l : List ℕ). f x ++ l) (words_map f xs)

-- how long lists of one length are together
pub pieces_long : (f : ℕ → List ℕ) (width : ℕ) (xs : List ℕ) → All (λ x. length (f x) ≡ width) xs
    → length (flat_map f xs) ≡ length xs * width
pieces_long f width [] each = omega arith
pieces_long f width (x ∷ xs) each =
    let long = All-head (λ x. length (f x) ≡ width) x xs each in
    let rest = pieces_long f width xs (All-tail (λ x. length (f x) ≡ width) x xs each) in
    omega (arith, length-append (f x) (flat_map f xs), long, rest)

-- a row is as long as the region says
pub row_long : (region : Instance) (place : ℕ) → IsInstance region → place < length region.places
    → length (row_of region place) ≡ region.width
row_long region place is lt =
    let start = place * region.width in
    let room : region.width * (place + 1) ≤ region.width * length region.places =
    mul-le-mul_left region.width (omega arith) in
    let left : region.width ≤ length (drop start region.words) =
    omega (arith, length-drop start region.words, is.whole, room) in
    let size : start + region.width - start ≡ region.width = omega arith in
    ap (λ (n : ℕ). length (take n (drop start region.words))) size
    ∙ length-take-le region.width (drop start region.words) left

-- an instance of these parts
abbrev pub instance_of : List ℕ → List ℕ → ℕ → List ℕ → Instance
instance_of cells places width words = record { cells = cells; places = places; width = width; words = words }

-- equal parts make equal instances
pub made_of : (cells cells' places places' : List ℕ) (width width' : ℕ) (words words' : List ℕ)
    → cells ≡ cells' → places ≡ places' → width ≡ width' → words ≡ words'
    → instance_of cells places width words ≡ instance_of cells' places' width' words'
made_of cells cells' places places' width width' words words' a b c d = cc (a, b, c, d)

module _ (region : Instance) (kept : List ℕ) (is : IsRegion region) (up : IsStrictlyIncreasing kept)
    (cover : IsCoverAt region kept) where
  inside : (k : ℕ) → k < length kept → slice_index kept k < length region.places
  inside k lt = cover.of_it (slice_index kept k) (element_of kept (slice_index kept k) k lt refl)

  each : All (λ place. length (row_of region place) ≡ region.width) kept
  each = All-from_get_or (λ place. length (row_of region place) ≡ region.width) kept 0
      (λ k lt. row_long region (slice_index kept k) is.kept (inside k lt))

  -- a row for each place
  pub thin_rows : AreRows (length kept) region.width (map (row_of region) kept)
  thin_rows = record {
    whole = length-map kept (row_of region);
    wide = λ k d lt. (let inner : k < length kept = omega (arith, lt, length-map kept (row_of region)) in
        ap (λ (l : List ℕ). length l) (get_or-map (row_of region) kept k 0 d inner)
        ∙ row_long region (slice_index kept k) is.kept (inside k inner));
  }

  -- the row of a place is that of the region
  row_at : (k : ℕ) → k < length kept → row_of (thinned region kept) k ≡ row_of region (slice_index kept k)
  row_at k lt = piece_at (row_of region) region.width kept k each lt

  count : length (map (slice_index region.places) kept) ≡ length kept
  count = length-map kept (slice_index region.places)

  -- ascending items at ascending indices ascend
  places_up : IsStrictlyIncreasing (map (slice_index region.places) kept)
  places_up k h =
      let lt : k + 1 < length kept = omega (arith, count) in
      let more = rises region.places is.kept.places_ascend (slice_index kept k) (slice_index kept (k + 1)) (up k lt)
      (inside (k + 1) lt) in
      omega (
        arith,
        get_or-map (slice_index region.places) kept k 0 0 (omega arith),
        get_or-map
            (slice_index region.places) kept (k + 1) 0 0 lt,
        more,
      )

  lightable : (cell : ℕ) → cell < length region.cells
      → (place : ℕ) × (place < length (map (slice_index region.places) kept))
      × LightsAt (thinned region kept) place cell
  lightable cell h =
      let lit = cover.covers cell h in
      let has = lit.1 in (
        has.0,
        omega (arith, has.1, count),
        subst (λ (row : List ℕ). Has row cell) (sym (row_at has.0 has.1))
            (subst (λ (p : ℕ). Has (row_of region p) cell) (sym (element_at kept lit.0 has)) lit.2),
      )

  pub thin_instance : IsInstance (thinned region kept)
  thin_instance = record {
    cells_ascend = is.kept.cells_ascend;
    places_ascend = places_up;
    wide = is.kept.wide;
    whole = pieces_long (row_of region) region.width kept each ∙ ap (λ (n : ℕ). n * region.width) (sym count);
    of_cells = λ place cell h lit. (let lt : place < length kept = omega (arith, h, count) in
        is.kept.of_cells (slice_index kept place) cell (inside place lt)
        (subst (λ (row : List ℕ). Has row cell) (row_at place lt) lit));
    lightable = lightable;
  }

  pub thin_region : IsRegion (thinned region kept)
  thin_region = record {
    kept = thin_instance;
    filled = is.filled;
    lighting = λ place h. (let lt : place < length kept = omega (arith, h, count) in
        let lit = is.lighting (slice_index kept place) (inside place lt) in
        (lit.0, subst (λ (row : List ℕ). Has row lit.0) (sym (row_at place lt)) lit.1));
  }
