-- A cell and its coordinates.
use Rattle.std.proofs.Common.{◌≡◌, ℕ, suc, ◌+◌, ◌*◌, ◌/◌, ◌%◌, ◌<◌, ◌≤◌, Bool, true, false, ◌&&◌, nat_lt}
use Rattle.std.proofs.Common.{IsTrue, refl, ap, subst, ◌∙◌, arith, ltb-true, lt-ltb, inl, inr, mod-lt}
use Rattle.std.proofs.Common.{eq-zero-or-pos}
use Rattle.std.proofs.Math.Nat.{div-lt_iff_lt-mul, mul-le-mul_right}
use Rattle.std.proofs.lemmas.Nat.{mod-mul-add, div-mul-add, div-add-mod'}
use Rattle.cave_base.specs.Box.{Point, cell_count, coordinates, is_within, number}

-- the coordinates lie in the box, one by one
pub record IsWithin (size at : Point) : Type 0 where
  pub x_in : at.x < size.x
  pub y_in : at.y < size.y
  pub z_in : at.z < size.z

-- where a conjunction is true, both parts are
pub both_true : (a b : Bool) → (a && b) ≡ true → (a ≡ true) × (b ≡ true)
both_true true b e = (refl, e)
both_true false b e = absurd (cc)

-- where both parts are true, their conjunction is
pub true_both : (a b : Bool) → a ≡ true → b ≡ true → (a && b) ≡ true
true_both true b p q = q
true_both false b p q = absurd (cc)

-- coordinates that are judged to lie in the box lie in it, side by side
pub within_parts : (size at : Point) → IsTrue (is_within size at) → IsWithin size at
within_parts size at h =
    let p = both_true (nat_lt at.x size.x && nat_lt at.y size.y) (nat_lt at.z size.z) h in
    let q = both_true (nat_lt at.x size.x) (nat_lt at.y size.y) p.0 in
    record { x_in = ltb-true at.x size.x q.0; y_in = ltb-true at.y size.y q.1; z_in = ltb-true at.z size.z p.1 }

-- coordinates that lie in the box, side by side, are judged to
pub within_whole : (size at : Point) → IsWithin size at → IsTrue (is_within size at)
within_whole size at w =
    true_both (nat_lt at.x size.x && nat_lt at.y size.y) (nat_lt at.z size.z)
    (true_both (nat_lt at.x size.x) (nat_lt at.y size.y) (lt-ltb at.x size.x w.x_in) (lt-ltb at.y size.y w.y_in))
    (lt-ltb at.z size.z w.z_in)

-- points with equal coordinates are equal
pub point_is : (x y z x' y' z' : ℕ) → x ≡ x' → y ≡ y' → z ≡ z'
    → ◌≡◌ {A = Point} (record { x = x; y = y; z = z }) (record { x = x'; y = y'; z = z' })
point_is x y z x' y' z' p q r = cc

-- the coordinates of a number have that number
pub number-coordinates : (size : Point) (cell : ℕ) → number size (coordinates size cell) ≡ cell
number-coordinates size cell =
    ap (λ (n : ℕ). n * size.x + cell % size.x) (div-add-mod' (cell / size.x) size.z) ∙ div-add-mod' cell size.x

-- the number of coordinates in the box has those coordinates
pub coordinates-number : (size at : Point) → IsWithin size at → coordinates size (number size at) ≡ at
coordinates-number size at w =
    let row : number size at / size.x ≡ at.y * size.z + at.z = div-mul-add (at.y * size.z + at.z) size.x at.x w.x_in in
    point_is _ _ _ at.x at.y at.z
    (mod-mul-add (at.y * size.z + at.z) size.x at.x w.x_in)
    (ap (λ (n : ℕ). n / size.z) row ∙ div-mul-add at.y size.z at.z w.z_in)
    (ap (λ (n : ℕ). n % size.z) row ∙ mod-mul-add at.y size.z at.z w.z_in)

-- a product whose first factor is 0
zero_times : (b c : ℕ) → 0 * b * c ≡ 0
zero_times b c = omega arith

-- a product whose last factor is 0
times_zero : (a b : ℕ) → a * b * 0 ≡ 0
times_zero a b = omega arith

-- a product in another order
regrouped : (a b c : ℕ) → a * b * c ≡ b * c * a
regrouped a b c = omega arith

-- a box with a cell has no side of 0
pub wide : (size : Point) (cell : ℕ) → cell < cell_count size → 0 < size.x
wide size cell h = elim (eq-zero-or-pos size.x) [
  | inl e ↦ (let none : cell_count size ≡ 0 = ap (λ (n : ℕ). n * size.y * size.z) e
      ∙ zero_times size.y size.z in omega arith)
  | inr p ↦ p
]

-- the same of the side along z
pub deep : (size : Point) (cell : ℕ) → cell < cell_count size → 0 < size.z
deep size cell h = elim (eq-zero-or-pos size.z) [
  | inl e ↦ (let none : cell_count size ≡ 0 = ap (λ (n : ℕ). size.x * size.y * n) e
      ∙ times_zero size.x size.y in omega arith)
  | inr p ↦ p
]

-- the coordinates of a cell lie in the box
pub coordinates_within : (size : Point) (cell : ℕ) → cell < cell_count size → IsWithin size (coordinates size cell)
coordinates_within size cell h =
    let pos_x : 0 < size.x = wide size cell h in
    let pos_z : 0 < size.z = deep size cell h in
    let all : cell < size.y * size.z * size.x = subst (λ (n : ℕ). cell < n) (regrouped size.x size.y size.z) h in
    let rows : cell / size.x < size.y * size.z = (div-lt_iff_lt-mul pos_x).1 all in
    record {
      x_in = mod-lt cell pos_x;
      y_in = (div-lt_iff_lt-mul pos_z).1 rows;
      z_in = mod-lt (cell / size.x) pos_z;
    }

-- the number of coordinates in the box is that of a cell
pub number_below : (size at : Point) → IsWithin size at → number size at < cell_count size
number_below size at w =
    let rows : suc at.y * size.z ≤ size.y * size.z = mul-le-mul_right size.z w.y_in in
    let row : suc (at.y * size.z + at.z) ≤ size.y * size.z = omega (arith, w.z_in) in
    let cells : suc (at.y * size.z + at.z) * size.x ≤ size.y * size.z * size.x = mul-le-mul_right size.x row in
    omega (arith, w.x_in)
