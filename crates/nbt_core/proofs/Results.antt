-- What steps that may fail gave, from what all of them gave.
use Rattle.std.proofs.Common.{◌≡◌, List, ℕ, Bool, true, false, cond, Result, Ok, Err, refl, ap, ◌⊎◌, inl, inr}
use Rattle.nbt_core.specs.declared.fault.NbtFault.{NbtFault}
use Rattle.nbt_core.specs.Reading.{Reads, ◌>>=◌, mapped}

abbrev pub done : {A : Type 0} → A → Result A NbtFault
done x = Ok x

abbrev pub failed : {A : Type 0} → NbtFault → Result A NbtFault
failed d = Err d

-- a value read, and the bytes after it
abbrev pub gave : {A : Type 0} → A → List ℕ → Reads A
gave x rest = Ok (x, rest)

pub ok_is : {A : Type 0} (x y : A) → done x ≡ done y → x ≡ y
ok_is x y e = cc

pub err_is : {A : Type 0} (c d : NbtFault) → failed {A = A} c ≡ failed d → c ≡ d
err_is c d e = cc

pub err_never : {A : Type 0} (y : A) (d : NbtFault) → Err d ≡ done y → ⊥
err_never y d e = cc

pub ok_never : {A : Type 0} (x : A) (d : NbtFault) → Ok x ≡ failed d → ⊥
ok_never x d e = cc

pub chosen : {A : Type 0} (b : Bool) (x y z : A) → cond b x y ≡ z → ((b ≡ true) × (x ≡ z)) ⊎ ((b ≡ false) × (y ≡ z))
chosen true x y z e = inl (refl, e)
chosen false x y z e = inr (refl, e)

pub bind_ok : {A B : Type 0} (r : Result A NbtFault) (f : A → Result B NbtFault) (y : B) → (r >>= f) ≡ Ok y → (x : A)
    × (r ≡ Ok x) × (f x ≡ Ok y)
bind_ok (Ok x) f y e = (x, refl, e)
bind_ok (Err d) f y e = absurd cc

pub bind_err : {A B : Type 0} (r : Result A NbtFault) (f : A → Result B NbtFault) (d : NbtFault) → (r >>= f) ≡ Err d
    → (r ≡ Err d) ⊎ ((x : A) × (r ≡ Ok x) × (f x ≡ Err d))
bind_err (Ok x) f d e = inr (x, refl, e)
bind_err {A = A} {B = B} (Err c) f d e = inl (let same : c ≡ d = err_is {A = B} c d e in ap (failed {A = A}) same)

pub mapped_ok : {A B : Type 0} (f : A → B) (r : Reads A) (y : B × List ℕ) → mapped f r ≡ Ok y → (x : A × List ℕ)
    × (r ≡ Ok x) × ((f x.0, x.1) ≡ y)
mapped_ok f (Ok x) y e = (x, refl, ok_is (f x.0, x.1) y e)
mapped_ok f (Err d) y e = absurd cc

pub mapped_err : {A B : Type 0} (f : A → B) (r : Reads A) (d : NbtFault) → mapped f r ≡ Err d → r ≡ Err d
mapped_err f (Ok x) d e = absurd cc
mapped_err {A = A} {B = B} f (Err c) d e = let same : c ≡ d =
    err_is {A = B × List ℕ} c d e in ap (failed {A = A × List ℕ}) same
