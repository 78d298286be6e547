-- Entries that are judged one after another, up to some index.
use Rattle.std.proofs.Common.{◌≡◌, ℕ, suc, ◌+◌, ◌≤◌, List, [], ◌∷◌, ◌++◌, length, Option, Some, None, sym, ap}
use Rattle.std.proofs.Common.{◌∙◌, append_assoc, arith}
use Rattle.std.proofs.lemmas.List.{nil_from_length}
use Rattle.nbt_core.specs.Value.{Nbt}
use Rattle.scan_core.specs.Scan.{AreEach}
use Rattle.scan_core.specs.Judging.{first_fault, each_from}
use Rattle.scan_core.specs.declared.fault.ScanFault.{ScanFault}
use Rattle.scan_core.proofs.ScanLemmas.{first_append}

-- the entries before the rest tell these values, and the first fault of all is that of the rest
pub record AreTold {X : Type 0} (Is : Nbt → X → Type 0) (judge : ℕ → Nbt → List (Option ScanFault))
    (entries : List Nbt) (index : ℕ) (rest : List Nbt) (values : List X) : Type 0 where
  pub done : List Nbt
  pub parts : entries ≡ done ++ rest
  pub count : index + length rest ≡ length entries
  pub told : AreEach Is done values
  pub left : first_fault (each_from index judge rest) ≡ first_fault (each_from 0 judge entries)

-- one more at the end
each_push : {X : Type 0} (Is : Nbt → X → Type 0) (ts : List Nbt) (xs : List X) (t : Nbt) (x : X) → AreEach Is ts xs
    → Is t x → AreEach Is (ts ++ t ∷ []) (xs ++ x ∷ [])
each_push Is [] [] t x e h = (h, tt)
each_push Is [] (y ∷ ys) t x e h = absurd e
each_push Is (u ∷ us) [] t x e h = absurd e
each_push Is (u ∷ us) (y ∷ ys) t x e h = (e.0, each_push Is us ys t x e.1 h)

-- a fault stands before others
first_here : (xs ys : List (Option ScanFault)) (fault : ScanFault) → first_fault xs ≡ Some fault
    → first_fault (xs ++ ys) ≡ Some fault
first_here [] ys fault e = absurd (cc)
first_here (None ∷ xs) ys fault e = first_here xs ys fault e
first_here (Some f ∷ xs) ys fault e = e

module _ {X : Type 0} (Is : Nbt → X → Type 0) (judge : ℕ → Nbt → List (Option ScanFault)) (entries : List Nbt)
    (index : ℕ) (rest : List Nbt) (values : List X) (a : AreTold Is judge entries index rest values) where
  -- one entry on
  pub told_more : (t : Nbt) (others : List Nbt) (x : X) → rest ≡ t ∷ others → Is t x
      → first_fault (judge index t) ≡ None → AreTold Is judge entries (index + 1) others (values ++ x ∷ [])
  told_more t others x e is clean =
      let next : suc index ≡ index + 1 = omega arith in
      record {
        done = a.done ++ t ∷ [];
        parts = a.parts ∙ ap (λ (ts : List Nbt). a.done ++ ts) e ∙ sym (append_assoc a.done (t ∷ []) others);
        count = omega (arith, a.count, ap length e);
        told = each_push Is a.done values t x a.told is;
        left =
            ap (λ (n : ℕ). first_fault (each_from n judge others)) (sym next)
            ∙ sym (first_append (judge index t) (each_from (suc index) judge others) clean)
            ∙ sym (ap (λ (ts : List Nbt). first_fault (each_from index judge ts)) e)
            ∙ a.left;
      }

  -- at the last index none is left
  pub none_left : length entries ≤ index → rest ≡ []
  none_left le = nil_from_length rest (omega (arith, a.count, le))

  -- a fault of the next entry is the first of all
  pub told_fault : (t : Nbt) (others : List Nbt) (fault : ScanFault) → rest ≡ t ∷ others
      → first_fault (judge index t) ≡ Some fault → first_fault (each_from 0 judge entries) ≡ Some fault
  told_fault t others fault e found =
      sym a.left
      ∙ ap (λ (ts : List Nbt). first_fault (each_from index judge ts)) e
      ∙ first_here (judge index t) (each_from (suc index) judge others) fault found
