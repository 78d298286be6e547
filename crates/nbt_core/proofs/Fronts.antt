-- Fronts of bytes, one after another.
use Rattle.std.proofs.Common.{◌≡◌, ℕ, ◌<◌, ◌≤◌, List, [], ◌∷◌, ◌++◌, length, Ok, refl, sym, ap, subst, ◌∙◌}
use Rattle.std.proofs.Common.{append_assoc, arith}
use Rattle.std.proofs.lemmas.List.{length-append}
use Rattle.nbt_core.specs.Reading.{Reads, mapped}
use Rattle.nbt_core.specs.Spelling.{◌▷◌, Anything, IsByte}
use Rattle.nbt_core.proofs.Results.{mapped_ok}

-- some front is P, and the rest is `rest`
pub record Takes (P : List ℕ → Type 0) (bytes rest : List ℕ) : Type 0 where
  pub front : List ℕ
  pub parts : bytes ≡ front ++ rest
  pub holds : P front

pub takes_then : {P Q : List ℕ → Type 0} {a b c : List ℕ} → Takes P a b → Takes Q b c → Takes (P ▷ Q) a c
takes_then p q = record {
  front = p.front ++ q.front;
  parts = p.parts ∙ ap (λ (x : List ℕ). p.front ++ x) q.parts ∙ sym (append_assoc p.front q.front _);
  holds = record { front = p.front; rest = q.front; parts = refl; first = p.holds; second = q.holds };
}

pub takes_split : {P Q : List ℕ → Type 0} {a c : List ℕ} → Takes (P ▷ Q) a c → (b : List ℕ) × Takes P a b × Takes Q b c
takes_split {c = c} t =
    let h = t.holds in (
      h.rest ++ c,
      record {
        front = h.front;
        parts = t.parts ∙ ap (λ (x : List ℕ). x ++ c) h.parts ∙ append_assoc h.front h.rest c;
        holds = h.first;
      },
      record { front = h.rest; parts = refl; holds = h.second },
    )

pub takes_none : (bytes : List ℕ) → Takes (λ front. front ≡ []) bytes bytes
takes_none bytes = record { front = []; parts = refl; holds = refl }

pub takes_as : {P Q : List ℕ → Type 0} {a b : List ℕ} → Takes P a b → ((front : List ℕ) → P front → Q front)
    → Takes Q a b
takes_as p f = record { front = p.front; parts = p.parts; holds = f p.front p.holds }

-- what is read of the front stays true of the changed value
pub takes_mapped : {A B : Type 0} (f : A → B) (P : A → List ℕ → Type 0) (Q : B → List ℕ → Type 0) (bytes : List ℕ)
    (r : Reads A) → ((x : A × List ℕ) → r ≡ Ok x → Takes (P x.0) bytes x.1)
    → ((a : A) (front : List ℕ) → P a front → Q (f a) front) → (y : B × List ℕ) → mapped f r ≡ Ok y
    → Takes (Q y.0) bytes y.1
takes_mapped {A = A} {B = B} f P Q bytes r takes as_ y e =
    let m = mapped_ok f r y e in
    subst (λ (y : B × List ℕ). Takes (Q y.0) bytes y.1) m.2 (takes_as (takes m.0 m.1) (as_ m.0.0))

pub takes_some : {P : List ℕ → Type 0} {bytes left : List ℕ} → Takes P bytes left → length left ≤ length bytes
takes_some {left = left} t = omega (arith, ap length t.parts, length-append t.front left)

pub takes_one : {b : ℕ} {bytes left : List ℕ} → Takes (IsByte b) bytes left → length left < length bytes
takes_one {left = left} t = omega (arith, ap length t.parts, length-append t.front left, ap length t.holds)

-- a front, and what comes after it
pub then_at : {P Q : List ℕ → Type 0} {a b : List ℕ} → Takes P a b → Q b → (P ▷ Q) a
then_at {b = b} p q = record { front = p.front; rest = b; parts = p.parts; first = p.holds; second = q }

-- a front before a longer one
pub then_front : {P Q R : List ℕ → Type 0} {a b : List ℕ} → Takes P a b → (Q ▷ R) b → ((P ▷ Q) ▷ R) a
then_front {b = b} p q = record {
  front = p.front ++ q.front;
  rest = q.rest;
  parts = p.parts ∙ ap (λ (x : List ℕ). p.front ++ x) q.parts ∙ sym (append_assoc p.front q.front q.rest);
  first = record { front = p.front; rest = q.front; parts = refl; first = p.holds; second = q.first };
  second = q.second;
}

pub first_as : {P P' Q : List ℕ → Type 0} {a : List ℕ} → (P ▷ Q) a → ((front : List ℕ) → P front → P' front)
    → (P' ▷ Q) a
first_as q f = record { front = q.front; rest = q.rest; parts = q.parts; first = f q.front q.first; second = q.second }

pub second_as : {P Q Q' : List ℕ → Type 0} {a : List ℕ} → (P ▷ Q) a → ((rest : List ℕ) → Q rest → Q' rest) → (P ▷ Q') a
second_as q f = record { front = q.front; rest = q.rest; parts = q.parts; first = q.first; second = f q.rest q.second }

pub assoc : {P Q R : List ℕ → Type 0} {a : List ℕ} → ((P ▷ Q) ▷ R) a → (P ▷ (Q ▷ R)) a
assoc q =
    let f = q.first in
    record {
      front = f.front;
      rest = f.rest ++ q.rest;
      parts = q.parts ∙ ap (λ (x : List ℕ). x ++ q.rest) f.parts ∙ append_assoc f.front f.rest q.rest;
      first = f.first;
      second = record { front = f.rest; rest = q.rest; parts = refl; first = f.second; second = q.second };
    }

pub no_front : {Q : List ℕ → Type 0} (a : List ℕ) → Q a → ((λ front. front ≡ []) ▷ Q) a
no_front a q = record { front = []; rest = a; parts = refl; first = refl; second = q }

pub front_byte : (b : ℕ) (rest : List ℕ) → (IsByte b ▷ Anything) (b ∷ rest)
front_byte b rest = record { front = b ∷ []; rest = rest; parts = refl; first = refl; second = tt }

-- bytes after a front in two parts
pub regroup : {P Q : List ℕ → Type 0} {front : List ℕ} (rest : List ℕ) → (is : (P ▷ Q) front)
    → front ++ rest ≡ is.front ++ (is.rest ++ rest)
regroup rest is = ap (λ (x : List ℕ). x ++ rest) is.parts ∙ append_assoc is.front is.rest rest
