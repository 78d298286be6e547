-- What a seat at a beacon has seen and told, and how each call changes it. This is this project's own.
use Rattle.std.specs.Prelude.{◌≡◌, ℕ, ◌+◌, ◌-◌, ◌≤◌, Bool, true, false, min, Option, Some, None, IfSome, refl}
use Rattle.std.specs.Coded.{Coded, code_by, coded×, coded_ℕ, coded_bool, coded_option}
use Rattle.atomic_table.specs.Seated.{TableId, table_id_coded}
use Rattle.beacon.specs.declared.known.Known.{Known}

-- which beacon a seat is of, and what it knows
pub record Seated : Type 0 where
  pub beacon : TableId
  pub knows : Known

-- a size that was told is at least the number
abbrev pub AtLeast : ℕ → Option ℕ → Type 0
AtLeast n told = IfSome told (λ size. n ≤ size)

-- the lesser of two sizes told, of which either may be none
abbrev pub lesser_told : Option ℕ → Option ℕ → Option ℕ
lesser_told None y = y
lesser_told (Some x) None = Some x
lesser_told (Some x) (Some y) = Some (min x y)

-- what the first seat of a new beacon knows
abbrev pub at_first : ℕ → Known
at_first size = record { first = true; spent = false; seen = size; told = Some size; out = 0 }

-- after a look that found this size
abbrev pub has_seen : Known → ℕ → Known
has_seen seat size =
    record { first = seat.first; spent = seat.spent; seen = size; told = seat.told; out = seat.out }

-- a look found a size: at most all that the seat had seen or told, and now what it has seen
pub record Looked (before : Known) (found : ℕ) (after : Known) : Type 0 where
  pub not_more : found ≤ before.seen
  pub at_most_told : AtLeast found before.told
  pub now_seen : after ≡ has_seen before found

-- after this size was told
abbrev pub told_too : Known → ℕ → Known
told_too seat size = record {
  first = seat.first;
  spent = seat.spent;
  seen = seat.seen;
  told = lesser_told seat.told (Some size);
  out = seat.out;
}

-- after a seat was split off
abbrev pub after_split : Known → Known
after_split seat =
    record { first = seat.first; spent = seat.spent; seen = seat.seen; told = seat.told; out = seat.out + 1 }

-- what the seat that was split off knows
abbrev pub newcomer : Known → Known
newcomer seat = record { first = false; spent = false; seen = seat.seen; told = None; out = 0 }

-- after another seat was joined into this one
abbrev pub together : Known → Known → Known
together seat other = record {
  first = seat.first;
  spent = seat.spent;
  seen = min seat.seen other.seen;
  told = lesser_told seat.told other.told;
  out = seat.out - 1;
}

-- what is left of a seat that was joined
abbrev pub nobody : Known
nobody = record { first = false; spent = true; seen = 0; told = None; out = 0 }

-- the code by which seats are told apart by what they know
abbrev pub known_coded : Coded Known
known_coded = code_by (Bool × (Bool × (ℕ × (Option ℕ × ℕ))))
    (coded× coded_bool (coded× coded_bool (coded× coded_ℕ (coded× (coded_option coded_ℕ) coded_ℕ))))
    (λ k. (k.first, (k.spent, (k.seen, (k.told, k.out)))))
    (λ p. record { first = p.0; spent = p.1.0; seen = p.1.1.0; told = p.1.1.1.0; out = p.1.1.1.1 })
    (λ _. refl)

-- the code by which seats are told apart by their beacon and by what they know
abbrev pub seated_coded : Coded Seated
seated_coded = code_by (TableId × Known) (coded× table_id_coded known_coded)
    (λ s. (s.beacon, s.knows)) (λ p. record { beacon = p.0; knows = p.1 }) (λ _. refl)
