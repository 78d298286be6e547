-- What a worker's desk keeps, and what a worker hands over. This is this project's own.
use Rattle.std.specs.Prelude.{◌≡◌, ℕ, ◌+◌, ◌-◌, ◌^◌, ◌≤◌, min, false, List, length, Option, Some, None, IfSome, refl}
use Rattle.std.specs.Coded.{Coded, code_by, coded×, coded_ℕ, coded_option}
use Rattle.atomic_table.specs.Seated.{TableId}
use Rattle.set_cover.specs.Instance.{Instance, instance_coded}
use Rattle.instance_regions.specs.Cover.{Covering, covering_coded}
use Rattle.proof_tree.specs.Piece.{Subproblem}
use Rattle.beacon.specs.declared.known.Known.{Known}
use Rattle.beacon.specs.Marks.{Seated, known_coded}
use Rattle.schedule_law.specs.Worked.{IsWork}
use Rattle.search_traits.specs.Desks.{DeskState}
use Rattle.worker_results.specs.Holdings.{HeldParts, held_parts_coded, AddsUp, work_of}

-- there is a cover no larger than the size
abbrev pub HasCoverOf : Option Covering → ℕ → Type 0
HasCoverOf None size = ⊥
HasCoverOf (Some cover) size = length cover.places ≤ size

-- a size that was told is that of a cover which is kept, or more
abbrev pub KeepsTold : Option Covering → Option ℕ → Type 0
KeepsTold cover told = IfSome told (HasCoverOf cover)

-- a seat at the beacon that isn't the first one
abbrev pub IsSeatAt : TableId → Seated → Type 0
IsSeatAt beacon seat = (seat.beacon ≡ beacon) × (seat.knows.first ≡ false)

-- a worker's desk
pub record Desked : Type 0 where
  pub region : Instance
  -- what its seat knows
  pub knows : Known
  pub cover : Option Covering
  -- how many turns it grants at most, if they are limited
  pub limit : Option ℕ
  pub granted : ℕ

-- the code by which desks are told apart, made of those of their parts
abbrev pub desked_coded : Coded Desked
desked_coded = code_by (Instance × (Known × (Option Covering × (Option ℕ × ℕ))))
    (coded× instance_coded (coded× known_coded (coded× (coded_option covering_coded)
    (coded× (coded_option coded_ℕ) coded_ℕ))))
    (λ d. (d.region, (d.knows, (d.cover, (d.limit, d.granted)))))
    (λ p. record { region = p.0; knows = p.1.0; cover = p.1.1.0; limit = p.1.1.1.0; granted = p.1.1.1.1 })
    (λ _. refl)

-- one turn more, as far as 64 bits count, where turns are limited
abbrev pub one_more : Option ℕ → Option ℕ
one_more None = None
one_more (Some most) = Some (min (most + 1) (2 ^ 64 - 1))

-- what it knows as any desk does: it showed what its seat saw last, and accepted what that told
abbrev pub state_of : Desked → DeskState
state_of desk = record {
  shown = desk.knows.seen;
  accepted = desk.knows.told;
  granted = desk.granted;
  limit = desk.limit;
  region = desk.region;
}

-- what a worker hands over
pub record Handed : Type 0 where
  pub holdings : HeldParts
  -- what its seat knows
  pub knows : Known
  pub cover : Option Covering

-- the code by which what workers hand over is told apart, made of those of its parts
abbrev pub handed_coded : Coded Handed
handed_coded = code_by (HeldParts × (Known × Option Covering))
    (coded× held_parts_coded (coded× known_coded (coded_option covering_coded)))
    (λ h. (h.holdings, (h.knows, h.cover)))
    (λ p. record { holdings = p.0; knows = p.1.0; cover = p.1.1 })
    (λ _. refl)

-- its cover is no larger than any size that its seat told, and its floors are at least what the seat saw
pub record IsHandedIn (region : Instance) (start : List Subproblem) (handed : Handed) : Type 0 where
  pub adds_up : AddsUp start handed.holdings
  pub kept : KeepsTold handed.cover handed.knows.told
  pub fit : IsWork region handed.knows.seen (work_of handed.holdings handed.cover)
