-- What a worker holds: the pieces that it pushed and took, and what became of them. This is this project's own.
use Rattle.std.specs.Prelude.{◌≡◌, ℕ, ◌+◌, List, [], ◌++◌, All, Option, refl}
use Rattle.std.specs.Coded.{Coded, code_by, coded×, coded_ℕ, coded_list}
use Rattle.set_cover.specs.Instance.{Instance}
use Rattle.instance_regions.specs.Cover.{Covering}
use Rattle.proof_tree.specs.Piece.{Subproblem, subproblem_coded, Fathomed, fathomed_coded}
use Rattle.proof_tree.specs.Opened.{Split, split_coded}
use Rattle.proof_tree.specs.Weights.{weigh}
use Rattle.piece_deque.specs.declared.dealt.Dealt.{Dealt}
use Rattle.piece_deque.specs.Deals.{dealt_coded}
use Rattle.schedule_law.specs.Worked.{Worked, IsClosedFrom, IsOpenedIn}
use Rattle.schedule_law.specs.Joined.{all_kids, pieces_closed, pieces_opened}
use Rattle.worker_results.specs.Passes.{KnownPass, known_pass_coded, Owned, all_taken}

-- what a worker holds, part by part
pub record HeldParts : Type 0 where
  pub worker : ℕ
  -- what its own pass knows
  pub own : Dealt
  pub passes : List KnownPass
  pub closed : List Fathomed
  pub opened : List Split
  -- those that it took and neither closed nor opened
  pub held : List Subproblem
  -- kids of what it opened that it keeps to itself, the newest last
  pub kept : List Subproblem

-- the code by which what workers hold is told apart, made of those of its parts
abbrev pub held_parts_coded : Coded HeldParts
held_parts_coded = code_by
    (ℕ × (Dealt × (List KnownPass × (List Fathomed × (List Split × (List Subproblem × List Subproblem))))))
    (coded× coded_ℕ (coded× dealt_coded (coded× (coded_list known_pass_coded) (coded× (coded_list fathomed_coded)
    (coded× (coded_list split_coded) (coded× (coded_list subproblem_coded) (coded_list subproblem_coded)))))))
    (λ s. (s.worker, (s.own, (s.passes, (s.closed, (s.opened, (s.held, s.kept)))))))
    (λ p. record {
      worker = p.0;
      own = p.1.0;
      passes = p.1.1.0;
      closed = p.1.1.1.0;
      opened = p.1.1.1.1.0;
      held = p.1.1.1.1.1.0;
      kept = p.1.1.1.1.1.1;
    })
    (λ _. refl)

-- the parts, with the worker and what its own pass knows as the owner has them
abbrev pub held_of : Owned → List KnownPass → List Fathomed → List Split → List Subproblem → List Subproblem → HeldParts
held_of own passes closed opened held kept = record {
  worker = own.worker;
  own = own.knows;
  passes = passes;
  closed = closed;
  opened = opened;
  held = held;
  kept = kept;
}

-- what it hands over of it, with this cover
abbrev pub work_of : HeldParts → Option Covering → Worked
work_of holdings cover = record {
  cover = cover;
  closed = holdings.closed;
  opened = holdings.opened;
  held = holdings.held;
  kept = holdings.kept;
}

-- each piece that was there at the start, that it took or that came of one that it opened was closed or opened, is held
-- or kept, or was pushed
pub record AddsUp (start : List Subproblem) (holdings : HeldParts) : Type 0 where
  pub balance : (weight : Subproblem → ℕ)
      → weigh weight (pieces_closed holdings.closed) + weigh weight (pieces_opened holdings.opened)
      + weigh weight holdings.held + weigh weight holdings.kept + weigh weight holdings.own.pushed
      ≡ weigh weight start + weigh weight (holdings.own.taken ++ all_taken holdings.passes)
      + weigh weight (all_kids holdings.opened)

-- pieces of this region, closed at this floor or more
abbrev pub AreClosedFrom : Instance → ℕ → List Fathomed → Type 0
AreClosedFrom region least closed = All (IsClosedFrom region least) closed

-- what always holds of it
pub record HeldSoundly (region : Instance) (start : List Subproblem) (holdings : HeldParts) : Type 0 where
  pub adds_up : AddsUp start holdings
  pub all_closed : AreClosedFrom region 0 holdings.closed
  pub all_opened : All (IsOpenedIn region) holdings.opened

-- it took nothing, and pushed nothing but what was there at the start
pub record IsFresh (start : List Subproblem) (holdings : HeldParts) : Type 0 where
  pub pushed : holdings.own.pushed ≡ start
  pub own_taken : holdings.own.taken ≡ []
  pub others_taken : all_taken holdings.passes ≡ []
  pub none_closed : holdings.closed ≡ []
  pub none_opened : holdings.opened ≡ []
  pub none_held : holdings.held ≡ []
  pub none_refused : holdings.kept ≡ []
