-- What a worker hands over once it is joined. This is this project's own.
use Rattle.std.specs.Prelude.{◌≡◌, ℕ, ◌≤◌, List, Option, All, IfSome, refl}
use Rattle.std.specs.Coded.{Coded, code_by, coded×, coded_list, coded_option}
use Rattle.set_cover.specs.Instance.{Instance}
use Rattle.instance_regions.specs.Cover.{Covering, covering_coded, IsCover}
use Rattle.proof_tree.specs.Piece.{Subproblem, subproblem_coded, Fathomed, fathomed_coded, IsClosed}
use Rattle.proof_tree.specs.Opened.{Split, split_coded, IsSplit}

-- the pieces by what became of them, and a cover
pub record Worked : Type 0 where
  -- the smallest that it found, if it found one
  pub cover : Option Covering
  pub closed : List Fathomed
  pub opened : List Split
  -- those that it took and neither closed nor opened
  pub held : List Subproblem
  -- kids of what it opened that it keeps to itself
  pub kept : List Subproblem

-- the code by which such results are told apart, made of those of their parts
abbrev pub worked_coded : Coded Worked
worked_coded = code_by (Option Covering × (List Fathomed × (List Split × (List Subproblem × List Subproblem))))
    (coded× (coded_option covering_coded) (coded× (coded_list fathomed_coded) (coded× (coded_list split_coded)
    (coded× (coded_list subproblem_coded) (coded_list subproblem_coded)))))
    (λ w. (w.cover, (w.closed, (w.opened, (w.held, w.kept)))))
    (λ p. record { cover = p.0; closed = p.1.0; opened = p.1.1.0; held = p.1.1.1.0; kept = p.1.1.1.1 })
    (λ _. refl)

-- a cover of this region
abbrev pub IsCoverFor : Instance → Covering → Type 0
IsCoverFor region cover = (cover.region ≡ region) × IsCover cover

-- a piece of this region, closed at this floor or more
pub record IsClosedFrom (region : Instance) (least : ℕ) (closed : Fathomed) : Type 0 where
  pub of_it : closed.piece.region ≡ region
  pub reaches : least ≤ closed.floor
  pub proved : IsClosed closed

-- a piece of this region, opened as it may be
pub record IsOpenedIn (region : Instance) (split : Split) : Type 0 where
  pub of_it : split.piece.region ≡ region
  pub opens : IsSplit split

-- what it hands over is of this region, and its floors are at least this size
pub record IsWork (region : Instance) (least : ℕ) (work : Worked) : Type 0 where
  pub cover : IfSome work.cover (IsCoverFor region)
  pub closed : All (IsClosedFrom region least) work.closed
  pub opened : All (IsOpenedIn region) work.opened
