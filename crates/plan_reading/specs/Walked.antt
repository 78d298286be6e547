-- How far the first lines of a plan were read.
use Rattle.std.specs.Prelude.{◌≡◌, ◌⊎◌, ℕ, List, [], ◌∷◌, ◌++◌, length, map, All, Option, None, IfSome}
use Rattle.proof_rules.specs.Text.{ended}
use Rattle.certificate_lines.specs.Cuts.{HasNoFeed}
use Rattle.certificate_lines.specs.Numbers.{IsSmall}
use Rattle.plan_reading.specs.Fields.{BeginsWithCorner, HasNoCorner}
use Rattle.plan_reading.specs.PlanLines.{IsNear, corner_lines, dark_line, head_line, torch_line}
use Rattle.plan_reading.specs.declared.torch.ToldTorch.{ToldTorch}

-- what comes before the torches: how many there are and at least have to be, how many dark cells, and the corner
pub record Opening : Type 0 where
  pub count : ℕ
  pub floor : Option ℕ
  pub dark : ℕ
  pub corner : Option (List ℕ)

-- its lines
abbrev pub opening_lines : Opening → List (List ℕ)
opening_lines opening =
    head_line opening.count opening.floor ∷ dark_line opening.dark ∷ corner_lines opening.corner

-- its numbers are small, and its corner is one line
pub record IsOpening (opening : Opening) : Type 0 where
  pub counted : IsSmall opening.count
  pub floored : IfSome opening.floor IsSmall
  pub numbered : IsSmall opening.dark
  pub clean : IfSome opening.corner HasNoFeed

-- the rest comes after the line of a corner, or no such line comes first and it is all
abbrev pub PassesCorner : List ℕ → ℕ → List ℕ → Type 0
PassesCorner text lines rest = ((lines ≡ 0) × (rest ≡ text) × HasNoCorner text)
    ⊎ ((lines ≡ 1) × ((corner : List ℕ) × BeginsWithCorner text corner rest))

-- the bytes begin with an opening and the lines of these torches; no corner comes where one still could
pub record Walks (bytes : List ℕ) (opening : Opening) (taken : List ToldTorch) (rest : List ℕ) : Type 0 where
  pub is : IsOpening opening
  pub near : All IsNear taken
  pub parts : bytes ≡ ended (opening_lines opening) ++ (ended (map torch_line taken) ++ rest)
  pub last : opening.corner ≡ None → taken ≡ [] → HasNoCorner rest

-- the bytes begin with `lines` lines, which tell `count` torches, of which these were taken
pub record Took (bytes : List ℕ) (count lines : ℕ) (taken : List ToldTorch) (rest : List ℕ) : Type 0 where
  pub opening : Opening
  pub walks : Walks bytes opening taken rest
  pub told : opening.count ≡ count
  pub counted : lines ≡ length (opening_lines opening)

-- no torch was taken yet
abbrev pub Opens : List ℕ → ℕ → ℕ → List ℕ → Type 0
Opens bytes count lines rest = Took bytes count lines [] rest
