-- Which torches a plan's text tells: by its first lines, as `plan` prints them, and with a line `corner` where the plan
-- is one of a world. What follows them isn't judged. The text is this project's own.
use Rattle.std.specs.Prelude.{◌≡◌, ℕ, ◌+◌, List, [], ◌∷◌, ◌++◌, length, codes, decimal, map, All}
use Rattle.std.specs.Prelude.{Option, Some, None, IfSome}
use Rattle.proof_rules.specs.Text.{ended}
use Rattle.certificate_lines.specs.Cuts.{HasNoFeed}
use Rattle.certificate_lines.specs.Numbers.{IsSmall}
use Rattle.cave_base.specs.Box.{coordinates}
use Rattle.cave_model.specs.Cave.{Cave}
use Rattle.cave_plan.specs.PlanText.{hang_at, hang_word}
use Rattle.plan_reading.specs.declared.torch.ToldTorch.{ToldTorch}

-- how many torches there are; of a stopped plan also the number that no safe torches are fewer than
abbrev pub head_line : ℕ → Option ℕ → List ℕ
head_line torches None = codes "torches " ++ decimal torches
head_line torches (Some floor) = codes "torches " ++ (decimal torches ++ (codes " at-least " ++ decimal floor))

-- how many dark cells
abbrev pub dark_line : ℕ → List ℕ
dark_line dark = codes "dark " ++ decimal dark

-- where the cave lies in a world, which isn't judged
abbrev pub corner_line : List ℕ → List ℕ
corner_line text = codes "corner " ++ text

-- a torch: its coordinates, and how it hangs
abbrev pub torch_line : ToldTorch → List ℕ
torch_line torch = codes "T " ++ (decimal torch.x ++ (codes " " ++ (decimal torch.y ++ (codes " " ++ (decimal torch.z
    ++ (codes " " ++ hang_word torch.hang))))))

-- what the first lines of a plan tell
pub record Told : Type 0 where
  pub torches : List ToldTorch
  pub floor : Option ℕ
  pub dark : ℕ
  pub corner : Option (List ℕ)

-- the line of the corner, where one is told
abbrev pub corner_lines : Option (List ℕ) → List (List ℕ)
corner_lines None = []
corner_lines (Some text) = corner_line text ∷ []

-- the lines that tell it
abbrev pub lines_of : Told → List (List ℕ)
lines_of told = head_line (length told.torches) told.floor ∷ dark_line told.dark
    ∷ (corner_lines told.corner ++ map torch_line told.torches)

-- the coordinates are at most 4,294,967,295
abbrev pub IsNear : ToldTorch → Type 0
IsNear torch = IsSmall torch.x × IsSmall torch.y × IsSmall torch.z

-- no number is above 4,294,967,295, and a line ends where it is said to
pub record IsInRange (told : Told) : Type 0 where
  pub counted : IsSmall (length told.torches)
  pub floored : IfSome told.floor IsSmall
  pub numbered : IsSmall told.dark
  pub clean : IfSome told.corner HasNoFeed
  pub near : All IsNear told.torches

-- the bytes tell these torches
pub record TellsTorches (bytes : List ℕ) (torches : List ToldTorch) : Type 0 where
  pub told : Told
  pub in_range : IsInRange told
  pub rest : List ℕ
  pub parts : bytes ≡ ended (lines_of told) ++ rest
  pub are : told.torches ≡ torches

-- some plan begins with these lines
abbrev pub AreFirstLines : List (List ℕ) → Type 0
AreFirstLines lines = (told : Told) × IsInRange told × (more : List (List ℕ)) × (lines_of told ≡ lines ++ more)

-- the first line that doesn't fit: no plan begins with the lines up to this one, but some does with those before it
pub record IsFirstMisfit (bytes : List ℕ) (number : ℕ) : Type 0 where
  pub before : List (List ℕ)
  pub rest : List ℕ
  pub parts : bytes ≡ ended before ++ rest
  pub counted : number ≡ length before + 1
  pub fits : AreFirstLines before
  pub breaks : (next later : List ℕ) → rest ≡ next ++ 10 ∷ later → ¬ AreFirstLines (before ++ next ∷ [])
  pub unfinished : (torches : List ToldTorch) → ¬ TellsTorches bytes torches

-- the torch that a plan's text tells of this cell
abbrev pub told_at : Cave → ℕ → ToldTorch
told_at cave cell = record {
  x = (coordinates cave.size cell).x;
  y = (coordinates cave.size cell).y;
  z = (coordinates cave.size cell).z;
  hang = hang_at cave cell;
}
