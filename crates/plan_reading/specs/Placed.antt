-- Where told torches stand in a cave, and why they may not. This is this project's own.
use Rattle.std.specs.Prelude.{◌≡◌, ◌≢◌, ◌<◌, ◌⊎◌, ℕ, IsTrue, List, length, map, slice_index_or}
use Rattle.cave_base.specs.Box.{Point, is_within, number}
use Rattle.cave_model.specs.Cave.{Cave}
use Rattle.cave_model.specs.Least.{IsLeast}
use Rattle.cave_model.specs.Plan.{cave_with}
use Rattle.cave_model.specs.Torches.{is_legal}
use Rattle.cave_model.specs.declared.hang.Hang.TheVariants.{Floor}
use Rattle.plan_reading.specs.PlanLines.{TellsTorches, IsFirstMisfit}
use Rattle.plan_reading.specs.declared.fault.TorchesFault.{TorchesFault}
use Rattle.plan_reading.specs.declared.fault.TorchesFault.TheVariants as faults
use Rattle.plan_reading.specs.declared.torch.ToldTorch.{ToldTorch}

-- the coordinates of the torch
abbrev pub point_of : ToldTorch → Point
point_of torch = record { x = torch.x; y = torch.y; z = torch.z }

-- the cell of the torch in a box of this size
abbrev pub cell_of : Point → ToldTorch → ℕ
cell_of size torch = number size (point_of torch)

-- the torch with this index; past the end it is one on the floor at 0 0 0
abbrev pub torch_at : List ToldTorch → ℕ → ToldTorch
torch_at torches i = slice_index_or torches i (record { x = 0; y = 0; z = 0; hang = Floor })

-- the torch with this index may go where it is: a legal place in the box, where none before it stands
pub record MayStand (cave : Cave) (torches : List ToldTorch) (i : ℕ) : Type 0 where
  pub inside : IsTrue (is_within cave.size (point_of (torch_at torches i)))
  pub legal : IsTrue (is_legal cave (cell_of cave.size (torch_at torches i)) (torch_at torches i).hang)
  pub alone : (j : ℕ) → j < i → cell_of cave.size (torch_at torches j) ≢ cell_of cave.size (torch_at torches i)

-- each torch may
abbrev pub AllMayStand : Cave → List ToldTorch → Type 0
AllMayStand cave torches = (i : ℕ) → i < length torches → MayStand cave torches i

-- there is such a torch, and it may not
abbrev pub StandsIllegally : Cave → List ToldTorch → ℕ → Type 0
StandsIllegally cave torches i = (i < length torches) × ¬ MayStand cave torches i

-- the fault that names the torch
abbrev pub illegal : ToldTorch → TorchesFault
illegal torch = faults.Illegal torch.x torch.y torch.z

-- the bytes of a plan tell torches that may all go where they are, in these cells
pub record ArePlacedBy (cave : Cave) (bytes : List ℕ) (cells : List ℕ) : Type 0 where
  pub torches : List ToldTorch
  pub told : TellsTorches bytes torches
  pub stand : AllMayStand cave torches
  pub are : cells ≡ map (cell_of cave.size) torches

-- the cave in which the torches of a plan stand
abbrev pub IsCaveWith : Cave → List ℕ → Cave → Type 0
IsCaveWith cave bytes lit = (cells : List ℕ) × ArePlacedBy cave bytes cells × (lit ≡ cave_with cave cells)

-- the bytes are no plan's: this line is the first that doesn't fit
abbrev pub IsNoPlan : List ℕ → TorchesFault → Type 0
IsNoPlan bytes fault = (line : ℕ) × IsFirstMisfit bytes line × (fault ≡ faults.Syntax line)

-- the first torch that may not go where it is
pub record NamesIllegal (cave : Cave) (torches : List ToldTorch) (fault : TorchesFault) : Type 0 where
  pub index : ℕ
  pub first : IsLeast (StandsIllegally cave torches) index
  pub named : fault ≡ illegal (torch_at torches index)

-- why the bytes of a plan give the cave no torches
abbrev pub IsPlanFault : Cave → List ℕ → TorchesFault → Type 0
IsPlanFault cave bytes fault = IsNoPlan bytes fault
    ⊎ ((torches : List ToldTorch) × TellsTorches bytes torches × NamesIllegal cave torches fault)
