-- Torches put one after another among the classes of a cave's cells.
use Rattle.std.specs.Prelude.{◌≡◌, IsTrue, List, map, set, slice_index_or}
use Rattle.cave_base.specs.Box.{is_within}
use Rattle.cave_base.specs.Class.{new_torch, void}
use Rattle.cave_base.specs.declared.class.Class.{Class}
use Rattle.cave_model.specs.Cave.{Cave}
use Rattle.cave_model.specs.Plan.{classes_with}
use Rattle.cave_model.specs.Torches.{is_legal}
use Rattle.plan_reading.specs.Placed.{AllMayStand, cell_of, point_of}
use Rattle.plan_reading.specs.declared.torch.ToldTorch.{ToldTorch}

-- a legal place in the box of the cave, and these classes have no torch there yet
pub record IsFree (cave : Cave) (classes : List Class) (torch : ToldTorch) : Type 0 where
  pub inside : IsTrue (is_within cave.size (point_of torch))
  pub legal : IsTrue (is_legal cave (cell_of cave.size torch) torch.hang)
  pub untaken : IsTrue (slice_index_or classes (cell_of cave.size torch) void).put

-- the torch may go where it is, and was put there
pub record PutsTorch (cave : Cave) (torch : ToldTorch) (old new : List Class) : Type 0 where
  pub free : IsFree cave old torch
  pub put : new ≡ set old (cell_of cave.size torch) new_torch

-- all torches may go where they are, and these are the classes with them
pub record ArePut (cave : Cave) (torches : List ToldTorch) (classes : List Class) : Type 0 where
  pub stand : AllMayStand cave torches
  pub put : classes ≡ classes_with cave.classes (map (cell_of cave.size) torches)
