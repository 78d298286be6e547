-- What is printed of a plan: how many torches and dark cells there are, a line a torch, and each layer with a torch.
-- The text is this project's own.
use Rattle.std.specs.Prelude.{ℕ, zero, suc, Bool, nat_eq, nat_lt, if◌then◌else◌, List, [], ◌++◌, length, codes}
use Rattle.std.specs.Prelude.{Option, Some, None, unwrap_or}
use Rattle.std.specs.Fmt.{decimal}
use Rattle.std.specs.List.{flat_map, list_any}
use Rattle.cave_base.specs.Box.{coordinates, number}
use Rattle.cave_base.specs.declared.class.Class.{Class}
use Rattle.cave_model.specs.Cave.{Cave, class_at}
use Rattle.cave_model.specs.Torches.{hang_of}
use Rattle.cave_model.specs.declared.hang.Hang.{Hang}
use Rattle.cave_model.specs.declared.hang.Hang.TheVariants.{Floor, North, East, South, West}

-- how a torch hangs, in a word
abbrev pub hang_word : Hang → List ℕ
hang_word Floor = codes "floor"
hang_word North = codes "north"
hang_word East = codes "east"
hang_word South = codes "south"
hang_word West = codes "west"

-- how a torch hangs, as it is drawn in a layer
abbrev pub hang_mark : Hang → List ℕ
hang_mark Floor = codes "T"
hang_mark North = codes "^"
hang_mark East = codes ">"
hang_mark South = codes "v"
hang_mark West = codes "<"

-- how the torch in the cell hangs: by the first legal hang
abbrev pub hang_at : Cave → ℕ → Hang
hang_at cave cell = unwrap_or (hang_of cave cell) Floor

-- whether one of the torches is in the cell
abbrev pub is_torch : List ℕ → ℕ → Bool
is_torch torches cell = list_any (λ torch. nat_eq torch cell) torches

-- a present light, room, or any other block
abbrev pub block_mark : Class → List ℕ
block_mark class = if nat_lt 0 class.emission then codes "*" else (if class.free then codes "." else codes "#")

-- a new torch by its hang, else what the cell holds
abbrev pub mark_at : Cave → List ℕ → ℕ → List ℕ
mark_at cave torches cell = if is_torch torches cell then hang_mark (hang_at cave cell)
    else block_mark (class_at cave cell)

-- the texts of the numbers below n, one after another
unfoldable pub up_to : (ℕ → List ℕ) → ℕ → List ℕ
up_to text zero = []
up_to text (suc n) = up_to text n ++ text n

-- the cells of a row, and a line feed
abbrev pub row_text : Cave → List ℕ → ℕ → ℕ → List ℕ
row_text cave torches y z =
    up_to (λ x. mark_at cave torches (number cave.size (record { x = x; y = y; z = z }))) cave.size.x ++ codes "\n"

-- a torch stands in the layer
abbrev pub has_torch : Cave → List ℕ → ℕ → Bool
has_torch cave torches y = list_any (λ torch. nat_eq (coordinates cave.size torch).y y) torches

-- the layer's height, and its rows
abbrev pub layer_text : Cave → List ℕ → ℕ → List ℕ
layer_text cave torches y = codes "layer " ++ (decimal y ++ (codes "\n" ++ up_to (row_text cave torches y) cave.size.z))

-- the layer, where a torch stands in it
abbrev pub layer_if : Cave → List ℕ → ℕ → List ℕ
layer_if cave torches y = if has_torch cave torches y then layer_text cave torches y else []

-- a torch on a line of its own
abbrev pub torch_line : Cave → ℕ → List ℕ
torch_line cave cell = codes "T " ++ (decimal (coordinates cave.size cell).x
    ++ (codes " " ++ (decimal (coordinates cave.size cell).y
    ++ (codes " " ++ (decimal (coordinates cave.size cell).z
    ++ (codes " " ++ (hang_word (hang_at cave cell) ++ codes "\n")))))))

-- how many torches and dark cells; of a stopped plan also the number that no safe torches are fewer than
abbrev pub head_text : ℕ → ℕ → Option ℕ → List ℕ
head_text torches dark None = codes "torches " ++ (decimal torches ++ (codes "\ndark " ++ (decimal dark ++ codes "\n")))
head_text torches dark (Some floor) =
    codes "torches " ++ (decimal torches ++ (codes " at-least "
    ++ (decimal floor ++ (codes "\ndark " ++ (decimal dark ++ codes "\n")))))

-- the text of these torches, in the order of their cells, of a cave with `dark` dark cells
abbrev pub plan_text : Cave → List ℕ → ℕ → Option ℕ → List ℕ
plan_text cave torches dark floor = head_text (length torches) dark floor
    ++ (flat_map (torch_line cave) torches ++ up_to (layer_if cave torches) cave.size.y)
