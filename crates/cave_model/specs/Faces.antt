-- The faces of a cell as the code names them.
use Rattle.cave_model.specs.Cells as cells
use Rattle.cave_model.specs.declared.face.Face.{Face}
use Rattle.cave_model.specs.declared.face.Face.TheVariants.{West, East, North, South, Below, Above}

-- the face of that name
abbrev pub face_of : Face → cells.Face
face_of West = cells.west
face_of East = cells.east
face_of North = cells.north
face_of South = cells.south
face_of Below = cells.below
face_of Above = cells.above
