-- A planned region as the code holds it.
use Rattle.std.specs.Prelude.{List, map}
use Rattle.std.specs.Arc.{arc_value}
use Rattle.std.specs.declared.sync.Arc.{Arc}
use Rattle.instance_regions.specs.declared.cover.Cover.{Cover}
use Rattle.instance_regions.specs.declared.region.Region.{Region}
use Rattle.proof_tree.specs.declared.proof.Proof.{Proof}
use Rattle.proof_tree.specs.Shape.{tree_of}
use Rattle.certificate_text.specs.Planned.{Plan}

-- a region, a cover and a tree; Z is how an `Arc` gets its memory
abbrev pub plan_of : {Z : Type 0} → Arc Region Z × Cover × Proof → Plan
plan_of part = record { region = arc_value part.0; torches = part.1.places; tree = tree_of part.2 }

-- a plan of each of the parts, in their order
abbrev pub plans_of : {Z : Type 0} → List (Arc Region Z × Cover × Proof) → List Plan
plans_of parts = map plan_of parts
