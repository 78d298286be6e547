-- public clauses cite
pub mod Cells
pub mod Rule
pub mod RuleOf
pub mod Cave
pub mod Light
pub mod Passages
pub mod Relaxation
pub mod Listing
pub mod Least
pub mod Spawn
pub mod Torches
pub mod Plan
pub mod Coverage
pub mod Regions
-- private
pub mod Faces
pub mod Parts
