-- public clauses cite
pub mod State
pub mod Events
pub mod Plays
pub mod Assembled
pub mod Sound
pub mod Laws
pub mod Kept
pub mod Waiting
-- private
pub mod Shape
pub mod Finished
pub mod Codes
pub mod NodeShape
pub mod Falls
pub mod Tracing
pub mod Opening
pub mod Joining
pub mod Moving
pub mod WaitingNames
