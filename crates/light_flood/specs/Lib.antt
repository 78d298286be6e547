-- public clauses cite
pub mod Levels
pub mod Reached
-- private
pub mod Spreading
