-- public clauses cite
pub mod AtNode
-- private
pub mod Stepped
