-- public clauses cite
pub mod Marks
-- private
pub mod Rule
