-- public clauses cite
pub mod Region
pub mod Columns
pub mod Cover
pub mod Splitting
-- private
pub mod Restricting
pub mod Joining
pub mod Grouping
pub mod Trees
