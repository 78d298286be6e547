-- public clauses cite
pub mod PlanLines
pub mod Placed
pub mod Texts
-- private
pub mod Fields
pub mod Walked
pub mod Putting
