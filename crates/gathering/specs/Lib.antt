-- public clauses cite
pub mod Playing
pub mod Gathered
pub mod Counted
-- private
pub mod Gleaning
