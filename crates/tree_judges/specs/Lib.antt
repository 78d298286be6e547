-- public clauses cite
pub mod Bars
pub mod Kids
pub mod Omission
pub mod Decided
pub mod Thinning
-- private
pub mod Weighted
