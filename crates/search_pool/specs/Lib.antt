-- public clauses cite
pub mod Reports
pub mod Runs
pub mod Tallies
-- private
pub mod Deques
pub mod Rows
pub mod Seats
pub mod Slots
pub mod Unruns
