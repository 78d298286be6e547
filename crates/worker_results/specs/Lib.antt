-- public clauses cite
pub mod Naming
pub mod Passes
pub mod Holdings
pub mod Results
pub mod Steps
pub mod Tries
pub mod Joining
-- private
pub mod Nothing
pub mod Parting
pub mod Taking
