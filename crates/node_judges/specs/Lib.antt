-- public clauses cite
pub mod Settings
pub mod Tally
pub mod Tests
pub mod Weighed
-- private
pub mod Loads
