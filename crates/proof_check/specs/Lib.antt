-- public clauses cite
pub mod Accepted
pub mod Refused
pub mod Faults
pub mod Verdict
pub mod Texts
pub mod Reading
pub mod ReadCheck
-- private
pub mod Judged
pub mod Track
pub mod Kept
pub mod Homes
pub mod Ends
pub mod Heard
pub mod Ending
pub mod Tried
