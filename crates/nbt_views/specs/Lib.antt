-- public clauses cite
pub mod Parts
pub mod Fields
pub mod Borrowed
-- private
pub mod Entry
