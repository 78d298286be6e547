-- public clauses cite
pub mod Properties
pub mod Scan
pub mod Judging
pub mod Faults
pub mod Mapping
pub mod Texts
-- private
pub mod Answer
pub mod Told
pub mod Cells
pub mod Named
