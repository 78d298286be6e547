-- public clauses cite
pub mod World
pub mod Bytes
pub mod Merging
pub mod Texts
-- private
pub mod Building
