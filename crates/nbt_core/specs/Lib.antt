-- public clauses cite
pub mod Value
pub mod Code
pub mod Weight
pub mod View
pub mod Falls
pub mod Ids
pub mod Spelling
pub mod Breaking
pub mod Texts
pub mod Reading
pub mod TreeReading
pub mod Skipping
-- private
pub mod LeafReading
