-- public clauses cite
pub mod Bits
pub mod Counts
pub mod Instance
pub mod Numbering
pub mod Rows
pub mod Buckets
pub mod Sparse
