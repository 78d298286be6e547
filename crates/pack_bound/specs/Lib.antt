-- public clauses cite
pub mod Indices
pub mod Nodes
pub mod Judged
pub mod Packing
pub mod Naming
pub mod Pieces
-- private
pub mod Greedy
pub mod Pairs
pub mod Openings
