-- public clauses cite
pub mod Shape
pub mod Piece
pub mod Opened
pub mod Weights
pub mod Order
pub mod Bars
-- private
pub mod Kids
pub mod Branchings
pub mod Codes
pub mod Falls
