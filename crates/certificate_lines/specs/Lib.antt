-- public clauses cite
pub mod Nodes
pub mod Steps
pub mod Kinds
pub mod Numbers
pub mod Decides
pub mod Said
pub mod Orders
pub mod Sound
pub mod Cuts
pub mod Moves
pub mod Walked
pub mod Held
-- private
pub mod Keeping
pub mod Shares
