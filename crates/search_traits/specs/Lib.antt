-- public clauses cite
pub mod Sizes
pub mod Turns
pub mod Desks
pub mod Alone
pub mod Aimed
pub mod Pieces
pub mod Planned
pub mod Faults
pub mod Planning
