-- public clauses cite
pub mod Claims
pub mod Held
pub mod Rooms
