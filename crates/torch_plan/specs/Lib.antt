-- public clauses cite
pub mod Kept
pub mod Answers
pub mod Usage
pub mod Given
pub mod Memory
