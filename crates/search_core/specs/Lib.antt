-- public clauses cite
pub mod SoFar
pub mod Begun
pub mod Rounds
