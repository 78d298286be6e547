-- public clauses cite
pub mod Sources
pub mod Status
