-- public clauses cite
pub mod Crew
