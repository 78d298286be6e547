-- public clauses cite
pub mod Options
pub mod Requests
pub mod Versions
pub mod Mistakes
