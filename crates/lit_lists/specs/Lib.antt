-- public clauses cite
pub mod Relaxing
pub mod Seeded
pub mod Reached
pub mod Lists
pub mod Rows
pub mod Filling
