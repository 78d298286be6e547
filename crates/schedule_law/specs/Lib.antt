-- public clauses cite
pub mod Worked
pub mod Joined
pub mod Listing
pub mod Names
