-- public clauses cite
pub mod Deals
pub mod Rule
pub mod Owners
