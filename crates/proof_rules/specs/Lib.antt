-- public clauses cite
pub mod Groups
pub mod Tree
pub mod Omitted
pub mod Good
pub mod Certificate
pub mod Text
