-- public clauses cite
pub mod Rows
pub mod Shipped
pub mod Columns
pub mod UserTable
pub mod Texts
-- private
pub mod Lines
pub mod Judging
