-- private
pub mod Made
