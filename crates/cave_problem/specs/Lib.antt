-- public clauses cite
pub mod Coverage
pub mod Texts
-- private
pub mod Blocks
pub mod Filling
pub mod BlockFlood
pub mod Reach
pub mod Storing
pub mod Unlit
