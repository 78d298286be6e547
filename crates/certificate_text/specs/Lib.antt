-- public clauses cite
pub mod Planned
pub mod PlanOf
pub mod Writing
pub mod Texts
-- private
pub mod Sections
pub mod Heading
pub mod Lines
pub mod Sending
