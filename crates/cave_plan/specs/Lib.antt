-- public clauses cite
pub mod PlanText
pub mod Course
pub mod Outline
pub mod Bounded
pub mod Best
pub mod Faults
