pub mod MemoryLemmas
pub mod PlanLemmas
pub mod RunLemmas
pub mod StatusLemmas
