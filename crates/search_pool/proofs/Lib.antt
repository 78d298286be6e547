pub mod CrewLemmas
pub mod ReportLemmas
pub mod SlotLemmas
pub mod StartLemmas
