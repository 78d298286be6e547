pub mod PassLemmas
pub mod HeapLemmas
pub mod HoldingLemmas
pub mod PartLemmas
pub mod TakeLemmas
pub mod JoinLemmas
pub mod DeskRules
