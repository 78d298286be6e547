pub mod ListLemmas
pub mod OmitLemmas
pub mod WeightLemmas
pub mod GroupLemmas
pub mod CarryLemmas
pub mod BoundLemmas
pub mod LessLemmas
