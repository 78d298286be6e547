pub mod TotalLemmas
pub mod StepLemmas
pub mod LendLemmas
pub mod LastLemmas
