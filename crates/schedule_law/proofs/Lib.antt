pub mod PieceLemmas
pub mod KidLemmas
pub mod LongLemmas
pub mod TurnLemmas
pub mod StepLemmas
pub mod BestLemmas
pub mod LawLemmas
pub mod OrderLemmas
