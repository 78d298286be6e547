pub mod SeatLemmas
pub mod MarkLemmas
pub mod StepLemmas
pub mod SplitLemmas
