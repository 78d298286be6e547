pub mod CellLemmas
pub mod ClassLemmas
