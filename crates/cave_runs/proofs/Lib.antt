pub mod RunLemmas
pub mod PlanRunLemmas
pub mod CheckRunLemmas
pub mod LevelsRunLemmas
pub mod RowsRunLemmas
