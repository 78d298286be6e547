pub mod AtNodeLemmas
pub mod PieceLemmas
pub mod StepRules
