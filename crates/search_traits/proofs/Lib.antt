pub mod DeskLemmas
pub mod DeskRules
pub mod PlannedLemmas
pub mod TurnLemmas
