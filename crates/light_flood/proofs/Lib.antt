pub mod WaitingLemmas
pub mod SpreadLemmas
pub mod PassLemmas
pub mod LevelLemmas
pub mod FloodLemmas
pub mod ReachLemmas
pub mod DarkLemmas
