pub mod TallyLemmas
pub mod TestLemmas
pub mod LeafLemmas
pub mod ClaimedLemmas
pub mod LitLemmas
pub mod LoadLemmas
